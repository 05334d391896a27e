-- `is_place_end` meets its contract: its flags are those of `place_end`.
use Rattle.whole.specs.Tests.{out-is, eq_flag, lit-flag}
use Rattle.kernel.proofs.joint.is_place_end.Goals as goal

pub returns : goal.returns
returns c = simp (eq_flag, lit-flag 0 tt, lit-flag 1 tt, out-is, c.ranges.kind, c.ranges.h, c.ranges.w)

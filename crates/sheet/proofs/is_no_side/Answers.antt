-- `is_no_side` meets its contract: its five tests are those of `no_side`.
use Rattle.whole.specs.Tests.{out-is, lit-flag}
use Rattle.sheet.proofs.is_no_side.Goals as goal

pub returns : goal.returns
returns c = simp (out-is, lit-flag 0 tt, c.ranges.n, c.ranges.a, c.ranges.b, c.ranges.c)

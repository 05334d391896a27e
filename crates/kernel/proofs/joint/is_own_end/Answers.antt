-- `is_own_end` meets its contract: its flags are those of `own_end`.
use Rattle.whole.specs.Tests.{out-is, lit-flag}
use Rattle.kernel.proofs.joint.is_own_end.Goals as goal

pub returns : goal.returns
returns c =
    let f = c.ranges in
    simp (c.are_equal.ensures, c.are_equal-2.ensures, lit-flag 1 tt, out-is, f.kind, f.px, f.py, f.qx, f.qy, f.x, f.y)

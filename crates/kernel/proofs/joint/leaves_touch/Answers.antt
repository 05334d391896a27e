-- `leaves_touch` meets its contract: nothing is left out where joints are asked for, and elsewhere its flags are those of both.
use Rattle.whole.specs.Tests.{out-is}
use Rattle.kernel.proofs.joint.leaves_touch.Goals as goal

pub returns : goal.returns
returns c =
    let f = c.ranges in
    simp (c.is_own_end.ensures, c.is_own_end-2.ensures, c.if-joints.false, out-is, f.ka, f.px, f.py, f.qx, f.qy, f.kb, f.rx, f.ry, f.sx, f.sy, f.x, f.y)

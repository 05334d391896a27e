-- `leaves_place` meets its contract: nothing is left out where joints are asked for, and elsewhere its flags are those of both.
use Rattle.whole.specs.Tests.{out-is}
use Rattle.kernel.proofs.joint.leaves_place.Goals as goal

pub returns : goal.returns
returns c =
    let f = c.ranges in
    simp (c.is_place_end.ensures, c.is_place_end-2.ensures, c.if-joints.false, out-is, f.ka, f.h, f.kb, f.g, f.w)

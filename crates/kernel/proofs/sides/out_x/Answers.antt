-- `out_x` meets its contract: the tests of n are those of `side_of`.
use mathlib.Core.Path.{sym, ap}
use Rattle.sheet.specs.Figure.{out_x}
use Rattle.kernel.specs.Kinds.{side-one, side-two, side-three, side-four}
use Rattle.kernel.proofs.sides.out_x.Goals as goal

pub returns-then-n-eq1 : goal.returns-then-n-eq1
returns-then-n-eq1 c = sym (ap out_x (side-one c.ranges.n c.if-n-eq1.true))

pub returns-then-n-eq2 : goal.returns-then-n-eq2
returns-then-n-eq2 c = sym (ap out_x (side-two c.ranges.n c.if-n-eq2.true))

pub returns-then-n-eq3 : goal.returns-then-n-eq3
returns-then-n-eq3 c = sym (ap out_x (side-three c.ranges.n c.if-n-eq3.true))

pub returns : goal.returns
returns c =
    let n = c.args.n in
    sym (ap out_x (side-four n c.if-n-eq1.false c.if-n-eq2.false c.if-n-eq3.false))

-- `side_begins` meets its contract: the tests of n are those of `side_of`, and each corner is where that side begins.
use mathlib.Core.Path.{sym, ◌∙◌, ap}
use Rattle.sheet.specs.Ends.{begins}
use Rattle.kernel.specs.Kinds.{side-one, side-two, side-three, side-four}
use Rattle.kernel.proofs.ends.side_begins.Goals as goal

pub returns-then-n-eq1 : goal.returns-then-n-eq1
returns-then-n-eq1 c = c.corner.ensures ∙ sym (ap begins (side-one c.ranges.n c.if-n-eq1.true))

pub returns-then-n-eq2 : goal.returns-then-n-eq2
returns-then-n-eq2 c = c.corner-then-n-eq2.ensures ∙ sym (ap begins (side-two c.ranges.n c.if-n-eq2.true))

pub returns-then-n-eq3 : goal.returns-then-n-eq3
returns-then-n-eq3 c = c.corner-then-n-eq3.ensures ∙ sym (ap begins (side-three c.ranges.n c.if-n-eq3.true))

pub returns : goal.returns
returns c =
    c.corner-2.ensures ∙ sym (ap begins (
    side-four c.args.n c.if-n-eq1.false c.if-n-eq2.false c.if-n-eq3.false))

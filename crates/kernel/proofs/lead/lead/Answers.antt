-- `lead` meets its contract: where a is 0 its sign is, and that of b is left; else the sign of a is not 0.
use mathlib.Core.Path.{sym, ◌∙◌, ap}
use Rattle.whole.specs.Sign.{sgn}
use Rattle.whole.specs.SignLaws.{sgn-zero}
use Rattle.whole.specs.Tests.{out-is, out-ok, eq-left, gave, lit-taken}
use Rattle.whole.specs.ChoiceLaws.{or-ne}
use Rattle.kernel.proofs.lead.lead.Goals as goal

pub returns-then-a-eq0 : goal.returns-then-a-eq0
returns-then-a-eq0 c =
    let zero = lit-taken 0 tt c.ranges.a c.if-a-eq0.true in
    out-ok c.sign.result c.sign.type_inv
    ∙ simp (c.sign.ensures, out-is, c.ranges.b, zero, sgn-zero)

pub returns : goal.returns
returns c =
    gave c.sign-2.type_inv c.sign-2.ensures ∙ ap sgn (out-is c.ranges.a)
    ∙ sym (or-ne c.args.a (sgn c.args.b) (eq-left c.if-a-eq0.false))

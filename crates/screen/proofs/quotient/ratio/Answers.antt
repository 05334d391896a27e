-- `ratio` meets its contract: both numbers are within 2 ^ 53, as the casts ask, and their quotient is near the fraction (`quotient-near`).
use mathlib.Core.Path.{sym, ap₂, subst}
use Rattle.whole.specs.Bound.{w-lit}
use Rattle.whole.specs.Flat.{back}
use Rattle.screen.specs.Quotient.{Near, quotient}
use Rattle.screen.proofs.QuotientLaws.{in-float, quotient-near}
use Rattle.screen.proofs.quotient.ratio.Goals as goal

pub int_to_float-result : goal.int_to_float-result
int_to_float-result c = in-float (w-lit c.requires.in_n tt)

pub int_to_float-result-2 : goal.int_to_float-result-2
int_to_float-result-2 c = in-float (w-lit c.requires.in-w.at_most tt)

pub returns : goal.returns
unfolding quotient
returns c =
    let e = ap₂ quotient (back c.requires.in_n tt) (back c.requires.in-w.at_most tt) in
    (e, subst (Near c.args.n c.args.w) (sym e) (quotient-near c.requires))

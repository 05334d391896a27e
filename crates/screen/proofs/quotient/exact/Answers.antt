-- `exact` meets its contract: a number within 2,000 is within 2 ^ 53, as the cast asks.
use mathlib.Core.Path.{ap}
use Rattle.whole.specs.Bound.{w-lit}
use Rattle.whole.specs.Flat.{back}
use Rattle.screen.specs.Quotient.{float}
use Rattle.screen.proofs.QuotientLaws.{in-float}
use Rattle.screen.proofs.quotient.exact.Goals as goal

pub int_to_float-result : goal.int_to_float-result
int_to_float-result c = in-float (w-lit c.requires tt)

pub returns : goal.returns
unfolding float
returns c = ap float (back c.requires tt)

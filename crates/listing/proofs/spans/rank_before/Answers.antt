-- `rank_before` meets its contract: the last of its x, or one x with the object behind it.
use mathlib.Core.Path.{sym, ◌∙◌}
use native.Mathlib.Omega.{arith}
use Rattle.listing.specs.OrderLaws.{next-step, next-same}
use Rattle.listing.proofs.spans.rank_before.Goals as goal

pub returns-then-is_left_of : goal.returns-then-is_left_of
returns-then-is_left_of c = next-step c.requires.2 (omega arith) (sym c.is_left_of.ensures ∙ c.if-is_left_of.true)

pub returns : goal.returns
returns c = next-same c.requires.2 (omega arith) (sym c.is_left_of.ensures ∙ c.if-is_left_of.false) c.requires.3

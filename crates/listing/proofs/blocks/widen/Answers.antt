-- `widen` meets its contract: the second number, the larger one, or the smaller one.
use native.Mathlib.Omega.{arith}
use Rattle.listing.specs.BlocksLaws.{widened-first, widened-up, widened-down}
use Rattle.listing.proofs.blocks.widen.Goals as goal

pub returns-then-first : goal.returns-then-first
returns-then-first c = widened-first c.if-first.true

pub returns-then-larger : goal.returns-then-larger
returns-then-larger c = widened-up c.if-larger.true (omega (arith, c.max.ensures)) (omega (arith, c.max.ensures))

pub returns-else-larger : goal.returns-else-larger
returns-else-larger c = widened-down c.if-larger.false (omega (arith, c.min.ensures)) (omega (arith, c.min.ensures))

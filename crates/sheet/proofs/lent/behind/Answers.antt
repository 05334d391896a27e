-- `behind` meets its contract: the sum, or the largest where the sum passes it.
use Rattle.sheet.specs.Lent.{clipped}
use Rattle.sheet.proofs.lent.behind.Goals as goal

pub returns : goal.returns
unfolding clipped
returns c = c.saturating_add.ensures

-- `put_number` meets its contract: the sign and the size of a number are its text.
use Rattle.decimal.specs.DecimalLaws.{signed-out}
use Rattle.sheet.specs.LentLaws.{wrote_as}
use Rattle.decimal.proofs.put_number.Goals as goal

pub returns : goal.returns
returns c = wrote_as c.put_sized.ensures (signed-out c.ranges.n c.size.ensures)

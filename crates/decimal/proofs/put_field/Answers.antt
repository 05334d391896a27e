-- `put_field` meets its contract: a blank and then the number.
use mathlib.Core.Path.{ap}
use Rattle.whole.specs.Tests.{out-is}
use Rattle.decimal.specs.Decimal.{signed}
use Rattle.sheet.specs.LentLaws.{wrote-two, wrote_as}
use Rattle.decimal.proofs.put_field.Goals as goal

pub returns : goal.returns
returns c =
    let byte = c.put_byte-next.ensures in
    let number = c.put_number.ensures in
    wrote-two byte (wrote_as number (ap signed (out-is c.ranges.n)))

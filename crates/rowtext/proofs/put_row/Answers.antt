-- `put_row` meets its contract: its five parts stand one after another.
use mathlib.Core.Path.{ap}
use lib.IntN.{pos}
use lib.ListN.{get_or}
use Rattle.whole.specs.Tests.{out-ok}
use Rattle.sheet.specs.LentLaws.{wrote-two, wrote_as}
use Rattle.decimal.specs.Decimal.{signed}
use Rattle.rowtext.specs.Text.{row_text}
use Rattle.rowtext.proofs.put_row.Goals as goal

pub returns : goal.returns
unfolding row_text
returns c =
    let row = c.args.row.now in
    let number = ap signed (out-ok (get_or row 0 (pos 0)) c.i-1.given) in
    let i = wrote_as c.put_number-first.ensures number in
    let j = c.put_fields-second.ensures in
    wrote-two (wrote-two (wrote-two (wrote-two i j) c.put_shared-shared.ensures) c.put_fields-tags.ensures) c.put_byte.ensures

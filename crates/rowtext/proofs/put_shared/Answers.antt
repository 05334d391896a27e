-- `put_shared` meets its contract: the third number of the row is 1, or it is not.
use mathlib.Core.Path.{sym}
use lib.IntN.{pos}
use lib.ListN.{get_or}
use Rattle.whole.specs.Tests.{fits-ok, lit-taken}
use Rattle.sheet.specs.LentLaws.{wrote-two, wrote_as}
use Rattle.rowtext.specs.TextLaws.{shared-point}
use Rattle.rowtext.proofs.put_shared.Goals as goal

pub returns-then-how-eq1 : goal.returns-then-how-eq1
returns-then-how-eq1 c =
    let row = c.args.row.now in
    let how = lit-taken 1 tt (fits-ok (get_or row 2 (pos 0)) c.how-1.given) c.if-how-eq1.true in
    wrote_as (wrote-two c.put_text-next.ensures c.put_fields.ensures) (sym (shared-point row how))

-- `write_all` meets its contract: what stands before the objects, and the objects behind it.
use mathlib.Core.List.{append_assoc}
use Rattle.sheet.specs.LentLaws.{wrote-two, wrote_as}
use Rattle.sheet.specs.Lists.{count_of}
use Rattle.number.specs.Number.{write_number}
use Rattle.store.specs.Forms.{write_mark}
use Rattle.store.specs.Stored.{write_drawing}
use Rattle.store.proofs.writing.write_all.Goals as goal

pub returns : goal.returns
unfolding write_drawing
returns c =
    let a = c.args in
    wrote_as (wrote-two c.write_head-next.ensures c.write_objects.ensures)
    (append_assoc (write_mark a.form) (write_number (count_of a.list.now)) _)

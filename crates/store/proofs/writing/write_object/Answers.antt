-- `write_object` meets its contract: the kind and the tag, and the shape behind them.
use mathlib.Core.List.{append_assoc}
use lib.IntN.{nat_abs}
use Rattle.sheet.specs.LentLaws.{wrote-two, wrote_as}
use Rattle.number.specs.Number.{write_number}
use Rattle.store.specs.Forms.{write_tag}
use Rattle.store.specs.Stored.{write_object}
use Rattle.store.proofs.writing.write_object.Goals as goal

pub returns : goal.returns
unfolding write_object
returns c =
    let a = c.args in
    wrote_as (wrote-two c.write_front-next.ensures c.write_shape.ensures)
    (append_assoc (write_number (nat_abs a.o.kind)) (write_tag a.form a.o.tag) _)

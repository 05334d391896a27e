-- `write_objects` meets its contract: after i turns the first i objects stand there.
use mathlib.Core.Path.{sym, ap}
use native.Mathlib.Omega.{arith}
use Rattle.whole.specs.InTurn.{in_turn}
use Rattle.sheet.specs.LentLaws.{wrote_none, wrote-two, wrote_as}
use Rattle.sheet.specs.Lists.{object_at}
use Rattle.store.specs.Stored.{write_object}
use Rattle.store.specs.BoundedLaws.{accepted-bounded}
use Rattle.store.specs.ListLaws.{objects-more}
use Rattle.store.proofs.writing.write_objects.Goals as goal

pub loop-i-init : goal.loop-i-init
unfolding in_turn
loop-i-init c = (omega arith, wrote_none (omega arith) (omega arith))

pub write_object-to-requires : goal.write_object-to-requires
write_object-to-requires c =
    let i = c.loop-i.i in
    simp c.object_at-object.ensures (accepted-bounded (object_at c.args.list.now i) (c.requires.0.each i (omega (arith, c.requires.1))).accepted)

pub loop-i-preserved : goal.loop-i-preserved
loop-i-preserved c =
    let l = c.loop-i in
    let a = c.args in
    let one = wrote_as c.write_object-to.ensures (ap (write_object a.form) c.object_at-object.ensures) in
    (omega arith, wrote_as (wrote-two l.invariant.1 one) (sym (objects-more a.form l.i a.list.now)))

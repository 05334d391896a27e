-- `check_objects` meets its contract: after i turns none of the first i objects is refused; the first that is refused ends it.
use mathlib.Core.Path.{refl, sym, ap, ◌∙◌}
use native.Mathlib.Omega.{arith}
use Rattle.whole.specs.InTurn.{in_turn}
use Rattle.sheet.specs.Refusal.{object_refusal}
use Rattle.sheet.specs.RefusedLaws.{no-zero, refused-from}
use Rattle.sheet.specs.Lists.{count_of}
use Rattle.sheet.specs.ListsLaws.{one-accepted, one-refused}
use Rattle.sheet.proofs.lists.check_objects.Goals as goal

pub loop-i-init : goal.loop-i-init
unfolding in_turn
loop-i-init c = refl

pub returns-in_err-check_object : goal.returns-in_err-check_object
returns-in_err-check_object c =
    let l = c.args.list.now in
    let is = c.in_err-check_object.ensures.value ∙ ap object_refusal c.object_at.ensures in
    refused-from _ _ c.from_residual.ensures.1 ∙ is
    ∙ one-refused l c.loop-i.i c.loop-i.invariant (count_of l) (omega arith) (λ z. no-zero _ (is ∙ z))

pub loop-i-preserved : goal.loop-i-preserved
loop-i-preserved c =
    let is = c.in_ok-check_object.ensures.value ∙ ap object_refusal c.object_at.ensures in
    one-accepted c.args.list.now c.loop-i.i c.loop-i.invariant (sym is)

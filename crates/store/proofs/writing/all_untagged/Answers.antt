-- `all_untagged` meets its contract: after i turns the flag is that of the first i objects.
use mathlib.Core.Path.{◌≡◌, refl, sym, ap, ap₂, ◌∙◌}
use mathlib.Core.Bool.{true, ◌&&◌}
use native.Mathlib.Omega.{arith}
use lib.Dec.{eqb}
use mir.Syntax.{w64}
use mir.Val.{of_z}
use borrow.Author.Rules.{rules}
use Rattle.whole.specs.InTurn.{in_turn}
use Rattle.whole.specs.InTurnLaws.{turn_more}
use Rattle.whole.specs.Tests.{fits-ok, lit-flag}
use Rattle.whole.specs.Flag.{eq_z}
use Rattle.sheet.specs.declared.Object.{Object}
use Rattle.sheet.specs.Lists.{object_at}
use Rattle.store.specs.Forms.{untagged}
use Rattle.store.proofs.writing.all_untagged.Goals as goal

pub loop-i-init : goal.loop-i-init
unfolding in_turn
loop-i-init c = (search rules, refl)

pub loop-i-preserved : goal.loop-i-preserved
loop-i-preserved c =
    let l = c.args.list.now in
    let tag = c.object_at-o.result.tag in
    let here : eqb (of_z w64 tag) 0 ≡ eq_z (object_at l c.loop-i.i).tag untagged =
    lit-flag 0 tt (fits-ok tag (omega arith)) ∙ ap (λ (o : Object). eq_z o.tag untagged) c.object_at-o.ensures in
    (omega arith, ap₂ ◌&&◌ c.loop-i.invariant.1 here ∙ sym (turn_more ◌&&◌ true (λ i. eq_z (object_at l i).tag untagged) c.loop-i.i))

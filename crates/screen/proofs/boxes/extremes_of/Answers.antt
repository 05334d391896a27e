-- `extremes_of` meets its contract.
use Rattle.std.proofs.Common.{refl, sym, ◌∙◌, ap, ℕ, List, [], ◌++◌, None}
use Rattle.whole.specs.InTurn.{in_turn, all_of}
use Rattle.whole.specs.InTurnLaws.{turn_more}
use Rattle.sheet.specs.Figure.{Vec, figure}
use Rattle.screen.specs.Boxes.{standard_ends, ends_at}
use Rattle.screen.specs.Extremes.{with_ends}
use Rattle.screen.specs.BoxesLaws.{ends-two}
use Rattle.screen.proofs.boxes.extremes_of.Goals as goal

pub loop-i-init : goal.loop-i-init
unfolding with_ends in_turn
loop-i-init c = refl

pub loop-i-preserved : goal.loop-i-preserved
loop-i-preserved c =
    let ends : ℕ → List Vec = λ i. ends_at c.args.list.now i in
    let i = c.loop-i.i in
    c.with_object-extremes.ensures
    ∙ (λ k. with_ends (c.loop-i.invariant k) (standard_ends (figure (c.object_at.ensures k))))
    ∙ sym (ends-two None (all_of ends i) (ends i))
    ∙ ap (with_ends None) (sym (turn_more ◌++◌ [] ends i))

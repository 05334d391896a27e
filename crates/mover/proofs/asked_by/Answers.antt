-- `asked_by` meets its contract, by how the word compares with the two words.
use Rattle.std.proofs.Common.{sym, ◌∙◌}
use Rattle.std.proofs.lemmas.Bool.Decides.{Decides-eqb}
use Rattle.std.proofs.lemmas.Slice.Eq.{slice_eq-Decides}
use Rattle.mover.specs.ToldLaws.{is-new, is-old, is-neither}
use Rattle.mover.proofs.asked_by.Goals as goal

pub returns-then-eq : goal.returns-then-eq
returns-then-eq c =
    let first = slice_eq-Decides Decides-eqb _ _ _ c.eq.ensures in
    is-new _ (first.0 c.if-eq.true ∙ c.as_slice.ensures)

pub returns-then-eq-2 : goal.returns-then-eq-2
returns-then-eq-2 c =
    let second = slice_eq-Decides Decides-eqb _ _ _ c.eq-2.ensures in
    is-old _ (second.0 c.if-eq-2.true ∙ c.as_slice-2.ensures)

pub returns : goal.returns
returns c =
    let first = slice_eq-Decides Decides-eqb _ _ _ c.eq.ensures in
    let second = slice_eq-Decides Decides-eqb _ _ _ c.eq-2.ensures in
    is-neither _ _ _ c.if-eq.false c.if-eq-2.false (λ e. first.1 (e ∙ sym c.as_slice.ensures)) (λ e. second.1 (e ∙ sym c.as_slice-2.ensures))

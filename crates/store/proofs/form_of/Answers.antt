-- `form_of` meets its contract: the drawing's own refusal, or the form that stands before its objects.
use mathlib.Core.Path.{sym, ap, ◌∙◌}
use mathlib.Core.List.{[], ◌∷◌}
use lib.IntN.{pos}
use Rattle.sheet.specs.RefusedLaws.{no-zero, err-says, ok-says, says-from}
use Rattle.store.specs.declared.Form.{Form}
use Rattle.store.specs.Stored.{Drawing}
use Rattle.store.specs.Answers.{form_number, form_answer}
use Rattle.store.proofs.ObjectsLaws.{form-found, drawing-refused}
use Rattle.store.proofs.form_of.Goals as goal

pub returns-in_err-check_drawing : goal.returns-in_err-check_drawing
unfolding form_answer
returns-in_err-check_drawing c = says-from _ _ _ c.from_residual.ensures.1 ∙ err-says _ _ c.in_err-check_drawing.ensures

-- the head of an accepted drawing is read
pub returns-in_err-read_head : goal.returns-in_err-read_head
returns-in_err-read_head c =
    let is = ap (λ (d : Drawing). d.refusal) (drawing-refused c.args.bytes.now c.in_err-read_head.ensures.told) in
    absurd (no-zero _ (sym is ∙ sym c.in_ok-check_drawing.ensures))

pub returns : goal.returns
unfolding form_answer
returns c =
    ap (λ (f : Form). pos 0 ∷ form_number f ∷ []) (sym (form-found c.args.bytes.now c.in_ok-read_head.ensures.told))
    ∙ ok-says _ c.in_ok-check_drawing.ensures

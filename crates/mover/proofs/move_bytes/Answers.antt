-- `move_bytes` hands on the moved bytes, and only where the move is not refused, and answers the status of what was read.
use Rattle.std.proofs.Common.{◌≡◌, ℕ, List, pos, refl, sym, ap, ◌∙◌, length, length-take-le}
use Rattle.sheet.specs.RefusedLaws.{unfilled-zero}
use Rattle.store.specs.declared.Form.{Form}
use Rattle.store.specs.Forms.{longest}
use Rattle.store.specs.Stored.{move_refusal}
use Rattle.store.specs.Answers.{WriteSays, move_answer, move_into}
use Rattle.mover.specs.ToldLaws.{refusal_is, refused-told, Handed, handed, tells-moved, writes-refused, writes-moved}
use Rattle.mover.proofs.move_bytes.Goals as goal

-- where the move is not refused the moved bytes stand in front
accepted : (f : Form) (bs lent : List ℕ) (n : ℕ) (after : List ℕ) → length lent ≡ longest → record { refusal = pos 0; length = n } ≡ move_answer f bs lent
    → after ≡ move_into f bs lent → (move_refusal f bs ≡ pos 0) × Handed f bs after n
accepted f bs lent n after room d e =
    let ok = sym (ap (λ (r : WriteSays). r.refusal) d ∙ refusal_is f bs lent room) in (ok, handed f bs lent _ after room d e ok)

pub returns-in-Err : goal.returns-in-Err
returns-in-Err g c =
    let refusal = ap (λ (r : WriteSays). r.refusal) c.in-Err.ensures.answer ∙ refusal_is _ _ _ refl in
    let wrong = λ (e : move_refusal c.args.form c.args.drawing.now ≡ pos 0). unfilled-zero _ (refusal ∙ e) in
    record { tells = refused-told _ wrong; writes = writes-refused _ _ _ _ wrong }

pub slice_bounds-lent-end : goal.slice_bounds-lent-end
slice_bounds-lent-end g c = (accepted _ _ _ _ _ refl c.in-Ok.ensures.answer c.in-Ok.ensures.cells).1.within

pub slice_bounds-hand_moved-end : goal.slice_bounds-hand_moved-end
slice_bounds-hand_moved-end g c = sym (length-take-le _ _ (accepted _ _ _ _ _ refl c.in-Ok.ensures.answer c.in-Ok.ensures.cells).1.within)

pub hand_moved-requires-clause-drawing_value : goal.hand_moved-requires-clause-drawing_value
hand_moved-requires-clause-drawing_value g c = (accepted _ _ _ _ _ refl c.in-Ok.ensures.answer c.in-Ok.ensures.cells).0

pub hand_moved-requires-clause-bytes_value : goal.hand_moved-requires-clause-bytes_value
hand_moved-requires-clause-bytes_value g c = (accepted _ _ _ _ _ refl c.in-Ok.ensures.answer c.in-Ok.ensures.cells).1.text

pub returns-in-Ok : goal.returns-in-Ok
returns-in-Ok g c =
    let front = accepted _ _ _ _ _ refl c.in-Ok.ensures.answer c.in-Ok.ensures.cells in
    let sent = c.hand_moved in
    let status = c.status_of in
    record {
      tells = tells-moved sent.result _ _ status.result (sym front.0) front.0 status.ensures;
      writes = writes-moved sent.result _ _ status.result _ _ _ _ (sym front.0) front.0 status.ensures front.1.text sent.ensures;
    }

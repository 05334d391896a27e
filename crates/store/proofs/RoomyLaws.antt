-- Reading into a list that has room for every drawing, and writing what was read. To cite:
--   Roomy, roomy      what reading answers and leaves there
--   moves-refused     what is not read is not moved
--   moves-as-written  what was read, written in a form, is what the bytes are moved to
-- Assumes nothing.
use Rattle.std.specs.Prelude.{◌≡◌, refl, Bool, cond, List, ℕ, ◌*◌, ◌≤◌, ℤ, pos, length, take, Result, Err, IsErrAnd}
use Rattle.std.proofs.Common.{sym, ap, ◌∙◌, arith, le-ltb}
use Rattle.whole.specs.ChoiceLaws.{or-first, or-none}
use Rattle.whole.specs.Tests.{eq-eq_z, ne-eq_z}
use Rattle.sheet.specs.declared.refusal.Unfilled.{Unfilled}
use Rattle.sheet.specs.Refused.{unfilled_no, needed}
use Rattle.sheet.specs.RefusedLaws.{unfilled-zero, unfilled-from}
use Rattle.sheet.specs.Lent.{filled}
use Rattle.sheet.specs.LentLaws.{End, filled-front}
use Rattle.sheet.specs.Limits.{most}
use Rattle.sheet.specs.Lists.{width}
use Rattle.store.specs.declared.Form.{Form}
use Rattle.store.specs.Told.{read_told, write_told}
use Rattle.store.specs.Stored.{write_drawing, read_drawing, move_refusal, moved}
use Rattle.store.specs.Answers.{ReadSays, bytes_answer, read_answer, read_into, write_answer, write_into, move_answer, move_into}
use Rattle.store.specs.AnswersLaws.{move-ends}
use Rattle.store.proofs.MoveLaws.{few-numbers, move-writes}

pub record Roomy (bs : List ℕ) (r : ReadSays) (list : List ℤ) : Type 0 where
  -- what is refused is the drawing
  pub refusal : r.refusal ≡ (read_drawing bs).refusal
  -- and of an accepted one the objects are there
  pub few : (read_drawing bs).refusal ≡ pos 0 → r.length ≤ most * width
  pub front : (read_drawing bs).refusal ≡ pos 0 → take r.length list ≡ (read_drawing bs).objects

pub roomy :
    (bs : List ℕ) (lent : List ℤ) {r : ReadSays} {list : List ℤ} → length lent ≡ most * width → r ≡ read_answer (read_drawing bs) lent
    → list ≡ read_into (read_drawing bs) lent → Roomy bs r list
unfolding read_answer read_into
roomy bs lent {r} {list} l e g =
    record {
      refusal = ap (λ (r : ReadSays). r.refusal) e ∙ room;
      few = λ h. omega (arith, long h, few-numbers bs h);
      front = λ h. (λ i. take (e i).length (g i)) ∙ (filled-front (read_drawing bs).refusal (read_drawing bs).objects lent (room ∙ h)).1;
    }
  where
    long : (read_drawing bs).refusal ≡ pos 0 → r.length ≡ length (read_drawing bs).objects
    long h = ap (λ (r : ReadSays). r.length) e ∙ simp (eq-eq_z h)

    room : (read_answer (read_drawing bs) lent).refusal ≡ (read_drawing bs).refusal
    room =
        or-none (read_drawing bs).refusal _ (λ h.
        ap (λ (t : Bool). cond t (pos 10) (pos 0)) (le-ltb (length lent) (length (read_drawing bs).objects) (omega (arith, l, few-numbers bs h))))

pub moves-refused :
    (f : Form) (bs lent : List ℕ) (list : List ℤ) (u : Unfilled) (r : Result ℕ Unfilled) → length list ≡ most * width
    → read_told (Err u) ≡ read_answer (read_drawing bs) list → IsErrAnd r (λ y. y ≡ u)
    → (write_told r ≡ move_answer f bs lent) × (lent ≡ move_into f bs lent)
unfolding read_answer move_refusal
moves-refused f bs lent list u r l e h =
    let is = (roomy bs list l e refl).refusal in
    let no = λ (z : (read_drawing bs).refusal ≡ pos 0). unfilled-zero u (is ∙ z) in
    let none : needed u ≡ 0 = ap (λ (x : ReadSays). x.length) e ∙ simp (ne-eq_z no) in
    let first : unfilled_no u ≡ move_refusal f bs = is ∙ sym (or-first _ no) in
    let z = ne-eq_z {a = move_refusal f bs} {b = pos 0} (λ y. unfilled-zero u (first ∙ y)) in
    let end : End (move_refusal f bs) (moved f bs) lent (length (moved f bs)) 0 (unfilled_no u) (needed u) 0 lent =
    record { refusal = first ∙ sym (simp z); given = none ∙ sym (simp z); other = simp z; cells = simp z } in
    let both = move-ends f bs lent end in
    (ap write_told (unfilled-from u r h) ∙ both.0, both.1)

pub moves-as-written :
    (f : Form) (bs lent : List ℕ) → (read_drawing bs).refusal ≡ pos 0
    → (write_answer f (read_drawing bs).objects lent ≡ move_answer f bs lent) × (write_into f (read_drawing bs).objects lent ≡ move_into f bs lent)
unfolding write_answer write_into move_answer move_into moved
moves-as-written f bs lent h =
    let bytes = write_drawing f (read_drawing bs).objects in
    (ap (λ (n : ℤ). bytes_answer n bytes lent) (move-writes bs h f), ap (λ (n : ℤ). filled n bytes lent) (move-writes bs h f))

-- What the calls answer, by how they end: `refused`, `short` or `done` of sheet's LentLaws. To cite:
--   read-ends    reading a drawing into a lent list
--   write-ends, move-ends   writing a list into lent bytes, and moving a drawing there
--   read-refused, write-refused   what is answered where `?` hands on a refusal
--   formed-one   no two answers tell the same of a form
--   has-form, refused-form, tells-form   what an answer says of the bytes, and back
-- Assumes nothing.
use Rattle.std.specs.Prelude.{◌≡◌, refl, Bool, true, false, cond, List, [], ◌∷◌, ℕ, ◌-◌, ℤ, pos, length, Result, Ok, Err, IsErrAnd}
use Rattle.std.proofs.Common.{ap, ◌∙◌, arith}
use Rattle.whole.specs.Flag.{eq_z}
use Rattle.whole.specs.Tests.{eq_z-true, eq_z-false}
use Rattle.sheet.specs.AnswersLaws.{accepted}
use Rattle.sheet.specs.Lent.{filled}
use Rattle.sheet.specs.LentLaws.{End}
use Rattle.sheet.specs.Lists.{count_of}
use Rattle.store.specs.declared.Form.{Form}
use Rattle.store.specs.declared.Form.TheVariants.{Old, New}
use Rattle.sheet.specs.declared.refusal.Refusal.{Refusal}
use Rattle.sheet.specs.declared.refusal.Unfilled.{Unfilled}
use Rattle.sheet.specs.declared.refusal.Unfilled.TheVariants as unfilled
use Rattle.sheet.specs.Refused.{no_of}
use Rattle.sheet.specs.RefusedLaws.{says-one, unfilled-from, err-ends}
use Rattle.store.specs.declared.Read.{Read}
use Rattle.store.specs.Told.{read_told, write_told}
use Rattle.store.specs.Stored.{Drawing, write_drawing, write_refusal, read_drawing, form_of, move_refusal, moved}
use Rattle.store.specs.Answers.{ReadSays, WriteSays, bytes_answer, read_answer, read_into, write_answer, write_into, move_answer, move_into, form_number, formed_says, form_answer}

abbrev read_of : ℤ → ℕ → ℕ → ReadSays
read_of n count length = record { refusal = n; count = count; length = length }

abbrev written_of : ℤ → ℕ → WriteSays
written_of n length = record { refusal = n; length = length }

pub read-ends :
    (d : Drawing) (lent : List ℤ) {r : ℤ} {l o : ℕ} {after : List ℤ}
    → End d.refusal d.objects lent (length d.objects) (count_of d.objects) r l o after
    → (read_of r o l ≡ read_answer d lent) × (after ≡ read_into d lent)
unfolding read_answer read_into
read-ends d lent e = (λ i. read_of (e.refusal i) (e.other i) (e.given i), e.cells)

bytes-ends :
    (n : ℤ) (bytes lent : List ℕ) {r : ℤ} {l o : ℕ} {after : List ℕ} → End n bytes lent (length bytes) 0 r l o after
    → (written_of r l ≡ bytes_answer n bytes lent) × (after ≡ filled n bytes lent)
bytes-ends n bytes lent e = (λ i. written_of (e.refusal i) (e.given i), e.cells)

pub write-ends :
    (f : Form) (list : List ℤ) (lent : List ℕ) {r : ℤ} {l o : ℕ} {after : List ℕ}
    → End (write_refusal f list) (write_drawing f list) lent (length (write_drawing f list)) 0 r l o after
    → (written_of r l ≡ write_answer f list lent) × (after ≡ write_into f list lent)
unfolding write_answer write_into
write-ends f list lent e = bytes-ends _ _ lent e

pub move-ends :
    (f : Form) (bytes lent : List ℕ) {r : ℤ} {l o : ℕ} {after : List ℕ}
    → End (move_refusal f bytes) (moved f bytes) lent (length (moved f bytes)) 0 r l o after
    → (written_of r l ≡ move_answer f bytes lent) × (after ≡ move_into f bytes lent)
unfolding move_answer move_into
move-ends f bytes lent e = bytes-ends _ _ lent e

pub read-refused :
    (d : Drawing) (lent : List ℤ) (e : Refusal) (r : Result Read Unfilled) → IsErrAnd r (λ y. y ≡ unfilled.Refused e) → no_of e ≡ d.refusal
    → (read_told r ≡ read_answer d lent) × (lent ≡ read_into d lent)
read-refused d lent e r h is = let both = read-ends d lent (err-ends e is) in (ap read_told (unfilled-from (unfilled.Refused e) r h) ∙ both.0, both.1)

pub write-refused :
    (f : Form) (list : List ℤ) (lent : List ℕ) (e : Refusal) (r : Result ℕ Unfilled) → IsErrAnd r (λ y. y ≡ unfilled.Refused e)
    → no_of e ≡ write_refusal f list → (write_told r ≡ write_answer f list lent) × (lent ≡ write_into f list lent)
write-refused f list lent e r h is =
    let both = write-ends f list lent (err-ends e is) in (ap write_told (unfilled-from (unfilled.Refused e) r h) ∙ both.0, both.1)

-- ---- no two answers tell the same of a form

form-same : (f g : Form) → form_number f ≡ form_number g → f ≡ g
form-same Old Old e = refl
form-same Old New e = let z : ◌≡◌ {A = ℕ} 1 2 = cc in absurd (omega arith)
form-same New Old e = let z : ◌≡◌ {A = ℕ} 2 1 = cc in absurd (omega arith)
form-same New New e = refl

number-one : (f g : Form) → form_number f ∷ [] ≡ form_number g ∷ [] → f ≡ g
number-one f g e = let h : form_number f ≡ form_number g = cc in form-same f g h

pub formed-one : (a b : Result Form Refusal) → formed_says a ≡ formed_says b → a ≡ b
formed-one a b e = says-one number-one a b e

-- ---- what is told of bytes

pub has-form : (bs : List ℕ) (f : Form) → formed_says (Ok f) ≡ form_answer bs → ((read_drawing bs).refusal ≡ pos 0) × (form_of bs ≡ f)
unfolding form_answer
has-form bs f e = go (eq_z (read_drawing bs).refusal (pos 0)) refl e
  where
    go : (t : Bool) → eq_z (read_drawing bs).refusal (pos 0) ≡ t
        → formed_says (Ok f) ≡ cond t (pos 0 ∷ form_number (form_of bs) ∷ []) ((read_drawing bs).refusal ∷ [])
        → ((read_drawing bs).refusal ≡ pos 0) × (form_of bs ≡ f)
    go true z e = let h : form_number (form_of bs) ≡ form_number f = cc in (eq_z-true z, form-same (form_of bs) f h)
    go false z e = let z : ◌≡◌ {A = ℕ} 1 0 = ap (λ (l : List ℤ). length l - 1) e in absurd (omega arith)

pub refused-form :
    (bs : List ℕ) (r : Refusal) → formed_says (Err r) ≡ form_answer bs → ((read_drawing bs).refusal ≡ pos 0 → ⊥) × (no_of r ≡ (read_drawing bs).refusal)
unfolding form_answer
refused-form bs r e = go (eq_z (read_drawing bs).refusal (pos 0)) refl e
  where
    go : (t : Bool) → eq_z (read_drawing bs).refusal (pos 0) ≡ t
        → no_of r ∷ [] ≡ cond t (pos 0 ∷ form_number (form_of bs) ∷ []) ((read_drawing bs).refusal ∷ [])
        → ((read_drawing bs).refusal ≡ pos 0 → ⊥) × (no_of r ≡ (read_drawing bs).refusal)
    go true z e = let z : ◌≡◌ {A = ℕ} 0 1 = ap (λ (l : List ℤ). length l - 1) e in absurd (omega arith)
    go false z e = (eq_z-false z, cc)

pub tells-form : (bs : List ℕ) {f : Form} {r : Result Form Refusal} → (read_drawing bs).refusal ≡ pos 0 → form_of bs ≡ f → formed_says r ≡ form_answer bs → r ≡ Ok f
unfolding form_answer
tells-form bs {f} {r} z e met = formed-one r (Ok f) (met ∙ accepted _ z ∙ ap (λ (f : Form). pos 0 ∷ form_number f ∷ []) e)

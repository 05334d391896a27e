-- Reading object by object. To cite:
--   objects-step, objects-stop   one more object, or its refusal, by what the code is told
--   objects-length               six numbers an object
--   drawing-refused, drawing-counted   the form and the count, and then the objects
--   form-found                         the form of a drawing whose head was read
--   objects-end, objects-over    after the last object
-- Assumes nothing.
use Rattle.std.specs.Prelude.{◌≡◌, List, [], ◌∷◌, ℕ, zero, suc, ◌*◌, ◌-◌, ◌<◌, ℤ, length}
use Rattle.std.proofs.Math.Path.{refl, ap}
use Rattle.std.proofs.Common.{sym, ◌∙◌, arith}
use Rattle.std.proofs.Math.IntN.{pos}
use Rattle.sheet.specs.declared.Object.{Object}
use Rattle.sheet.specs.Refusal.{Accepted}
use Rattle.sheet.specs.Lists.{width}
use Rattle.number.specs.Number.{Reading, got, no}
use Rattle.store.specs.declared.Form.{Form}
use Rattle.store.specs.Stored.{refused, before, and_then, counted, form_in, read_object, read_objects, read_head, read_drawing, form_of}
use Rattle.store.specs.declared.reading.Head.{Head}
use Rattle.store.proofs.SureLaws.{Sure, not-nought, sure-object}
use Rattle.store.proofs.SureLaws as sure
use Rattle.whole.specs.Tests.{eq_z-false}

objects-suc : (f : Form) (k : ℕ) (bs : List ℕ) → 0 < k → read_objects f k bs ≡ and_then (read_object f bs) (λ rest. read_objects f (k - 1) rest)
unfolding read_objects
objects-suc f zero bs h = absurd (omega arith)
objects-suc f (suc k) bs h = let e : suc k - 1 ≡ k = omega arith in λ i. and_then (read_object f bs) (λ rest. read_objects f (sym e i) rest)

module _ (f : Form) (k : ℕ) (bs : List ℕ) (h : 0 < k) where
  pub objects-step : {o : Object} {rest : List ℕ} → got o rest ≡ read_object f bs → read_objects f k bs ≡ before o (read_objects f (k - 1) rest)
  objects-step t = objects-suc f k bs h ∙ ap (λ (r : Reading Object). and_then r (λ rest. read_objects f (k - 1) rest)) (sym t)

  pub objects-stop : {n : ℤ} → no n ≡ read_object f bs → read_objects f k bs ≡ refused n
  objects-stop t = objects-suc f k bs h ∙ ap (λ (r : Reading Object). and_then r (λ rest. read_objects f (k - 1) rest)) (sym t)

pub objects-end : (f : Form) (bs : List ℕ) → length bs ≡ 0 → read_objects f 0 bs ≡ refused (pos 0)
unfolding read_objects
objects-end f [] e = refl
objects-end f (b ∷ bs) e = absurd (omega arith)

pub objects-over : (f : Form) (bs : List ℕ) → 0 < length bs → read_objects f 0 bs ≡ refused (pos 9)
unfolding read_objects
objects-over f [] h = absurd (omega arith)
objects-over f (b ∷ bs) h = refl

-- "six numbers an object" (document 02)
pub objects-length : (f : Form) (k : ℕ) (bs : List ℕ) → (read_objects f k bs).refusal ≡ pos 0 → length (read_objects f k bs).objects ≡ k * width
unfolding read_objects
objects-length f zero [] e = refl
objects-length f zero (b ∷ bs) e = refl
objects-length f (suc k) bs e = go (read_object f bs) (sure-object f bs) (objects-length f k) e
  where
    go : (r : Reading Object) → Sure Accepted bs r → ((rest : List ℕ) → (read_objects f k rest).refusal ≡ pos 0 → length
        (read_objects f k rest).objects ≡ k * width)
        → (and_then r (λ rest. read_objects f k rest)).refusal ≡ pos 0 → length (and_then r (λ rest. read_objects f k rest)).objects ≡ suc k * width
    go (got o rest) s l e = omega (arith, l rest e)
    go (no n) (sure.refused m z) l e = absurd (eq_z-false (not-nought m z) e)

-- ---- the form and the count, and then the objects

module _ (bs : List ℕ) where
  pub drawing-refused : {n : ℤ} → no n ≡ read_head bs → read_drawing bs ≡ refused n
  unfolding read_drawing
  drawing-refused t = ap counted (sym t)

  pub drawing-counted : {h : Head} {rest : List ℕ} → got h rest ≡ read_head bs → read_drawing bs ≡ read_objects h.form h.count rest
  unfolding read_drawing
  drawing-counted t = ap counted (sym t)

  -- where a head was read, its form is the drawing's
  pub form-found : {h : Head} {rest : List ℕ} → got h rest ≡ read_head bs → form_of bs ≡ h.form
  unfolding form_of
  form-found t = ap form_in (sym t)

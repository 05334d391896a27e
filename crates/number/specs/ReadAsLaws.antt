-- What a reading function's answer says. To cite:
--   reads-taken, reads-refused   an answer from the reading
--   on-refused, on-taken         what is read next, by the code's test of the refusal of what was read first
--   reads_on                     what is read next, as an answer of the whole
--   reads_then, reads_at         the same where both tell places of one slice; an answer of a slice's rest, as a place of the slice
--   reads_as, reads-no, reads_made   the same answer in other words; of something made of what was read
--   rest-is, reads-rest          the rest of a slice from its middle, and an answer of it
-- Assumes nothing.
use Rattle.std.specs.Prelude.{◌≡◌, refl, false, List, ℕ, ◌≤◌, ◌<◌, ◌+◌, ◌-◌, ◌^◌, ℤ, pos, length, take, drop}
use Rattle.std.proofs.Common.{sym, ap, subst, ◌∙◌, arith, length-drop, drop-drop, take_all, of_z}
use Rattle.std.specs.Int.Signed.{mag}
use Rattle.std.specs.Int.{w64}
use Rattle.whole.specs.Flag.{eq_z}
use Rattle.whole.specs.Tests.{eq_z-false, out, out-ok, eq-left}
use Rattle.sheet.specs.AnswersLaws.{not_refused}
use Rattle.number.specs.Number.{Reading, got, no, next}
use Rattle.number.specs.ReadAs.{ReadAs}

module _ {A : Type 0} {bs : List ℕ} {r : Reading A} {v : A} where
  pub reads-taken : {size : ℕ} → r ≡ got v (drop size bs) → size ≤ length bs → ReadAs bs r (pos 0) v size
  reads-taken e h = record { taken = λ _. e; within = h; refused = λ d. absurd (d refl) }

  pub reads-refused : {n : ℤ} → eq_z n (pos 0) ≡ false → r ≡ no n → ReadAs bs r n v 0
  reads-refused z e = record { taken = λ n. absurd (eq_z-false z n); within = omega arith; refused = λ _. e }

module _ {A B : Type 0} {bs : List ℕ} {r : Reading A} {n : ℤ} {v : A} {size : ℕ} (t : ReadAs bs r n v size) (ok : mag n < 2 ^ 63)
    (f : A → List ℕ → Reading B) where
  pub on-refused : {all : List ℕ} {w : B} → (of_z w64 n ≡ 0 → ⊥) → ReadAs all (next r f) (out n) w 0
  on-refused d =
      let e = out-ok n ok in
      let z : n ≡ pos 0 → ⊥ = eq-left {x = n} {y = pos 0} d in
      record {
        taken = λ y. absurd (z (sym e ∙ y));
        within = omega arith;
        refused = λ _. ap (λ (x : Reading A). next x f) (t.refused z) ∙ ap no (sym e);
      }

  pub on-taken : of_z w64 n ≡ 0 → next r f ≡ f v (drop size bs)
  on-taken e = ap (λ (x : Reading A). next x f) (t.taken (not_refused ok refl e))

  -- what is read next tells of the whole
  pub reads_on :
      {m : ℤ} {w : B} {k : ℕ} → of_z w64 n ≡ 0 → ReadAs (drop size bs) (f v (drop size bs)) m w k → ReadAs bs (next r f) m w (size + k)
  reads_on {m} {w} {k} e u =
      record {
        taken = λ z. on-taken e ∙ u.taken z ∙ ap (got w) (drop-drop k size bs);
        within = omega (arith, t.within, u.within, length-drop size bs);
        refused = λ d. on-taken e ∙ u.refused d;
      }

  pub reads_then : {m : ℤ} {w : B} {next' : ℕ} → of_z w64 n ≡ 0 → ReadAs bs (f v (drop size bs)) m w next' → ReadAs bs (next r f) m w next'
  reads_then e u = record { taken = λ z. on-taken e ∙ u.taken z; within = u.within; refused = λ d. on-taken e ∙ u.refused d }

pub reads_at :
    {A : Type 0} {r : Reading A} {n : ℤ} {v : A} {size : ℕ} (at : ℕ) (bs : List ℕ) → at ≤ length bs → ReadAs (drop at bs) r n v size
    → ReadAs bs r n v (at + size)
reads_at {A} {r} {n} {v} {size} at bs h t =
    record {
      taken = λ z. t.taken z ∙ ap (got v) (drop-drop size at bs);
      within = omega (arith, h, t.within, length-drop at bs);
      refused = t.refused;
    }

-- the same answer, as the code has its numbers
pub reads_as :
    {A : Type 0} {bs : List ℕ} {r : Reading A} {n m : ℤ} {v w : A} {size : ℕ} → m ≡ n → w ≡ v → ReadAs bs r n v size → ReadAs bs r m w size
reads_as {A} {bs} {r} {n} {m} {v} {w} {size} e f t = subst (λ (x : ℤ). ReadAs bs r x w size) (sym e)
    (subst (λ (y : A). ReadAs bs r n y size) (sym f) t)

-- the same refusal, as the code makes its answer
pub reads-no :
    {A : Type 0} {bs : List ℕ} {r : Reading A} {n m : ℤ} {v : A} {size : ℕ} → (m ≡ n) × (size ≡ 0) → ReadAs bs r n v 0 → ReadAs bs r m v size
reads-no {A} {bs} {r} {n} {m} {v} {size} e t =
    subst (λ (x : ℤ). ReadAs bs r x v size) (sym e.0) (subst (λ (k : ℕ). ReadAs bs r n v k) (sym e.1) t)

-- what was read, made into something else
pub reads_made :
    {A B : Type 0} {bs : List ℕ} {r : Reading A} {n : ℤ} {v : A} {size : ℕ} (g : A → B) → ReadAs bs r n v size
    → ReadAs bs (next r (λ a rest. got (g a) rest)) n (g v) size
reads_made {A} {B} {bs} {r} {n} {v} {size} g t =
    record {
      taken = λ e. ap (λ (x : Reading A). next {B = B} x (λ a rest. got (g a) rest)) (t.taken e);
      within = t.within;
      refused = λ d. ap (λ (x : Reading A). next {B = B} x (λ a rest. got (g a) rest)) (t.refused d);
    }

-- the rest of a slice from its middle
pub rest-is : {A : Type 0} (at : ℕ) (bs : List A) → take (length bs - at) (drop at bs) ≡ drop at bs
rest-is at bs = take_all (length bs - at) (drop at bs) (omega (arith, length-drop at bs))

pub reads-rest :
    {A : Type 0} (R : List ℕ → Reading A) {n : ℤ} {v : A} {size : ℕ} (at : ℕ) (bs : List ℕ)
    → ReadAs (take (length bs - at) (drop at bs)) (R (take (length bs - at) (drop at bs))) n v size → ReadAs (drop at bs)
    (R (drop at bs)) n v size
reads-rest R {n} {v} {size} at bs t = subst (λ (l : List ℕ). ReadAs l (R l) n v size) (rest-is at bs) t

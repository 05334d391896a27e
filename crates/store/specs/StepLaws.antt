-- One call of the reader, by what the code is told. To cite:
--   rest-is                  the rest of a slice from its middle
--   step-over, step_end      after the last object
--   step-refused, step-one   an object's refusal, and an object
--   first_call               the first of several calls
--   step-in                  a call of a reader that has begun
--   head-refused, head-taken   the first call, by the form and the count
-- Assumes nothing.
use Rattle.std.specs.Prelude.{◌≡◌, Bool, true, false, List, leb, ℤ, length, take, drop}
use Rattle.std.proofs.Math.Path.{refl, ap}
use Rattle.std.proofs.Common.{sym, ◌∙◌, lt-ltb, le-ltb, leb-true, leb-false, drop_of_length-le, length-drop, take_all}
use Prim.Native.Nat.{ℕ, zero, suc, min, ◌-◌, ◌<◌, ◌≤◌}
use native.Mathlib.Omega.{arith}
use Rattle.std.proofs.Math.IntN.{pos}
use Rattle.sheet.specs.declared.Object.{Object}
use Rattle.store.specs.declared.Bookmark.{Bookmark}
use Rattle.store.specs.Reader.{One, End, Refused}
use Rattle.store.specs.declared.Form.{Form}
use Rattle.store.specs.Stored.{read_object, read_head}
use Rattle.store.specs.declared.reading.Head.{Head}
use Rattle.store.specs.Reader.{rest_begins, step_to, step_object, step_from, step_head, step_of, call_from}
use Rattle.number.specs.Number.{Reading, got, no}

pub rest-is : (at : ℕ) (bs : List ℕ) → take (length bs - at) (drop at bs) ≡ drop at bs
rest-is at bs = take_all (length bs - at) (drop at bs) (omega (arith, length-drop at bs))

-- the rest from a place, or from the end where the place is past it
drop_min : (at : ℕ) (bs : List ℕ) → drop (min at (length bs)) bs ≡ drop at bs
drop_min at bs = go (leb at (length bs)) (leb-true at (length bs)) (leb-false at (length bs))
  where
    go : (t : Bool) → (t ≡ true → at ≤ length bs) → (t ≡ false → length bs < at) → drop (min at (length bs)) bs ≡ drop at bs
    go true y m = let h = y refl in let e : min at (length bs) ≡ at = omega arith in ap (λ (k : ℕ). drop k bs) e
    go false y m =
        let h = m refl in
        drop_of_length-le bs {i = min at (length bs)} (omega arith) ∙ sym (drop_of_length-le bs {i = at} (omega arith))

module _ (bs : List ℕ) (p : Bookmark) (f : Form) (left at : ℕ) where
  pub step-over : left ≡ 0 → at < length bs → step_from bs p f left at ≡ step_to (Refused (pos 9)) p
  unfolding step_from
  step-over e h = ap (λ (k : ℕ). step_from bs p f k at) e ∙ simp (lt-ltb at (length bs) h)

  pub step_end : left ≡ 0 → length bs ≤ at → step_from bs p f left at ≡ step_to End p
  unfolding step_from
  step_end e h = ap (λ (k : ℕ). step_from bs p f k at) e ∙ simp (le-ltb at (length bs) h)

  step-suc : 0 < left → step_from bs p f left at ≡ step_object bs p f (left - 1) (read_object f (drop at bs))
  unfolding step_from
  step-suc h = go left h
    where
      go : (left : ℕ) → 0 < left → step_from bs p f left at ≡ step_object bs p f (left - 1) (read_object f (drop at bs))
      go zero h = absurd (omega arith)
      go (suc k) h = let e : k ≡ suc k - 1 = omega arith in ap (λ (j : ℕ). step_object bs p f j (read_object f (drop at bs))) e

  -- s is the place, or the end where the place is past it
  module _ {s : ℕ} (h : 0 < left) (e : s ≡ min at (length bs)) where
    here : {r : Reading Object} → r ≡ read_object f (drop s bs) → step_from bs p f left at ≡ step_object bs p f (left - 1) r
    here t =
        let there : drop at bs ≡ drop s bs = sym (drop_min at bs) ∙ ap (λ (k : ℕ). drop k bs) (sym e) in
        step-suc h ∙ ap (λ (l : List ℕ). step_object bs p f (left - 1) (read_object f l)) there ∙ ap (step_object bs p f (left - 1)) (sym t)

    pub step-refused : {n : ℤ} → no n ≡ read_object f (drop s bs) → step_from bs p f left at ≡ step_to (Refused n) p
    step-refused t = here t

    pub step-one :
        {o : Object} {rest : List ℕ} → got o rest ≡ read_object f (drop s bs)
        → step_from bs p f left at ≡ step_to (One o) (record { begun = true; form = f; left = left - 1; at = rest_begins bs rest })
    step-one t = here t

-- the first of several calls
pub first_call : (bs : List ℕ) (p : Bookmark) → (step_of bs p).item ≡ call_from bs p 0
unfolding call_from
first_call bs p = refl

module _ (bs : List ℕ) (p : Bookmark) where
  pub step-in : p.begun ≡ true → step_of bs p ≡ step_from bs p p.form p.left p.at
  unfolding step_of
  step-in b = simp b

  pub head-refused : {n : ℤ} → p.begun ≡ false → no n ≡ read_head bs → step_of bs p ≡ step_to (Refused n) p
  unfolding step_of
  head-refused b t = simp b (ap (step_head bs p) (sym t))

  pub head-taken : {h : Head} {rest : List ℕ} → p.begun ≡ false → got h rest ≡ read_head bs
      → step_of bs p ≡ step_from bs p h.form h.count (rest_begins bs rest)
  unfolding step_of
  head-taken b t = simp b (ap (step_head bs p) (sym t))

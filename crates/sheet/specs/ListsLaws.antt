-- The laws of lists of objects. To cite:
--   first_more, first-stays         one more number in turn; a refusal that is found stays the first
--   first-none, none_first          no refusal is found exactly where there is none
--   one-accepted, one-refused       one more object in turn
--   listable, is-listable           what a list that is not refused has, and only such a list: no number over, few objects, each accepted
--   object-drop, object-next        the objects of the rest of a list;  object-past   past its end
--   numbers-first                   a list that has an object is its first one's numbers and the rest
--   index_below                     an index that is not refused is below the count
-- Assumes nothing.
use Rattle.std.specs.Prelude.{◌≡◌, Bool, true, false, cond, List, [], ◌∷◌, ◌++◌, ℕ, suc, ◌+◌, ◌*◌, ◌%◌, ◌≤◌, ◌<◌, eqb, ltb, ℤ, length, get_or, drop}
use Rattle.std.proofs.Math.Path.{refl}
use Rattle.std.proofs.Common.{sym, ap, ◌∙◌, arith, get_or-drop, ltb-true, ltb-false, le-ltb, eq-eqb, eqb-true}
use Rattle.std.proofs.Math.Decide.{le_ind}
use Rattle.std.proofs.Math.IntN.{pos}
use Rattle.std.proofs.Math.ListN.{get_or-eq_default}
use Rattle.whole.specs.InTurn.{in_turn}
use Rattle.whole.specs.InTurnLaws.{turn_more, turn-all, turn-each}
use Rattle.whole.specs.Tests.{eq-eq_z, ne-eq_z}
use Rattle.sheet.specs.Limits.{most}
use Rattle.sheet.specs.Refusal.{object_refusal}
use Rattle.whole.specs.Choice.{or_else}
use Rattle.whole.specs.ChoiceLaws.{or-zero, or-next}
use Rattle.sheet.specs.Lists.{width, count_of, object_from, object_at, first_refusal, objects_refusal, list_refusal, index_refusal}
use Rattle.sheet.specs.Listable.{Listable}
use Rattle.sheet.specs.Answers.{object_numbers}

-- ---- in turn

module _ (f : ℕ → ℤ) where
  pub first_more : (n : ℕ) → first_refusal f (n + 1) ≡ or_else (first_refusal f n) (f n)
  first_more = turn_more or_else (pos 0) f

  pub first-stays : (n m : ℕ) → n ≤ m → (first_refusal f n ≡ pos 0 → ⊥) → first_refusal f m ≡ first_refusal f n
  unfolding in_turn
  first-stays n m h d = le_ind (λ k. first_refusal f k ≡ first_refusal f n) refl (λ k _ e. step k e) m h
    where
      step : (k : ℕ) → first_refusal f k ≡ first_refusal f n → first_refusal f (suc k) ≡ first_refusal f n
      step k e = let g = ne-eq_z {a = first_refusal f k} {b = pos 0} (λ z. d (sym e ∙ z)) in simp g e

  pub first-none : (n : ℕ) → ((i : ℕ) → i < n → f i ≡ pos 0) → first_refusal f n ≡ pos 0
  first-none = turn-all (λ z. z ≡ pos 0) or_else (pos 0) f refl (λ a b p q. or-next b p ∙ q)

  pub none_first : (n : ℕ) → first_refusal f n ≡ pos 0 → (i : ℕ) → i < n → f i ≡ pos 0
  none_first = turn-each (λ z. z ≡ pos 0) or_else (pos 0) f or-zero

-- one more object in turn: accepted, or the first that is refused of n
module _ (l : List ℤ) (i : ℕ) (e : objects_refusal l i ≡ pos 0) where
  pub one-accepted : object_refusal (object_at l i) ≡ pos 0 → objects_refusal l (i + 1) ≡ pos 0
  one-accepted h = first_more (λ i. object_refusal (object_at l i)) i ∙ simp (eq-eq_z e) h

  pub one-refused : (n : ℕ) → i < n → (object_refusal (object_at l i) ≡ pos 0 → ⊥) → object_refusal (object_at l i) ≡ objects_refusal l n
  one-refused n h d =
      let f : ℕ → ℤ = λ i. object_refusal (object_at l i) in
      let here : objects_refusal l (i + 1) ≡ f i = first_more f i ∙ simp (eq-eq_z e) in
      sym (first-stays f (i + 1) n (omega arith) (λ z. d (sym here ∙ z)) ∙ here)

-- ---- lists that are not refused

pub listable : (l : List ℤ) → list_refusal l ≡ pos 0 → Listable l
unfolding list_refusal
listable l e = go (eqb (length l % width) 0) (ltb most (count_of l)) (λ h. eqb-true (length l % width) 0 h) (λ h. ltb-false most (count_of l) h) e
  where
    go : (s t : Bool) → (s ≡ true → length l % width ≡ 0) → (t ≡ false → count_of l ≤ most)
        → cond s (cond t (pos 11) (objects_refusal l (count_of l))) (pos 14) ≡ pos 0 → Listable l
    go true true whole few e = let z : ◌≡◌ {A = ℕ} 11 0 = cc in absurd (omega arith)
    go true false whole few e = record {
      whole = omega (arith, whole refl);
      few = few refl;
      each = λ i h. record { accepted = none_first (λ i. object_refusal (object_at l i)) (count_of l) e i h };
    }
    go false t whole few e = let z : ◌≡◌ {A = ℕ} 14 0 = cc in absurd (omega arith)

pub is-listable : (l : List ℤ) → Listable l → list_refusal l ≡ pos 0
unfolding list_refusal
is-listable l h =
    let whole : length l % width ≡ 0 = omega (arith, h.whole) in
    simp (eq-eqb (length l % width) 0 whole, le-ltb most (count_of l) h.few)
    (first-none (λ i. object_refusal (object_at l i)) (count_of l) (λ i k. (h.each i k).accepted))

-- ---- the rest of a list

pub object-drop : (l : List ℤ) (at k : ℕ) → object_from (drop at l) k ≡ object_from l (at + k)
object-drop l at k =
    λ i. record {
      kind = get_or-drop at l k (pos 0) i;
      px = further 1 i;
      py = further 2 i;
      qx = further 3 i;
      qy = further 4 i;
      tag = further 5 i;
    }
  where
    further : (j : ℕ) → get_or (drop at l) (k + j) (pos 0) ≡ get_or l (at + k + j) (pos 0)
    further j = let e : at + (k + j) ≡ at + k + j = omega arith in get_or-drop at l (k + j) (pos 0) ∙ ap (λ (m : ℕ). get_or l m (pos 0)) e

-- past the end every number is 0
pub object-past : (l : List ℤ) {at at' : ℕ} → length l ≤ at → length l ≤ at' → object_from l at ≡ object_from l at'
object-past l {at} {at'} h h' =
    λ i. record { kind = (past h ∙ sym (past h')) i; px = further 1 i; py = further 2 i; qx = further 3 i; qy = further 4 i; tag = further 5 i }
  where
    past : {k : ℕ} → length l ≤ k → get_or l k (pos 0) ≡ pos 0
    past h = get_or-eq_default l (pos 0) h

    further : (j : ℕ) → get_or l (at + j) (pos 0) ≡ get_or l (at' + j) (pos 0)
    further j = past (omega arith) ∙ sym (past (omega arith))

pub object-next : (l : List ℤ) (i : ℕ) → object_at (drop width l) i ≡ object_at l (suc i)
object-next l i = let e : width + i * width ≡ suc i * width = omega arith in object-drop l width (i * width) ∙ ap (object_from l) e

pub numbers-first : (l : List ℤ) → width ≤ length l → object_numbers (object_at l 0) ++ drop width l ≡ l
numbers-first [] h = absurd (omega arith)
numbers-first (a ∷ []) h = absurd (omega arith)
numbers-first (a ∷ b ∷ []) h = absurd (omega arith)
numbers-first (a ∷ b ∷ c ∷ []) h = absurd (omega arith)
numbers-first (a ∷ b ∷ c ∷ d ∷ []) h = absurd (omega arith)
numbers-first (a ∷ b ∷ c ∷ d ∷ e ∷ []) h = absurd (omega arith)
numbers-first (a ∷ b ∷ c ∷ d ∷ e ∷ f ∷ l) h = refl

-- ---- indices

pub index_below : (l : List ℤ) (i : ℕ) → index_refusal l i ≡ pos 0 → i < count_of l
index_below l i e = go (ltb i (count_of l)) (λ h. ltb-true i (count_of l) h) e
  where
    go : (t : Bool) → (t ≡ true → i < count_of l) → cond t (pos 0) (pos 13) ≡ pos 0 → i < count_of l
    go true f e = f refl
    go false f e = let z : ◌≡◌ {A = ℕ} 13 0 = cc in absurd (omega arith)

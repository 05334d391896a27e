-- The viewer's calls, step by step as the code goes. To cite:
--   call-more                 a later call of a reader is one call fewer from the place after this one
--   side-taken                the kernel refuses nothing for a point that is not beyond 2,000
--   index-first, place-next   13 where the index is wrong, and what is left where it is right
--   told-sign, told-refusal   the answer, of what the call says: its sign, or 100 plus its refusal
--   far_index, index-far, Natural, index-natural   an index that no drawing has, and a natural one
--   found, missed, never-refused   what a call of the reader says of the index, and what it never says
-- Assumes nothing.
use Rattle.std.proofs.Math.Path.{◌≡◌, refl, ap}
use Rattle.std.proofs.Common.{sym, ◌∙◌, inl, inr, true≢false, arith, lt-ltb, le-ltb, ltb-true, ltb-false, leb-true, leb-false}
use Rattle.std.specs.Prelude.{◌⊎◌, Bool, ◌||◌, List, [], ◌∷◌, ℕ, suc, ◌*◌, ◌<◌, ◌≤◌, leb, ltb, ℤ, negsuc, ◌+ℤ◌}
use Rattle.std.proofs.Math.Bool.{true, false, cond}
use Rattle.std.proofs.Math.IntN.{pos, nat_abs, ℤ_discrete}
use Rattle.std.proofs.Math.ListN.{length}
use Rattle.std.specs.Int.Signed.{lt_z, le_z}
use Rattle.whole.specs.Bound.{w-intro}
use Rattle.whole.specs.Tests.{eq-eq_z, ne-eq_z}
use Rattle.whole.specs.Choice.{or_else}
use Rattle.sheet.specs.declared.Object.{Object}
use Rattle.sheet.specs.Limits.{most}
use Rattle.sheet.specs.Refusal.{beyond, object_refusal}
use Rattle.sheet.specs.Points.{point_refusal}
use Rattle.sheet.specs.declared.refusal.Refusal.{Refusal}
use Rattle.sheet.specs.Refused.{no_of}
use Rattle.sheet.specs.RefusedLaws.{no-zero}
use Rattle.sheet.specs.Answers.{answer}
use Rattle.sheet.specs.AnswersLaws.{accepted, refused}
use Rattle.sheet.specs.Signs.{side_sign_refusal}
use Rattle.sheet.specs.Lists.{width, count_of, object_at}
use Rattle.sheet.specs.Listable.{Listable}
use Rattle.sheet.specs.Flags.{neither, either, flags}
use Rattle.sheet.proofs.RefusalLaws.{WithinBoth}
use Rattle.sheet.specs.PointsLaws.{point-is}
use Rattle.sheet.proofs.EndsLaws.{given-fine}
use Rattle.store.specs.declared.Bookmark.{Bookmark}
use Rattle.store.specs.Stored.{Drawing}
use Rattle.store.specs.Reader.{One, End, Refused, step_of, call_from, end_of, item_of}
use Rattle.viewer.specs.Calls.{object, whole, index_refusal, place_refusal, sign_or}

pub call-more : (bs : List ℕ) (p : Bookmark) {k m : ℕ} → k ≡ suc m → call_from bs p k ≡ call_from bs (step_of bs p).place m
unfolding call_from
call-more bs p e = ap (call_from bs p) e

-- ---- the point

module _ (x y : ℤ) (e : (beyond x || beyond y) ≡ false) where
  place-point : point_refusal (whole x y) ≡ pos 0
  unfolding point_refusal
  place-point =
      let f = simp flags at e in
      let s : WithinBoth 2000 (record { x = x; y = y }) = record { in_x = w-intro f.0.0 f.0.1; in_y = w-intro f.1.0 f.1.1 } in
      simp ((point-is (whole x y)).1 (given-fine s).point)

  -- the kernel refuses neither the object nor the point
  pub side-taken : (o : Object) → object_refusal o ≡ pos 0 → side_sign_refusal o (whole x y) ≡ pos 0
  unfolding side_sign_refusal
  side-taken o h = simp (eq-eq_z h, place-point)

-- ---- the index

module _ (d : Drawing) (i x y : ℤ) where
  pub index-first : index_refusal d i ≡ pos 13 → pos 13 ≡ or_else (index_refusal d i) (place_refusal x y)
  index-first e = simp e

  pub place-next : index_refusal d i ≡ pos 0 → or_else (index_refusal d i) (place_refusal x y) ≡ place_refusal x y
  place-next e = simp e

-- ---- the answer

pub told-sign : (n v : ℤ) {s : ℤ} → pos 0 ∷ s ∷ [] ≡ answer n (v ∷ []) → (s ≡ v) × (v ≡ sign_or n v)
told-sign n v {s} e = go (ℤ_discrete n (pos 0))
  where
    go : Dec (n ≡ pos 0) → (s ≡ v) × (v ≡ sign_or n v)
    go (yes z) =
        let said : pos 0 ∷ s ∷ [] ≡ pos 0 ∷ v ∷ [] = e ∙ accepted (v ∷ []) z in
        let same : s ≡ v = cc in (same, sym (simp (eq-eq_z z)))
    go (no d) =
        let said : pos 0 ∷ s ∷ [] ≡ n ∷ [] = e ∙ refused (v ∷ []) d in
        let z : n ≡ pos 0 = cc in absurd (d z)

pub told-refusal : (n v : ℤ) (r : Refusal) → no_of r ∷ [] ≡ answer n (v ∷ []) → pos 100 +ℤ no_of r ≡ sign_or n v
told-refusal n v r e = go (ℤ_discrete n (pos 0))
  where
    go : Dec (n ≡ pos 0) → pos 100 +ℤ no_of r ≡ sign_or n v
    go (yes z) =
        let said : no_of r ∷ [] ≡ pos 0 ∷ v ∷ [] = e ∙ accepted (v ∷ []) z in
        let z : no_of r ≡ pos 0 = cc in absurd (no-zero r z)
    go (no d) =
        let said : no_of r ∷ [] ≡ n ∷ [] = e ∙ refused (v ∷ []) d in
        let same : no_of r ≡ n = cc in ap (λ (m : ℤ). pos 100 +ℤ m) same ∙ sym (simp (ne-eq_z d))

-- below 0, or too large for any drawing
abbrev pub far_index : ℤ → Bool
far_index i = lt_z i (pos 0) || le_z (pos most) i

-- else a natural number
pub record Natural (i : ℤ) : Type 0 where
  pub is : i ≡ pos (nat_abs i)
  pub small : nat_abs i < most

pub index-natural : (i : ℤ) → far_index i ≡ false → Natural i
index-natural (negsuc k) e = absurd (true≢false e)
index-natural (pos k) e = record { is = refl; small = leb-false most k ((neither (ltb k 0) (leb most k)).0 e).1 }

module _ (d : Drawing) (g : Listable d.objects) where
  index-past : (k : ℕ) → count_of d.objects ≤ k → index_refusal d (pos k) ≡ pos 13
  index-past k h = simp (le-ltb k (count_of d.objects) h)

  pub index-far : (i : ℤ) → far_index i ≡ true → index_refusal d i ≡ pos 13
  index-far (negsuc k) e = refl
  index-far (pos k) e = go ((either (ltb k 0) (leb most k)).0 e)
    where
      go : (ltb k 0 ≡ true) ⊎ (leb most k ≡ true) → index_refusal d (pos k) ≡ pos 13
      go (inl f) = let l = ltb-true k 0 f in absurd (omega arith)
      go (inr f) = index-past k (omega (arith, leb-true most k f, g.few))

  -- ---- the object

  module _ (z : d.refusal ≡ pos 0) (i : ℤ) (n : Natural i) where
    abbrev at : ℕ
    at = nat_abs i * width

    -- where a call of the reader gives an object
    pub found : (o : Object) → One o ≡ item_of d (nat_abs i) → (index_refusal d i ≡ pos 0) × (o ≡ object d i)
    unfolding item_of
    found o e = go (ltb at (length d.objects)) (ltb-true at (length d.objects)) e
      where
        go : (t : Bool) → (t ≡ true → at < length d.objects) → One o ≡ cond t (One (object_at d.objects (nat_abs i))) (end_of d.refusal)
            → (index_refusal d i ≡ pos 0) × (o ≡ object d i)
        go true y e =
            let f : o ≡ object_at d.objects (nat_abs i) = cc in
            let l : nat_abs i < count_of d.objects = omega (arith, y refl, g.whole) in
            (ap (index_refusal d) n.is ∙ simp (lt-ltb (nat_abs i) (count_of d.objects) l), f)
        go false y e =
            let f : One o ≡ End = e ∙ simp (eq-eq_z z) in
            let z : ◌≡◌ {A = ℕ} 0 1 = cc in
            absurd (omega arith)

    -- and where it gives none
    pub missed : ((o : Object) → item_of d (nat_abs i) ≡ One o → ⊥) → index_refusal d i ≡ pos 13
    unfolding item_of
    missed h = go (ltb at (length d.objects)) (ltb-false at (length d.objects)) h
      where
        go : (t : Bool) → (t ≡ false → length d.objects ≤ at) → ((o : Object) → cond t (One (object_at d.objects (nat_abs i))) (end_of d.refusal) ≡ One o → ⊥)
            → index_refusal d i ≡ pos 13
        go true y h = absurd (h (object_at d.objects (nat_abs i)) refl)
        go false y h = ap (index_refusal d) n.is ∙ index-past (nat_abs i) (omega (arith, y refl, g.whole))

    -- a refusal it does not give
    pub never-refused : {r : ℤ} → Refused r ≡ item_of d (nat_abs i) → ⊥
    unfolding item_of
    never-refused {r} e = go (ltb at (length d.objects)) e
      where
        go : (t : Bool) → Refused r ≡ cond t (One (object_at d.objects (nat_abs i))) (end_of d.refusal) → ⊥
        go true e = cc
        go false e = let f : Refused r ≡ End = e ∙ simp (eq-eq_z z) in cc

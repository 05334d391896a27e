-- The laws of what the calls answer. To cite:
--   check-answers   the check: 0, or a refusal of stored bytes
--   side-answers    the side: the paper's sign, or 100 plus one of nine refusals
--   sign-accepted   an answer of -1, 0 or 1 is never a refusal
--   side-accepted   where the call is not refused, the kernel refuses neither the object nor the point
-- Assumes nothing.
use Rattle.std.specs.Prelude.{◌≡◌, refl, ◌⊎◌, Bool, true, false, cond, ◌||◌, List, ◌∷◌, ℕ, ◌+◌, ltb, ℤ, pos, negsuc, nat_abs, ◌+ℤ◌}
use Rattle.std.proofs.Common.{ap, ◌∙◌, inl, inr, arith}
use Rattle.whole.specs.Within.{Within}
use Rattle.whole.specs.Flag.{eq_z}
use Rattle.whole.specs.Tests.{eq_z-true, eq_z-false, cond-by}
use Rattle.sheet.specs.Refusal.{beyond, object_refusal}
use Rattle.sheet.specs.RefusalTable.{OneOf}
use Rattle.sheet.proofs.RefusalTableLaws.{one_of, one_more, split}
use Rattle.sheet.specs.Signs.{side_sign, side_sign_refusal}
use Rattle.whole.specs.Choice.{or_else}
use Rattle.sheet.proofs.SignsLaws.{side-sign-within}
use Rattle.whole.specs.ChoiceLaws.{or-zero}
use Rattle.sheet.specs.Lists.{count_of}
use Rattle.sheet.specs.ListsLaws.{index_below}
use Rattle.sheet.specs.Flags.{cond-zero}
use Rattle.store.specs.Stored.{Drawing, read_drawing}
use Rattle.store.specs.Refusals.{of_bytes}
use Rattle.viewer.specs.Calls.{check_answer, object, whole, index_refusal, place_refusal, call_refusal, side_in, side_answer}
use Rattle.viewer.specs.SideIs.{of_side, SideIs, a_sign, a_refusal}
use Rattle.store.proofs.SoundLaws.{bytes-refusal, good}
use Rattle.viewer.specs.CallsLaws.{side-taken}

-- "0 or the refusal"
pub check-answers : (bs : List ℕ) → OneOf (0 ∷ of_bytes) (check_answer bs)
check-answers bs = bytes-refusal bs

-- ---- the refusal of a side is 0 or one of nine

abbrev Any : ℤ → Type 0
Any = OneOf (0 ∷ of_side)

of-bytes : {z : ℤ} → (z ≡ pos 0) ⊎ OneOf of_bytes z → Any z
of-bytes (inl e) = record { number = 0; is = e; one = refl }
of-bytes (inr o) = one_more (one_more o)

any-or : (n m : ℤ) → Any n → Any m → Any (or_else n m)
any-or n m h k = cond-by Any (eq_z n (pos 0)) (λ e. k) (λ e. h)

any-index : (d : Drawing) (i : ℤ) → Any (index_refusal d i)
any-index d (pos k) = cond-by Any (ltb k (count_of d.objects)) (λ e. one_of 0 refl) (λ e. one_of 13 refl)
any-index d (negsuc k) = one_of 13 refl

any-call : (bs : List ℕ) (i x y : ℤ) → Any (call_refusal (read_drawing bs) i x y)
any-call bs i x y =
    let d = read_drawing bs in
    let place = cond-by Any (beyond x || beyond y) (λ e. one_of 2 refl) (λ e. one_of 0 refl) in
    any-or d.refusal (or_else (index_refusal d i) (place_refusal x y)) (of-bytes (split (bytes-refusal bs)))
    (any-or (index_refusal d i) (place_refusal x y) (any-index d i) place)

some : {z : ℤ} → (z ≡ pos 0 → ⊥) → (z ≡ pos 0) ⊎ OneOf of_side z → OneOf of_side z
some d (inl e) = absurd (d e)
some d (inr o) = o

-- "-1, 0, 1, or 100 plus the refusal"
pub side-answers : (bs : List ℕ) (i x y : ℤ) → SideIs (read_drawing bs) i x y (side_answer bs i x y)
unfolding side_in
side-answers bs i x y = go (eq_z c (pos 0)) (λ e. eq_z-true e) (λ e. eq_z-false e)
  where
    d : Drawing
    d = read_drawing bs

    c : ℤ
    c = call_refusal d i x y

    s : ℤ
    s = side_sign (object d i) (whole x y)

    go : (t : Bool) → (t ≡ true → c ≡ pos 0) → (t ≡ false → c ≡ pos 0 → ⊥) → SideIs d i x y (cond t s (pos 100 +ℤ c))
    go true f g = a_sign (f refl) refl (side-sign-within (object d i) (whole x y))
    go false f g = a_refusal (some (g refl) (split (any-call bs i x y))) refl

-- a sign is never a refusal
pub sign-accepted : (bs : List ℕ) (i x y : ℤ) → Within 1 (side_answer bs i x y) → call_refusal (read_drawing bs) i x y ≡ pos 0
sign-accepted bs i x y w = go (side-answers bs i x y)
  where
    go : SideIs (read_drawing bs) i x y (side_answer bs i x y) → call_refusal (read_drawing bs) i x y ≡ pos 0
    go (a_sign e f v) = e
    go (a_refusal o e) =
        let large : nat_abs (side_answer bs i x y) ≡ 100 + o.number = ap nat_abs (e ∙ ap (λ (n : ℤ). pos 100 +ℤ n) o.is) in
        absurd (omega (arith, large, w.within))

-- ---- what is not refused

index-object : (bs : List ℕ) (i : ℤ) → (read_drawing bs).refusal ≡ pos 0 → index_refusal (read_drawing bs) i ≡ pos 0
    → object_refusal (object (read_drawing bs) i) ≡ pos 0
index-object bs (negsuc k) z e = absurd (eq_z-false {a = pos 13} {b = pos 0} refl e)
index-object bs (pos k) z e = ((good bs z).each k (index_below (read_drawing bs).objects k e)).accepted

pub side-accepted : (bs : List ℕ) (i x y : ℤ) → call_refusal (read_drawing bs) i x y ≡ pos 0
    → side_sign_refusal (object (read_drawing bs) i) (whole x y) ≡ pos 0
side-accepted bs i x y h =
    let d = read_drawing bs in
    let f = or-zero d.refusal (or_else (index_refusal d i) (place_refusal x y)) h in
    let g = or-zero (index_refusal d i) (place_refusal x y) f.1 in
    let near = ((cond-zero (beyond x || beyond y) (pos 2) (pos 0) refl).0 g.1).0 in
    side-taken x y near (object d i) (index-object bs i f.0 g.0)

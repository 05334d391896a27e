-- Laws of decimal text. To cite:
--   digits-one, digits_more     a number below ten is one digit; else its digits are those of its tenth and the last one
--   digits_value, digits-fewest the digits say the number, and no fewer could
--   digits-short, signed-short, count-short   a u64 and an i64 are at most 20 bytes long
--   signed-pos, signed-out      a number that is not below 0; a number out of a local
--   numbers_more                one number more at the end of a list's first
--   AllFit, fits-drop, fits-take   every number of a list fits an i64, and so of its parts
--   numbers-short               the first n numbers of such a list are at most n fields long
-- Assumes nothing.
use Rattle.std.specs.Prelude.{◌≡◌, refl, Bool, true, false, cond, List, [], ◌∷◌, ◌++◌, ℕ, zero, suc, ◌+◌, ◌*◌, ◌-◌, ◌/◌, ◌%◌, ◌^◌, ◌≤◌, ◌<◌, ltb, ℤ, pos, negsuc, nat_abs, length, take, drop, get_or}
use Rattle.std.proofs.Common.{sym, ◌∙◌, ap, subst, append_assoc, append-nil, div-lt_iff_lt-mul, pow-suc, mod-eq_of_lt, div-add-mod', add-one, arith, length-append, length-take, take-suc, get_or-take, get_or-drop, lt-ltb, le-ltb, ltb-true, ltb-false, SFits}
use Rattle.std.proofs.Math.Nat.{div-lt_self, min-le_left}
use Rattle.std.proofs.Math.ListN.{get_or-eq_default}
use Rattle.std.specs.Int.Signed.{lt_z}
use Rattle.std.specs.Int.{w64}
use Rattle.whole.specs.Bound.{fits64, w-pos}
use Rattle.whole.specs.Tests.{out, out-is}
use Rattle.decimal.specs.Decimal.{zero_digit, digits_to, digits, value, sized, signed, field, numbers, number_most, field_most}

-- ---- digits

same_digits : (k j n : ℕ) → n < k → n < j → digits_to k n ≡ digits_to j n
unfolding digits_to
same_digits zero j n h g = absurd (omega arith)
same_digits (suc k) zero n h g = absurd (omega arith)
same_digits (suc k) (suc j) n h g =
    ap (λ (l : List ℕ). l ++ ((zero_digit + n % 10) ∷ []))
    (go (ltb n 10) (ltb-false n 10) (λ t.
    let less : n / 10 < n = div-lt_self (omega arith) (omega arith) in
    same_digits k j (n / 10) (omega arith) (omega arith)))
  where
    go : (t : Bool) → (t ≡ false → 10 ≤ n) → (10 ≤ n → digits_to k (n / 10) ≡ digits_to j (n / 10))
        → cond t [] (digits_to k (n / 10)) ≡ cond t [] (digits_to j (n / 10))
    go true f ih = refl
    go false f ih = ih (f refl)

pub digits-one : (n : ℕ) → n < 10 → digits n ≡ (zero_digit + n % 10) ∷ []
unfolding digits digits_to
digits-one n h = simp (lt-ltb n 10 h)

pub digits_more : (n : ℕ) → 10 ≤ n → digits n ≡ digits (n / 10) ++ ((zero_digit + n % 10) ∷ [])
unfolding digits digits_to
digits_more n h =
    let less : n / 10 < n = div-lt_self (omega arith) (omega arith) in
    simp (le-ltb n 10 h)
    (ap (λ (l : List ℕ). l ++ ((zero_digit + n % 10) ∷ [])) (same_digits n (suc (n / 10)) (n / 10) less (omega arith)))

-- n has no more digits than any number of digits, one at least, that holds n
pub digits-fewest : (k n : ℕ) → n < 10 ^ suc k → length (digits n) ≤ suc k
digits-fewest zero n h = simp (digits-one n h) (omega arith)
digits-fewest (suc k) n h = go (ltb n 10) (ltb-true n 10) (ltb-false n 10) (λ t. digits-fewest k (n / 10)
    ((div-lt_iff_lt-mul (omega arith)).1 (subst (λ (m : ℕ). n < m) (pow-suc 10 (suc k)) h)))
  where
    go : (t : Bool) → (t ≡ true → n < 10) → (t ≡ false → 10 ≤ n) → (10 ≤ n → length (digits (n / 10)) ≤ suc k)
        → length (digits n) ≤ suc (suc k)
    go true f g ih = simp (digits-one n (f refl)) (omega arith)
    go false f g ih =
        let rest = ih (g refl) in
        simp (digits_more n (g refl), length-append) (omega arith)

value-append : (n : ℕ) (l m : List ℕ) → value n (l ++ m) ≡ value (value n l) m
value-append n [] m = refl
value-append n (b ∷ l) m = value-append (n * 10 + (b - zero_digit)) l m

digits-to-value : (k n : ℕ) → n < k → value 0 (digits_to k n) ≡ n
unfolding digits_to
digits-to-value zero n h = absurd (omega arith)
digits-to-value (suc k) n h = go (ltb n 10) (ltb-true n 10) (ltb-false n 10) (λ t.
    let less : n / 10 < n = div-lt_self (omega arith) (omega arith) in
    digits-to-value k (n / 10) (omega arith))
  where
    go : (t : Bool) → (t ≡ true → n < 10) → (t ≡ false → 10 ≤ n) → (10 ≤ n → value 0 (digits_to k (n / 10)) ≡ n / 10)
        → value 0 (cond t [] (digits_to k (n / 10)) ++ ((zero_digit + n % 10) ∷ [])) ≡ n
    go true f g ih = omega (arith, mod-eq_of_lt (f refl))
    go false f g ih =
        value-append 0 (digits_to k (n / 10)) ((zero_digit + n % 10) ∷ [])
        ∙ omega (arith, ih (g refl), div-add-mod' n 10)

pub digits_value : (n : ℕ) → value 0 (digits n) ≡ n
unfolding digits
digits_value n = digits-to-value (suc n) n (omega arith)

pub digits-short : (n : ℕ) → n < 2 ^ 64 → length (digits n) ≤ 20
digits-short n h = digits-fewest 19 n (omega arith)

size_small : (z : ℤ) → SFits w64 z → nat_abs z < 10 ^ 19
size_small (pos n) f = let h : n < 2 ^ 63 = f.sfits in omega arith
size_small (negsuc n) f = let h : n < 2 ^ 63 = f.sfits in omega arith

pub signed-short : (z : ℤ) → SFits w64 z → length (signed z) ≤ number_most
signed-short z f = go (lt_z z (pos 0))
  where
    few : length (digits (nat_abs z)) ≤ 19
    few = digits-fewest 18 (nat_abs z) (size_small z f)

    go : (t : Bool) → length (sized t (nat_abs z)) ≤ number_most
    go true = let h = few in omega arith
    go false = let h = few in omega arith

pub signed-pos : (n : ℕ) → signed (pos n) ≡ digits n
signed-pos n = simp (le-ltb n 0 (omega arith))

pub count-short : (n : ℕ) → n < 2 ^ 64 → length (signed (pos n)) ≤ number_most
count-short n h = simp (signed-pos n) (digits-short n h)

-- an i64 out of a local
pub signed-out : {z : ℤ} {n : ℕ} → SFits w64 z → n ≡ nat_abs (out z) → sized (lt_z (out z) (pos 0)) n ≡ signed z
signed-out f e = simp (e, out-is, f)

-- ---- lists of numbers

numbers-append : (l m : List ℤ) → numbers (l ++ m) ≡ numbers l ++ numbers m
unfolding numbers
numbers-append [] m = refl
numbers-append (z ∷ l) m =
    ap (λ (t : List ℕ). field z ++ t) (numbers-append l m) ∙ sym (append_assoc (field z) (numbers l) (numbers m))

pub numbers_more : (l : List ℤ) (i : ℕ) → i < length l → numbers (take (i + 1) l) ≡ numbers (take i l) ++ field (get_or l i (pos 0))
unfolding numbers
numbers_more l i h =
    ap (λ (k : ℕ). numbers (take k l)) (add-one i) ∙ ap numbers (take-suc l i (pos 0) h) ∙ numbers-append (take i l) (get_or l i (pos 0) ∷ [])
    ∙ ap (λ (t : List ℕ). numbers (take i l) ++ t) (append-nil (field (get_or l i (pos 0))))

-- every number of a list fits an i64
pub record AllFit (l : List ℤ) : Type 0 where
  pub fit : (i : ℕ) → SFits w64 (get_or l i (pos 0))

pub fits-drop : {l : List ℤ} (n : ℕ) → AllFit l → AllFit (drop n l)
fits-drop {l} n f = record { fit = λ i. subst (SFits w64) (sym (get_or-drop n l i (pos 0))) (f.fit (n + i)) }

-- the first n numbers of a list: none of them is longer than a field
pub numbers-short : (n : ℕ) {l : List ℤ} → AllFit l → length (numbers (take n l)) ≤ n * field_most
unfolding numbers
numbers-short zero f = omega arith
numbers-short (suc n) {l = []} f = omega arith
numbers-short (suc n) {l = z ∷ l} f =
    let first = signed-short z (f.fit 0) in
    let rest = numbers-short n {l = l} (fits-drop 1 f) in
    simp length-append (omega arith)

pub fits-take : {l : List ℤ} (n : ℕ) → AllFit l → AllFit (take n l)
fits-take {l} n f = record { fit = λ i. go i (ltb i n) (ltb-true i n) (ltb-false i n) }
  where
    go : (i : ℕ) (t : Bool) → (t ≡ true → i < n) → (t ≡ false → n ≤ i) → SFits w64 (get_or (take n l) i (pos 0))
    go i true g h = subst (SFits w64) (sym (get_or-take n l i (pos 0) (g refl))) (f.fit i)
    go i false g h =
        let past = h refl in
        let end : length (take n l) ≤ i = omega (arith, length-take n l, min-le_left n (length l)) in
        subst (SFits w64) (sym (get_or-eq_default (take n l) (pos 0) end)) (fits64 (w-pos 0) tt)

-- The error of `round binary64` in the normal range is half a unit in the last place. To cite:
--   Close        two numbers differ by at most one part in 2 ^ 53
--   grid-close   a fraction rounded to 53 bits is close to the fraction, in units of the smallest value
-- Assumes nothing.
use Rattle.std.specs.Prelude.{◌≡◌, not, T, eqb}
use Rattle.std.proofs.Common.{sym, ap, ◌∙◌, subst, le_trans, le_of_eq, mul_comm, mul_assoc, mul_right_comm, add-mul, mul-le-mul_right, div-add-mod', mod-lt, le-div_iff_mul-le, mul-pos, arith, leb→le, eqb→eq, pow-add, pow_pos}
use Prim.Native.Nat.{ℕ, suc, ◌+◌, ◌-◌, ◌*◌, ◌/◌, ◌%◌, ◌^◌, ◌≤◌, ◌<◌, compare, Ordering}
use Rattle.std.proofs.Math.Dec.{is_le, compare_is_eq, nleb→lt, eqb_refl}
use Rattle.std.proofs.Math.Arith.{lt_of_le-ne}
use Rattle.std.specs.Float.Ieee.{nearest, size}
use Rattle.std.specs.Float.Ieee.Digits.{size_reaches}
use Rattle.std.specs.Float.Ieee.Nearest.{closest}
use Rattle.std.specs.Float.Ieee.Order.{drop, kept}

-- ---- the nearest multiple of u

abbrev Compared : Ordering → ℕ → ℕ → Type 0
Compared Ordering.lt a b = a < b
Compared Ordering.eq a b = a ≡ b
Compared Ordering.gt a b = b < a

compared : (a b : ℕ) → Compared (compare a b) a b
compared a b = go (compare a b) (leb→le a b) (nleb→lt a b) (eqb→eq a b) (λ (e : a ≡ b). subst (λ (x : ℕ). T (eqb a x)) e (eqb_refl a))
  where
    go : (o : Ordering) → (T (is_le o) → a ≤ b) → (T (not (is_le o)) → b < a) → (T (compare_is_eq o) → a ≡ b) → (a ≡ b → T (compare_is_eq o))
        → Compared o a b
    go Ordering.lt h k e n = lt_of_le-ne (h tt) n
    go Ordering.eq h k e n = e tt
    go Ordering.gt h k e n = k tt

-- x is within half of u of n
abbrev Half : ℕ → ℕ → ℕ → Type 0
Half x n u = (x * 2 ≤ n * 2 + u) × (n * 2 ≤ x * 2 + u)

odd_part : (q u : ℕ) → q % 2 * u ≤ u
odd_part q u = le_trans (mul-le-mul_right u (small q)) (le_of_eq (one u))
  where
    small : (q : ℕ) → q % 2 ≤ 1
    small q = omega arith

    one : (u : ℕ) → 1 * u ≡ u
    one u = omega arith

nearest-half : (q r u n : ℕ) (o : Ordering) → Compared o (r * 2) u → r < u → q * u + r ≡ n → Half (nearest q o * u) n u
nearest-half q r u n Ordering.lt c l e = (omega arith, omega arith)
nearest-half q r u n Ordering.eq c l e =
    let a : (q + q % 2) * u ≡ q * u + q % 2 * u = add-mul q (q % 2) u in
    let b = odd_part q u in
    (omega arith, omega arith)
nearest-half q r u n Ordering.gt c l e =
    let a : suc q * u ≡ q * u + u = omega arith in
    (omega arith, omega arith)

closest-half : (n u : ℕ) → 0 < u → Half (closest n u * u) n u
closest-half n u U =
    nearest-half (n / u) (n % u) u n (compare (n % u * 2) u) (compared (n % u * 2) u) (mod-lt n U) (div-add-mod' n u)

-- ---- one part in 2 ^ 53

abbrev pub Close : ℕ → ℕ → Type 0
Close x n = (x * 2 ^ 53 ≤ n * 2 ^ 53 + n) × (n * 2 ^ 53 ≤ x * 2 ^ 53 + n)

half-close : (x n u : ℕ) → Half x n u → u * 2 ^ 52 ≤ n → Close x n
half-close x n u h l = (omega (arith, h.0), omega (arith, h.1))

last_bit : (z : ℕ) → 53 ≤ z → 52 + (z - 53) < z
last_bit z h = omega arith

pub grid-close : (n c : ℕ) → 0 < c → 53 ≤ size (n / c) → Close (kept 53 n c * 2 ^ drop 53 n c * c) n
grid-close n c C S =
    let k = drop 53 n c in
    let u = c * 2 ^ k in
    let top : 2 ^ (52 + k) * c ≤ n = (le-div_iff_mul-le C).0 (size_reaches (n / c) (52 + k) (last_bit (size (n / c)) S)) in
    let turned : 2 ^ (52 + k) * c ≡ u * 2 ^ 52 =
    ap (λ (x : ℕ). x * c) (pow-add 2 52 k) ∙ mul_right_comm (2 ^ 52) (2 ^ k) c ∙ mul_assoc (2 ^ 52) c (2 ^ k) ∙ mul_comm (2 ^ 52) u in
    let here : closest n u * u ≡ kept 53 n c * 2 ^ k * c =
    ap (λ (x : ℕ). closest n u * x) (mul_comm c (2 ^ k)) ∙ sym (mul_assoc (closest n u) (2 ^ k) c) in
    subst (λ (x : ℕ). Close x n) here
    (half-close (closest n u * u) n u (closest-half n u (mul-pos C (pow_pos k))) (le_trans (le_of_eq (sym turned)) top))

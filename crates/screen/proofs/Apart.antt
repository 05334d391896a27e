-- Two fractions of points, n/w and n'/w', that one float shows are equal, where the one is as in a narrow point: different ones differ by more
-- than rounding can hide. To cite:
--   hidden         |w n' - w' n| times 2 ^ 53 is at most 32,000,000 times 8,000,000 and 4,000 times 64,000,000,000 together
--   one-quotient   so it is 0
-- Assumes nothing.
use Rattle.std.specs.Prelude.{◌≡◌, [], ◌∷◌, ℕ, ◌+◌, ◌*◌, ◌^◌, ◌≤◌, ◌<◌, ℤ, pos, negsuc, nat_abs, ◌*ℤ◌, ◌-ℤ◌, Float}
use Rattle.std.proofs.Common.{sym, ap, subst, le_trans, le_of_eq, mul_right_comm, mul-le-mul_right, le_of_mul-le-mul_right, arith}
use Rattle.whole.specs.Laws.{eq-of-sub}
use Rattle.whole.specs.Within.{Within}
use Rattle.whole.specs.Bound.{w-self, w-is, w-sub, w-mul, w-lit, nat_abs_mul}
use Rattle.whole.specs.Reify.{reify, reading, solve}
use Rattle.sheet.specs.PointFacts.{Denominator}
use Rattle.screen.specs.Quotient.{quotient, over, under, Near}
use Rattle.screen.specs.Parts.{Parts}
use Rattle.screen.proofs.QuotientLaws.{quotient-near}

size-zero : (z : ℤ) → nat_abs z ≡ 0 → z ≡ pos 0
size-zero (pos n) e = ap pos e
size-zero (negsuc n) e = absurd (omega arith)

-- k Q is at most 32,000,000 times d and 4,000 times d', which are at most 8,000,000 Q and 64,000,000,000 Q over 2 ^ 53
squeezed : (k d d' Q : ℕ) → 0 < Q → k * Q ≤ 32000000 * d + 4000 * d' → d * 2 ^ 53 ≤ 8000000 * Q → d' * 2 ^ 53 ≤ 64000000000 * Q
    → k * 2 ^ 53 ≤ 512000000000000
squeezed k d d' Q h s l l' =
    let e : k * 2 ^ 53 * Q ≡ k * Q * 2 ^ 53 = mul_right_comm k (2 ^ 53) Q in
    le_of_mul-le-mul_right (le_trans (le_of_eq e) (omega arith)) h

module _ {n w n' w' : ℤ} (a : Within 8000000 n) (u : Denominator 4000 w) (b : Parts n' w') (e : quotient n w ≡ quotient n' w') where
  abbrev x : Float
  x = quotient n w

  -- the one float P/Q is near both
  off : {k : ℕ} {n w : ℤ} → Within k n → Near n w x → nat_abs (over x *ℤ w -ℤ n *ℤ pos (under x)) * 2 ^ 53 ≤ k * under x
  off s h = le_trans h.near (mul-le-mul_right (under x) s.within)

  -- w' (P w - n Q) - w (P w' - n' Q) = (w n' - w' n) Q
  together : (P Q : ℤ) → (w *ℤ n' -ℤ w' *ℤ n) *ℤ Q ≡ w' *ℤ (P *ℤ w -ℤ n *ℤ Q) -ℤ w *ℤ (P *ℤ w' -ℤ n' *ℤ Q)
  together P Q = reify (n ∷ w ∷ n' ∷ w' ∷ P ∷ Q ∷ []) (λ ρ v. simp (reading, v 0, v 1, v 2, v 3, v 4, v 5) (solve _ _ _ tt))

  pub hidden : nat_abs (w *ℤ n' -ℤ w' *ℤ n) * 2 ^ 53 ≤ 512000000000000
  hidden =
      let P = over x in
      let Q = under x in
      let d = P *ℤ w -ℤ n *ℤ pos Q in
      let d' = P *ℤ w' -ℤ n' *ℤ pos Q in
      let z = w *ℤ n' -ℤ w' *ℤ n in
      let far = quotient-near (record { in_n = w-lit a tt; in-w = record { above = u.above; at_most = w-lit u.at_most tt } }) in
      let far' = subst (Near n' w') (sym e) (quotient-near b) in
      let s = w-is (together P (pos Q)) (w-sub (w-mul b.in-w.at_most (w-self d)) (w-mul u.at_most (w-self d'))) in
      squeezed (nat_abs z) (nat_abs d) (nat_abs d') Q far.above
      (le_trans (le_of_eq (sym (nat_abs_mul z (pos Q)))) s.within) (off a far) (off b.in_n far')

  pub one-quotient : w' *ℤ n ≡ w *ℤ n'
  one-quotient = sym (eq-of-sub (w *ℤ n') (w' *ℤ n) (size-zero (w *ℤ n' -ℤ w' *ℤ n) (omega (arith, hidden))))

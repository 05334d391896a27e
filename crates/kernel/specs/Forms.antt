-- The forms in which the code computes what the paper defines, and that they are the same. To cite:
--   is_flat, flat-form, steep-form   which form the far end has, by one test, and that its w is above 0
--   flat-is, steep-is     its numbers with fewer products
--   not_beyond            a coordinate that is not beyond reach is within it
--   pair_side              the side of the line from p to q
--   mixed-is              the coefficient of R in the turn is a sum of two determinants
--   divisor-bounds        the common divisor is above 0 and small
-- Assumes nothing.
use Rattle.std.specs.Prelude.{◌≡◌, refl, Bool, true, false, not, ◌&&◌, ◌||◌, [], ◌∷◌, ◌<◌, ◌≤◌, ℤ, pos, neg_ℤ, nat_abs, ◌+ℤ◌, ◌-ℤ◌, ◌*ℤ◌, ◌<ℤ◌}
use Rattle.std.proofs.Common.{sym, ap, subst, le_trans, arith}
use Rattle.std.proofs.Math.Nat.{le_of_dvd}
use Rattle.std.specs.Int.Signed.{lt_z, le_z, clash_ℤ}
use Rattle.whole.specs.Sign.{sgn}
use Rattle.whole.specs.SignLaws.{sgn-abs}
use Rattle.whole.specs.Flag.{eq_z}
use Rattle.whole.specs.Tests.{lt_z-true, lt_z-false, eq-eq_z, ne-eq_z, lt-lt_z, le-lt_z, le-le_z, lt-le_z}
use Rattle.sheet.specs.declared.Point.{Point}
use Rattle.sheet.specs.Ends.{flat, steep, far_raw}
use Rattle.sheet.proofs.EndsLaws.{Far, far, flatter, steeper, tie_flat, tie_steep, moving}
use Rattle.whole.specs.Choice.{or_else}
use Rattle.whole.specs.Reify.{reify, reading, solve}
use Rattle.whole.specs.Order.{pp-dest, nn-pos, ≤-<-trans, ≤-of, <-≤}
use Rattle.whole.specs.Divisor.{gcd_of}
use Rattle.whole.specs.DivisorLaws.{gcd_of-above}
use Rattle.sheet.specs.PointsLaws.{divides-w}
use Rattle.sheet.specs.Limits.{reach}
use Rattle.sheet.specs.Refusal.{beyond}
use Rattle.sheet.specs.Points.{size, within}
use Rattle.sheet.specs.Coefficients.{det, turn_b}
use Rattle.kernel.specs.Bounds.{Raw}

-- |dx| is the larger, or both are equal and sx sy k is 0 or less
abbrev pub is_flat : ℤ → ℤ → ℤ → Bool
is_flat dx dy k = lt_z (size dy) (size dx) || (eq_z (size dx) (size dy) && le_z (sgn dx *ℤ sgn dy *ℤ k) (pos 0))

-- which form the test finds, and that its w is above 0
data FarForm (dx dy k : ℤ) : Bool → Type 0 where
  is-flat : far_raw dx dy k ≡ flat dx dy k → pos 0 <ℤ size dx → FarForm dx dy k true
  is_steep : far_raw dx dy k ≡ steep dx dy k → pos 0 <ℤ size dy → FarForm dx dy k false

module _ (dx dy k : ℤ) where
  form : (dx ≡ pos 0 → dy ≡ pos 0 → ⊥) → FarForm dx dy k (is_flat dx dy k)
  form n = go (far dx dy k)
    where
      by : {t : Bool} → is_flat dx dy k ≡ t → FarForm dx dy k t → FarForm dx dy k (is_flat dx dy k)
      by e = subst (FarForm dx dy k) (sym e)

      go : Far dx dy k → FarForm dx dy k (is_flat dx dy k)
      go (flatter l e) = by (simp (lt-lt_z l)) (is-flat e (≤-<-trans (nn-pos (nat_abs dy)) l))
      go (steeper l e) =
          by (simp (le-lt_z (<-≤ l), ne-eq_z (λ q. clash_ℤ l (≤-of (sym q))))) (is_steep e (≤-<-trans (nn-pos (nat_abs dx)) l))
      go (tie_flat q t e) = by (simp (eq-eq_z (sym q), le-lt_z (≤-of (sym q)), le-le_z t)) (is-flat e (moving dx dy q n))
      go (tie_steep q t e) =
          by (simp (eq-eq_z (sym q), le-lt_z (≤-of (sym q)), lt-le_z t)) (is_steep e (moving dy dx (sym q) (λ y x. n x y)))

  pub flat-form : (dx ≡ pos 0 → dy ≡ pos 0 → ⊥) → is_flat dx dy k ≡ true → (far_raw dx dy k ≡ flat dx dy k) × (pos 0 <ℤ size dx)
  flat-form n h = go (subst (FarForm dx dy k) h (form n))
    where
      go : FarForm dx dy k true → (far_raw dx dy k ≡ flat dx dy k) × (pos 0 <ℤ size dx)
      go (is-flat e a) = (e, a)

  pub steep-form : (dx ≡ pos 0 → dy ≡ pos 0 → ⊥) → is_flat dx dy k ≡ false → (far_raw dx dy k ≡ steep dx dy k) × (pos 0 <ℤ size dy)
  steep-form n h = go (subst (FarForm dx dy k) h (form n))
    where
      go : FarForm dx dy k false → (far_raw dx dy k ≡ steep dx dy k) × (pos 0 <ℤ size dy)
      go (is_steep e a) = (e, a)

  -- sx |dx| is dx
  pub flat-is : flat dx dy k ≡ record { mx = dx; nx = pos 0; my = dy; ny = sgn dx *ℤ k; w = size dx }
  flat-is = λ i. record { mx = sgn-abs dx i; nx = pos 0; my = dy; ny = sgn dx *ℤ k; w = size dx }

  pub steep-is : steep dx dy k ≡ record { mx = dx; nx = neg_ℤ (sgn dy *ℤ k); my = dy; ny = pos 0; w = size dy }
  steep-is = λ i. record { mx = dx; nx = neg_ℤ (sgn dy *ℤ k); my = sgn-abs dy i; ny = pos 0; w = size dy }

-- ---- the largest coordinate

not-lt : (a b : ℤ) → le_z b a ≡ not (lt_z a b)
not-lt a b = go (lt_z a b) refl
  where
    go : (t : Bool) → lt_z a b ≡ t → le_z b a ≡ not t
    go true e = lt-le_z {a = b} {b = a} (lt_z-true e)
    go false e = le-le_z {a = b} {b = a} (lt_z-false e)

pub not_beyond : (z : ℤ) → not (beyond z) ≡ within reach z
not_beyond z = go (lt_z z (neg_ℤ reach)) (lt_z reach z) (not-lt z (neg_ℤ reach)) (not-lt reach z)
  where
    go : (s t : Bool) → le_z (neg_ℤ reach) z ≡ not s → le_z z reach ≡ not t → not (s || t) ≡ within reach z
    go true t e f = sym (simp (e, f))
    go false t e f = sym (simp (e, f))

-- ---- the divisor of five numbers

pub divisor-bounds :
    {mx nx my ny w : ℤ} → Raw mx nx my ny w
    → (0 < gcd_of (mx ∷ nx ∷ my ∷ ny ∷ w ∷ [])) × (gcd_of (mx ∷ nx ∷ my ∷ ny ∷ w ∷ []) ≤ 64000000000)
divisor-bounds {mx} {nx} {my} {ny} {w} r =
    let d = divides-w (record { mx = mx; nx = nx; my = my; ny = ny; w = w }) in
    let s : 0 < nat_abs w = let e = ap nat_abs (pp-dest r.above).1 in omega arith in
    (gcd_of-above _ w d s, le_trans (le_of_dvd s d) r.bw.within)

-- ---- the coefficient of R in the turn, as two determinants

pub mixed-is :
    (p q s : Point) →
    det p.w p.mx p.ny q.w q.mx q.ny s.w s.mx s.ny
    +ℤ det p.w p.nx p.my q.w q.nx q.my s.w s.nx s.my
    ≡ turn_b p q s
mixed-is p q s =
    reify
    (p.mx ∷ p.nx ∷ p.my ∷ p.ny ∷ p.w ∷ q.mx ∷ q.nx ∷ q.my ∷ q.ny ∷ q.w ∷ s.mx ∷ s.nx ∷ s.my ∷ s.ny ∷ s.w ∷ [])
    (λ ρ v. simp (reading, v 0, v 1, v 2, v 3, v 4, v 5, v 6, v 7, v 8, v 9, v 10, v 11, v 12, v 13, v 14) (solve _ _ _ tt))

-- ---- the side of the line from p to q, number by number

abbrev pub pair_side : ℤ → ℤ → ℤ → ℤ → ℤ → ℤ → ℤ → ℤ → ℤ → ℤ
pair_side px py qx qy mx nx my ny w =
    or_else (sgn ((qx -ℤ px) *ℤ my -ℤ (qy -ℤ py) *ℤ mx))
    (sgn ((qx -ℤ px) *ℤ ny -ℤ (qy -ℤ py) *ℤ nx -ℤ w *ℤ ((qx -ℤ px) *ℤ py -ℤ (qy -ℤ py) *ℤ px)))

-- The solver tried on what the sheets need: the turn in powers of R, its antisymmetry, Cramer's rule; and each way of Linear and Cert
-- on a small goal. docs/PROVING.md cites these.
use Rattle.std.specs.Prelude.{◌≡◌, [], ◌∷◌, ℤ, pos, neg_ℤ, ◌+ℤ◌, ◌-ℤ◌, ◌*ℤ◌, ◌≤ℤ◌, ◌<ℤ◌}
use Rattle.std.proofs.Common.{arith}
use Rattle.whole.specs.Reify.{reify, reading, solve, val_pos, val-negsuc}
use Rattle.whole.specs.Order.{lt-cert, le-nn, lt-pp, nn-add, nn-mul, nn-pos, pp-add}
use Rattle.whole.specs.Cert.{z-eq, z-add, eq-cert}
use Rattle.whole.specs.Linear.{diffs, split}

abbrev det : ℤ → ℤ → ℤ → ℤ → ℤ → ℤ → ℤ → ℤ → ℤ → ℤ
det w1 x1 y1 w2 x2 y2 w3 x3 y3 =
    w1 *ℤ (x2 *ℤ y3 -ℤ x3 *ℤ y2) -ℤ w2 *ℤ (x1 *ℤ y3 -ℤ x3 *ℤ y1) +ℤ w3 *ℤ (x1 *ℤ y2 -ℤ x2 *ℤ y1)

-- the coefficient of R in X Y' - X' Y
abbrev mixed : ℤ → ℤ → ℤ → ℤ → ℤ → ℤ → ℤ → ℤ → ℤ
mixed mx nx my ny mx' nx' my' ny' = mx *ℤ ny' +ℤ nx *ℤ my' -ℤ (mx' *ℤ ny +ℤ nx' *ℤ my)

module _ (R w1 mx1 nx1 my1 ny1 w2 mx2 nx2 my2 ny2 w3 mx3 nx3 my3 ny3 : ℤ) where
  turn-in-powers :
      det w1 (mx1 *ℤ R +ℤ nx1) (my1 *ℤ R +ℤ ny1) w2 (mx2 *ℤ R +ℤ nx2) (my2 *ℤ R +ℤ ny2) w3 (mx3 *ℤ R +ℤ nx3) (my3 *ℤ R +ℤ ny3)
      ≡ det w1 mx1 my1 w2 mx2 my2 w3 mx3 my3 *ℤ R *ℤ R
      +ℤ (w1 *ℤ mixed mx2 nx2 my2 ny2 mx3 nx3 my3 ny3 -ℤ w2 *ℤ mixed mx1 nx1 my1 ny1 mx3 nx3 my3 ny3
      +ℤ w3 *ℤ mixed mx1 nx1 my1 ny1 mx2 nx2 my2 ny2) *ℤ R
      +ℤ det w1 nx1 ny1 w2 nx2 ny2 w3 nx3 ny3
  turn-in-powers =
      reify (R ∷ w1 ∷ mx1 ∷ nx1 ∷ my1 ∷ ny1 ∷ w2 ∷ mx2 ∷ nx2 ∷ my2 ∷ ny2 ∷ w3 ∷ mx3 ∷ nx3 ∷ my3 ∷ ny3 ∷ [])
      (λ ρ v. simp (reading, v 0, v 1, v 2, v 3, v 4, v 5, v 6, v 7, v 8, v 9, v 10, v 11, v 12, v 13, v 14, v 15) (solve _ _ _ tt))

turn-swap : (w1 x1 y1 w2 x2 y2 w3 x3 y3 : ℤ) → det w2 x2 y2 w1 x1 y1 w3 x3 y3 ≡ neg_ℤ (det w1 x1 y1 w2 x2 y2 w3 x3 y3)
turn-swap w1 x1 y1 w2 x2 y2 w3 x3 y3 =
    reify (w1 ∷ x1 ∷ y1 ∷ w2 ∷ x2 ∷ y2 ∷ w3 ∷ x3 ∷ y3 ∷ [])
    (λ ρ v. simp (reading, v 0, v 1, v 2, v 3, v 4, v 5, v 6, v 7, v 8) (solve _ _ _ tt))

cramer : (a b c a' b' c' x y : ℤ) → a *ℤ x +ℤ b *ℤ y ≡ c → a' *ℤ x +ℤ b' *ℤ y ≡ c' → (a *ℤ b' -ℤ a' *ℤ b) *ℤ x ≡ c *ℤ b' -ℤ c' *ℤ b
cramer a b c a' b' c' x y h k =
    eq-cert _ (z-add (z-eq b' h) (z-eq (neg_ℤ b) k))
    (reify (a ∷ b ∷ c ∷ a' ∷ b' ∷ c' ∷ x ∷ y ∷ []) (λ ρ v. simp (reading, v 0, v 1, v 2, v 3, v 4, v 5, v 6, v 7) (solve _ _ _ tt)))

-- one goal both ways: by `omega`, and by a certificate, 14 - (a + 2 b) = (c - (a + 2 b)) + (3 d - 1 - c) + 3 (5 - d)
module _ (a b c d : ℤ) (h : (a +ℤ pos 2 *ℤ b) ≤ℤ c) (k : c <ℤ (pos 3 *ℤ d -ℤ pos 1)) (l : d ≤ℤ pos 5) where
  linear : (a +ℤ pos 2 *ℤ b) <ℤ pos 14
  linear =
      split a λ p n ea. split b λ q m eb. split c λ r s ec. split d λ t u ed.
      let h' = simp (diffs, ea, eb, ec) at h in
      let k' = simp (diffs, ec, ed) at k in
      let l' = simp (diffs, ed) at l in
      simp (diffs, ea, eb) (omega arith)

  certified : (a +ℤ pos 2 *ℤ b) <ℤ pos 14
  certified =
      lt-cert _ (pp-add (lt-pp k) (nn-add (le-nn h) (nn-mul (nn-pos 3) (le-nn l))))
      (reify (a ∷ b ∷ c ∷ d ∷ []) (λ ρ v. simp (reading, val_pos ρ, val-negsuc ρ, v 0, v 1, v 2, v 3) (solve _ _ _ tt)))

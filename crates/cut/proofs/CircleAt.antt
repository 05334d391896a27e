-- The side of circle at R is the sign of the ordinary determinant of four places. To cite:
--   sign-equal      the same fraction has the same sign
--   over, determinant-sign   the determinant of four places, each over its one denominator, has the sign of that in whole numbers
--   circle-sign     of any points, at any R: the columns taken w w times have the sign of the printed determinant, in fractions
--   circle-at       of four points that are not refused: the side of circle, for every R above 1,000,000,000,000
use Rattle.std.specs.Prelude.{◌≡◌, [], ◌∷◌, ℤ, pos, neg_ℤ, ◌+ℤ◌, ◌-ℤ◌, ◌*ℤ◌, ◌<ℤ◌}
use Rattle.std.proofs.Common.{sym, ◌∙◌, ap}
use Rattle.whole.specs.Reify.{reify, reading, solve}
use Rattle.whole.specs.Order.{pp-mul}
use Rattle.whole.specs.Sign.{sgn}
use Rattle.whole.specs.SignLaws.{sgn-mul-pos}
use Rattle.whole.specs.Poly.{value}
use Rattle.whole.specs.Fraction.{Fraction, Equal}
use Rattle.whole.specs.FractionLaws.{sum-equal, product-equal, opposite-equal}
use Rattle.sheet.specs.declared.Point.{Point}
use Rattle.sheet.specs.Circle.{circle_poly, side_of_circle}
use Rattle.sheet.proofs.CircleLaws.{Over, circle_z, circle-value, Four}
use Rattle.sheet.proofs.Angles.{circle_need, circle-settled}
use Rattle.cut.specs.Place.{put, Spot, place_of}
use Rattle.cut.specs.Ordinary.{rows1_xy, squared, circle_determinant, sign_of}
use Rattle.cut.proofs.Same.{spot_at}
use Rattle.cut.proofs.TurnAt.{det_of}

pub sign-equal : {a b : Fraction} → Equal a b → sign_of a ≡ sign_of b
sign-equal {a} {b} e = sym (sgn-mul-pos a.num b.den b.above) ∙ ap sgn e.equal ∙ sgn-mul-pos b.num a.den a.above

-- ---- the four parts

squared-is : (P : Spot) → Equal (squared (place_of P))
    (record { num = P.X *ℤ P.X +ℤ P.Y *ℤ P.Y; den = P.W *ℤ P.W; above = pp-mul P.above P.above })
squared-is P = record { equal = reify (P.X ∷ P.Y ∷ P.W ∷ []) (λ ρ v. simp (reading, v 0, v 1, v 2) (solve _ _ _ tt)) }

rows-equal : (P Q S : Spot) → Equal (rows1_xy (place_of P) (place_of Q) (place_of S))
    (record { num = det_of P Q S; den = P.W *ℤ (Q.W *ℤ S.W); above = pp-mul P.above (pp-mul Q.above S.above) })
rows-equal P Q S = record {
  equal =
      reify (P.W ∷ P.X ∷ P.Y ∷ Q.W ∷ Q.X ∷ Q.Y ∷ S.W ∷ S.X ∷ S.Y ∷ [])
      (λ ρ v. simp (reading, v 0, v 1, v 2, v 3, v 4, v 5, v 6, v 7, v 8) (solve _ _ _ tt));
}

-- each over its own denominator, together they are the determinant over the square of w1 w2 w3 w4

module _ (a b c d w1 w2 w3 w4 : ℤ) where
  abbrev da : ℤ
  da = (w1 *ℤ w1) *ℤ (w2 *ℤ (w3 *ℤ w4))

  abbrev db : ℤ
  db = (w2 *ℤ w2) *ℤ (w1 *ℤ (w3 *ℤ w4))

  abbrev dc : ℤ
  dc = (w3 *ℤ w3) *ℤ (w1 *ℤ (w2 *ℤ w4))

  abbrev dd : ℤ
  dd = (w4 *ℤ w4) *ℤ (w1 *ℤ (w2 *ℤ w3))

  together :
      ((d *ℤ db +ℤ b *ℤ dd) *ℤ (dc *ℤ da) +ℤ neg_ℤ (c *ℤ da +ℤ a *ℤ dc) *ℤ (dd *ℤ db))
      *ℤ ((w1 *ℤ w2 *ℤ w3 *ℤ w4) *ℤ (w1 *ℤ w2 *ℤ w3 *ℤ w4))
      ≡ (d *ℤ (w1 *ℤ (w2 *ℤ w3)) +ℤ b *ℤ (w1 *ℤ (w3 *ℤ w4)) -ℤ (c *ℤ (w1 *ℤ (w2 *ℤ w4)) +ℤ a *ℤ (w2 *ℤ (w3 *ℤ w4))))
      *ℤ ((da *ℤ db) *ℤ (dc *ℤ dd))
  together =
      reify (a ∷ b ∷ c ∷ d ∷ w1 ∷ w2 ∷ w3 ∷ w4 ∷ [])
      (λ ρ v. simp (reading, v 0, v 1, v 2, v 3, v 4, v 5, v 6, v 7) (solve _ _ _ tt))

abbrev pub over : Spot → Over
over P = record { w = P.W; x = P.X; y = P.Y }

module _ (P Q S U : Spot) where
  abbrev times : Spot → ℤ → ℤ
  times A m = (A.X *ℤ A.X +ℤ A.Y *ℤ A.Y) *ℤ m

  by-minors :
      times U (det_of P Q S) *ℤ (P.W *ℤ (Q.W *ℤ S.W)) +ℤ times Q (det_of P S U) *ℤ (P.W *ℤ (S.W *ℤ U.W))
      -ℤ (times S (det_of P Q U) *ℤ (P.W *ℤ (Q.W *ℤ U.W)) +ℤ times P (det_of Q S U) *ℤ (Q.W *ℤ (S.W *ℤ U.W)))
      ≡ circle_z (over P) (over Q) (over S) (over U)
  by-minors =
      reify (P.X ∷ P.Y ∷ P.W ∷ Q.X ∷ Q.Y ∷ Q.W ∷ S.X ∷ S.Y ∷ S.W ∷ U.X ∷ U.Y ∷ U.W ∷ [])
      (λ ρ v. simp (reading, v 0, v 1, v 2, v 3, v 4, v 5, v 6, v 7, v 8, v 9, v 10, v 11) (solve _ _ _ tt))

  pub determinant-sign : sign_of (circle_determinant (place_of P) (place_of Q) (place_of S) (place_of U)) ≡ sgn (circle_z (over P) (over Q) (over S) (over U))
  determinant-sign =
      let h1 = P.above in
      let h2 = Q.above in
      let h3 = S.above in
      let h4 = U.above in
      let w = pp-mul (pp-mul (pp-mul h1 h2) h3) h4 in
      let ha = pp-mul (pp-mul h1 h1) (pp-mul h2 (pp-mul h3 h4)) in
      let hb = pp-mul (pp-mul h2 h2) (pp-mul h1 (pp-mul h3 h4)) in
      let hc = pp-mul (pp-mul h3 h3) (pp-mul h1 (pp-mul h2 h4)) in
      let hd = pp-mul (pp-mul h4 h4) (pp-mul h1 (pp-mul h2 h3)) in
      let all = P.W *ℤ Q.W *ℤ S.W *ℤ U.W in
      sign-equal
      (sum-equal
      (sum-equal (product-equal (squared-is U) (rows-equal P Q S)) (product-equal (squared-is Q) (rows-equal P S U)))
      (opposite-equal (sum-equal (product-equal (squared-is S) (rows-equal P Q U)) (product-equal (squared-is P) (rows-equal Q S U)))))
      ∙ sym (sgn-mul-pos _ (all *ℤ all) (pp-mul w w))
      ∙ ap sgn (together (times P (det_of Q S U)) (times Q (det_of P S U)) (times S (det_of P Q U)) (times U (det_of P Q S)) P.W Q.W S.W U.W)
      ∙ sgn-mul-pos _ _ (pp-mul (pp-mul ha hb) (pp-mul hc hd))
      ∙ ap sgn by-minors

-- ---- the law

pub circle-sign : (R : ℤ) (p q s u : Point) (h : pos 0 <ℤ p.w) (k : pos 0 <ℤ q.w) (l : pos 0 <ℤ s.w) (j : pos 0 <ℤ u.w)
    → sign_of (circle_determinant (put R p h) (put R q k) (put R s l) (put R u j)) ≡ sgn (value (circle_poly p q s u) R)
circle-sign R p q s u h k l j =
    determinant-sign (spot_at R p h) (spot_at R q k) (spot_at R s l) (spot_at R u j) ∙ ap sgn (sym (circle-value R p q s u))

pub circle-at : {R : ℤ} → pos circle_need <ℤ R → {p q s u : Point} → Four p q s u
    → (h : pos 0 <ℤ p.w) (k : pos 0 <ℤ q.w) (l : pos 0 <ℤ s.w) (j : pos 0 <ℤ u.w)
    → sign_of (circle_determinant (put R p h) (put R q k) (put R s l) (put R u j)) ≡ side_of_circle p q s u
circle-at {R} h_r {p} {q} {s} {u} t h k l j = circle-sign R p q s u h k l j ∙ circle-settled t R h_r

-- What the side of circle means. To cite:
--   round    where C is the centre of a circle through P, Q and S, and these turn left, the sign of the determinant of P, Q, S and U is 1, 0
--            or -1 as U is farther from C than they are, as far, or nearer; where they turn right, the other way round
use Rattle.std.specs.Prelude.{◌≡◌, [], ◌∷◌, ℤ, pos, neg_ℤ, ◌+ℤ◌, ◌-ℤ◌, ◌*ℤ◌, ◌<ℤ◌}
use Rattle.std.proofs.Common.{sym, ◌∙◌, ap, ap₂, subst}
use Rattle.std.proofs.Math.IntN.{*ℤ_comm}
use Rattle.whole.specs.Laws.{eq-of-sub, neg-mul, one-mul, minus-one-mul}
use Rattle.whole.specs.Reify.{reify, reading, solve, val_pos}
use Rattle.whole.specs.Order.{pp-mul, <-neg}
use Rattle.whole.specs.Cert.{z-eq, z-add, eq-cert}
use Rattle.whole.specs.Sign.{sgn}
use Rattle.whole.specs.SignLaws.{Signs, signs, minus, nought, plus, sgn-mul, sgn-mul-pos}
use Rattle.whole.specs.Fraction.{Fraction, Equal}
use Rattle.whole.specs.FractionLaws.{equal-sym, equal-trans, sum-equal, opposite-equal, apart, less-apart}
use Rattle.sheet.proofs.CircleLaws.{minor_z, circle_z}
use Rattle.cut.specs.Place.{Spot, place_of}
use Rattle.cut.specs.Ordinary.{difference, determinant, circle_determinant, distance_squared, Centre, sign_of, Compared, is_more, as_much, is_less, SideByDistance}
use Rattle.cut.proofs.TurnAt.{det_of, determinant-is}
use Rattle.cut.proofs.CircleAt.{sign-equal, over, determinant-sign}

-- ---- the square of a distance as one fraction

module _ (C A : Spot) where
  abbrev farness : ℤ
  farness =
      (C.X *ℤ A.W -ℤ A.X *ℤ C.W) *ℤ (C.X *ℤ A.W -ℤ A.X *ℤ C.W)
      +ℤ (C.Y *ℤ A.W -ℤ A.Y *ℤ C.W) *ℤ (C.Y *ℤ A.W -ℤ A.Y *ℤ C.W)

  abbrev farness_over : ℤ
  farness_over = (C.W *ℤ A.W) *ℤ (C.W *ℤ A.W)

  abbrev as_one : Fraction
  as_one = record { num = farness; den = farness_over; above = pp-mul (pp-mul C.above A.above) (pp-mul C.above A.above) }

  distance_is : Equal (distance_squared (place_of C) (place_of A)) as_one
  distance_is = record {
    equal = reify (C.X ∷ C.Y ∷ C.W ∷ A.X ∷ A.Y ∷ A.W ∷ []) (λ ρ v. simp (reading, v 0, v 1, v 2, v 3, v 4, v 5) (solve _ _ _ tt));
  }

minor-is : (P Q S : Spot) → minor_z (over P) (over Q) (over S) ≡ det_of P Q S *ℤ (P.W *ℤ (Q.W *ℤ S.W))
minor-is P Q S =
    reify (P.X ∷ P.Y ∷ P.W ∷ Q.X ∷ Q.Y ∷ Q.W ∷ S.X ∷ S.Y ∷ S.W ∷ [])
    (λ ρ v. simp (reading, v 0, v 1, v 2, v 3, v 4, v 5, v 6, v 7, v 8) (solve _ _ _ tt))

-- ---- the determinant with the distances from C for its last row: it is the same, as the rows 1, x, y say

module _ (C P Q S U : Spot) where
  by-distances :
      (C.W *ℤ C.W) *ℤ circle_z (over P) (over Q) (over S) (over U)
      ≡ farness C U *ℤ minor_z (over P) (over Q) (over S) -ℤ farness C S *ℤ minor_z (over P) (over Q) (over U)
      +ℤ farness C Q *ℤ minor_z (over P) (over S) (over U) -ℤ farness C P *ℤ minor_z (over Q) (over S) (over U)
  by-distances =
      reify (P.X ∷ P.Y ∷ P.W ∷ Q.X ∷ Q.Y ∷ Q.W ∷ S.X ∷ S.Y ∷ S.W ∷ U.X ∷ U.Y ∷ U.W ∷ C.X ∷ C.Y ∷ C.W ∷ [])
      (λ ρ v. simp (reading, v 0, v 1, v 2, v 3, v 4, v 5, v 6, v 7, v 8, v 9, v 10, v 11, v 12, v 13, v 14) (solve _ _ _ tt))

  -- with the first row for the last
  first-row-twice :
      farness_over C U *ℤ minor_z (over P) (over Q) (over S) -ℤ farness_over C S *ℤ minor_z (over P) (over Q) (over U)
      +ℤ farness_over C Q *ℤ minor_z (over P) (over S) (over U) -ℤ farness_over C P *ℤ minor_z (over Q) (over S) (over U) ≡ pos 0
  first-row-twice =
      reify (P.X ∷ P.Y ∷ P.W ∷ Q.X ∷ Q.Y ∷ Q.W ∷ S.X ∷ S.Y ∷ S.W ∷ U.X ∷ U.Y ∷ U.W ∷ C.W ∷ [])
      (λ ρ v. simp (reading, val_pos ρ, v 0, v 1, v 2, v 3, v 4, v 5, v 6, v 7, v 8, v 9, v 10, v 11, v 12) (solve _ _ _ tt))

-- n and d: the distances from C over their denominators, of P, Q, S and U; m: the minors without U, S, Q and P
module _ (c z n1 d1 n2 d2 n3 d3 n4 d4 m4 m3 m2 m1 : ℤ) where
  equal-distances : c *ℤ z ≡ n4 *ℤ m4 -ℤ n3 *ℤ m3 +ℤ n2 *ℤ m2 -ℤ n1 *ℤ m1 → d4 *ℤ m4 -ℤ d3 *ℤ m3 +ℤ d2 *ℤ m2 -ℤ d1 *ℤ m1 ≡ pos 0
      → n1 *ℤ d2 ≡ n2 *ℤ d1 → n1 *ℤ d3 ≡ n3 *ℤ d1 → z *ℤ (c *ℤ d1) ≡ (n4 *ℤ d1 +ℤ neg_ℤ n1 *ℤ d4) *ℤ m4
  equal-distances a b h2 h3 =
      eq-cert _ (z-add (z-eq d1 a) (z-add (z-eq n1 b) (z-add (z-eq m3 h3) (z-eq (neg_ℤ m2) h2))))
      (reify (c ∷ z ∷ n1 ∷ d1 ∷ n2 ∷ d2 ∷ n3 ∷ d3 ∷ n4 ∷ d4 ∷ m4 ∷ m3 ∷ m2 ∷ m1 ∷ [])
      (λ ρ v. simp (reading, val_pos ρ, v 0, v 1, v 2, v 3, v 4, v 5, v 6, v 7, v 8, v 9, v 10, v 11, v 12, v 13) (solve _ _ _ tt)))

-- the sign is that of the turn, times that of how much farther U is
by_turn : (C P Q S U : Spot) → Centre (place_of C) (place_of P) (place_of Q) (place_of S)
    → sign_of (circle_determinant (place_of P) (place_of Q) (place_of S) (place_of U))
    ≡ sign_of (determinant (place_of P) (place_of Q) (place_of S))
    *ℤ sign_of (difference (distance_squared (place_of C) (place_of U)) (distance_squared (place_of C) (place_of P)))
by_turn C P Q S U h =
    let z = circle_z (over P) (over Q) (over S) (over U) in
    let m = minor_z (over P) (over Q) (over S) in
    let more = farness C U *ℤ farness_over C P +ℤ neg_ℤ (farness C P) *ℤ farness_over C U in
    let c = pp-mul C.above C.above in
    let d = pp-mul (pp-mul C.above P.above) (pp-mul C.above P.above) in
    determinant-sign P Q S U
    ∙ sym (sgn-mul-pos z (C.W *ℤ C.W *ℤ farness_over C P) (pp-mul c d))
    ∙ ap sgn (equal-distances (C.W *ℤ C.W) z (farness C P) (farness_over C P) (farness C Q) (farness_over C Q)
    (farness C S) (farness_over C S) (farness C U) (farness_over C U)
    m (minor_z (over P) (over Q) (over U)) (minor_z (over P) (over S) (over U)) (minor_z (over Q) (over S) (over U))
    (by-distances C P Q S U) (first-row-twice C P Q S U) (as-whole Q h.second_as_far) (as-whole S h.third_as_far))
    ∙ ap sgn (*ℤ_comm more m) ∙ sgn-mul m more
    ∙ ap₂ (λ (a b : ℤ). a *ℤ b) turned (sym (sign-equal (sum-equal (distance_is C U) (opposite-equal (distance_is C P)))))
  where
    -- the same distance, in whole numbers
    as-whole : (A : Spot) → Equal (distance_squared (place_of C) (place_of P)) (distance_squared (place_of C) (place_of A))
        → farness C P *ℤ farness_over C A ≡ farness C A *ℤ farness_over C P
    as-whole A e = (equal-trans (equal-sym (distance_is C P)) (equal-trans e (distance_is C A))).equal

    turned : sgn (minor_z (over P) (over Q) (over S)) ≡ sign_of (determinant (place_of P) (place_of Q) (place_of S))
    turned =
        ap sgn (minor-is P Q S) ∙ sgn-mul-pos (det_of P Q S) (P.W *ℤ (Q.W *ℤ S.W)) (pp-mul P.above (pp-mul Q.above S.above))
        ∙ sym (determinant-is P Q S)

-- ---- two fractions compared

compared : (a b : Fraction) → Compared a b (sign_of (difference a b))
compared a b = go (signs (a.num *ℤ b.den +ℤ neg_ℤ b.num *ℤ a.den))
  where
    apart-is : a.num *ℤ b.den +ℤ neg_ℤ b.num *ℤ a.den ≡ apart a b
    apart-is = ap (λ (z : ℤ). a.num *ℤ b.den +ℤ z) (neg-mul b.num a.den)

    other : neg_ℤ (a.num *ℤ b.den +ℤ neg_ℤ b.num *ℤ a.den) ≡ apart b a
    other =
        reify (a.num ∷ a.den ∷ b.num ∷ b.den ∷ []) (λ ρ v. simp (reading, v 0, v 1, v 2, v 3) (solve _ _ _ tt))

    go : Signs (a.num *ℤ b.den +ℤ neg_ℤ b.num *ℤ a.den) → Compared a b (sign_of (difference a b))
    go (plus h e) = subst (Compared a b) (sym e) (is_more ((less-apart b a).1 (subst (λ (z : ℤ). z <ℤ pos 0) other (<-neg h))))
    go (nought z e) = subst (Compared a b) (sym e) (as_much (record { equal = eq-of-sub _ _ (sym apart-is ∙ z) }))
    go (minus h e) = subst (Compared a b) (sym e) (is_less ((less-apart a b).1 (subst (λ (z : ℤ). z <ℤ pos 0) apart-is h)))

turned_round : {a b : Fraction} {c : ℤ} → Compared a b c → Compared b a (neg_ℤ c)
turned_round (is_more h) = is_less h
turned_round (as_much e) = as_much (equal-sym e)
turned_round (is_less h) = is_more h

-- ---- the law

pub round : (C P Q S U : Spot) → Centre (place_of C) (place_of P) (place_of Q) (place_of S)
    → SideByDistance (place_of C) (place_of P) (place_of Q) (place_of S) (place_of U) (sign_of (circle_determinant (place_of P) (place_of Q) (place_of S) (place_of U)))
round C P Q S U h =
    let d = compared (distance_squared (place_of C) (place_of U)) (distance_squared (place_of C) (place_of P)) in
    let e = by_turn C P Q S U h in
    let farther = sign_of (difference (distance_squared (place_of C) (place_of U)) (distance_squared (place_of C) (place_of P))) in
    record {
      turning_left = λ t. subst (Compared _ _) (sym (e ∙ ap (λ (z : ℤ). z *ℤ farther) t ∙ one-mul farther)) d;
      turning_right = λ t. subst (Compared _ _) (sym (e ∙ ap (λ (z : ℤ). z *ℤ farther) t ∙ minus-one-mul farther)) (turned_round d);
    }

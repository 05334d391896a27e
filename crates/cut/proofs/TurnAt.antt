-- Turn at R is the ordinary sign of three places. To cite:
--   det_of, determinant-is   the sign of three places, each over its one denominator
--   turn_at                 turn of three narrow points, for every R above 1,536,000,000,000,000,000
use Rattle.std.specs.Prelude.{◌≡◌, [], ◌∷◌, ℤ, pos, ◌*ℤ◌, ◌<ℤ◌}
use Rattle.std.proofs.Common.{sym, ◌∙◌, ap}
use Rattle.whole.specs.Reify.{reify, reading, solve}
use Rattle.whole.specs.Order.{pp-mul}
use Rattle.whole.specs.Sign.{sgn}
use Rattle.whole.specs.SignLaws.{sgn-mul-pos}
use Rattle.whole.specs.Poly.{Poly, value, ◌⊞◌, ◌⊟◌, ◌⊠◌}
use Rattle.whole.specs.PolyLaws.{value-one, value-two, value-sum, value-opposite, value-product}
use Rattle.whole.specs.Lead.{Below, lead}
use Rattle.whole.specs.PolyBound.{Sizes, empty, ◌also◌, s-sum, s-difference, s-product, sizes-below}
use Rattle.sheet.specs.declared.Point.{Point}
use Rattle.sheet.specs.Points.{X, Y, W}
use Rattle.sheet.specs.PointFacts.{Narrow, APoint}
use Rattle.sheet.specs.PointsLaws.{point-sizes}
use Rattle.sheet.specs.Signs.{turn_poly, turn}
use Rattle.sheet.specs.Coefficients.{det}
use Rattle.cut.specs.Bounds.{turn_need}
use Rattle.cut.specs.Place.{put, Spot, place_of}
use Rattle.cut.specs.Ordinary.{determinant, sign_of}
use Rattle.cut.proofs.Same.{spot_at}

-- ---- the determinant of places is `det`, times what is above 0

module _ (P Q S : Spot) where
  abbrev pub det_of : ℤ
  det_of = det P.W P.X P.Y Q.W Q.X Q.Y S.W S.X S.Y

  pub determinant-is : sign_of (determinant (place_of P) (place_of Q) (place_of S)) ≡ sgn det_of
  determinant-is =
      ap sgn (reify (P.W ∷ P.X ∷ P.Y ∷ Q.W ∷ Q.X ∷ Q.Y ∷ S.W ∷ S.X ∷ S.Y ∷ [])
      (λ ρ v. simp (reading, v 0, v 1, v 2, v 3, v 4, v 5, v 6, v 7, v 8) (solve _ _ _ tt)))
      ∙ sgn-mul-pos det_of (P.W *ℤ ((Q.W *ℤ P.W) *ℤ (S.W *ℤ P.W)))
      (pp-mul P.above (pp-mul (pp-mul Q.above P.above) (pp-mul S.above P.above)))

-- ---- the value of the turn's polynomial

turn-value : (w1 x1 y1 w2 x2 y2 w3 x3 y3 : Poly) (R : ℤ)
    → value (w1 ⊠ (x2 ⊠ y3 ⊟ x3 ⊠ y2) ⊟ w2 ⊠ (x1 ⊠ y3 ⊟ x3 ⊠ y1) ⊞ w3 ⊠ (x1 ⊠ y2 ⊟ x2 ⊠ y1)) R
    ≡ det (value w1 R) (value x1 R) (value y1 R) (value w2 R) (value x2 R) (value y2 R) (value w3 R) (value x3 R) (value y3 R)
turn-value w1 x1 y1 w2 x2 y2 w3 x3 y3 R = simp (value-sum, value-opposite, value-product)

turn-poly-at : (R : ℤ) (p q s : Point) (h : pos 0 <ℤ p.w) (k : pos 0 <ℤ q.w) (l : pos 0 <ℤ s.w)
    → value (turn_poly p q s) R ≡ det_of (spot_at R p h) (spot_at R q k) (spot_at R s l)
unfolding turn_poly
turn-poly-at R p q s h k l =
    turn-value (W p) (X p) (Y p) (W q) (X q) (Y q) (W s) (X s) (Y s) R
    ∙ all (value-one R p.w) (value-two R p.mx p.nx) (value-two R p.my p.ny)
    (value-one R q.w) (value-two R q.mx q.nx) (value-two R q.my q.ny)
    (value-one R s.w) (value-two R s.mx s.nx) (value-two R s.my s.ny)
  where
    all : {a b c d e f g h i a' b' c' d' e' f' g' h' i' : ℤ}
        → a ≡ a' → b ≡ b' → c ≡ c' → d ≡ d' → e ≡ e' → f ≡ f' → g ≡ g' → h ≡ h' → i ≡ i'
        → det a b c d e f g h i ≡ det a' b' c' d' e' f' g' h' i'
    all ea eb ec ed ee ef eg eh ei = cc

-- ---- the sizes of its coefficients

record Measured (p : Point) : Type 0 where
  in_x : Sizes (8000000 ∷ 4000 ∷ []) (X p)
  in_y : Sizes (8000000 ∷ 4000 ∷ []) (Y p)
  in-w : Sizes (4000 ∷ []) (W p)

measured : {p : Point} → APoint p → Narrow p → Measured p
measured a n =
    let z = point-sizes a in
    record {
      in_x = n.in_nx also z.in_mx also empty;
      in_y = n.in_ny also z.in_my also empty;
      in-w = n.in-w.at_most also empty;
    }

turn_below : {R : ℤ} → pos turn_need <ℤ R → {p q s : Point} → Measured p → Measured q → Measured s → Below R (turn_poly p q s)
unfolding turn_poly
turn_below h_r a b c =
    sizes-below turn_need h_r
    (s-sum
    (s-difference
    (s-product a.in-w (s-difference (s-product b.in_x c.in_y) (s-product c.in_x b.in_y)))
    (s-product b.in-w (s-difference (s-product a.in_x c.in_y) (s-product c.in_x a.in_y))))
    (s-product c.in-w (s-difference (s-product a.in_x b.in_y) (s-product b.in_x a.in_y))))
    tt

-- ---- the law

pub turn_at : {R : ℤ} → pos turn_need <ℤ R → {p q s : Point} → APoint p → APoint q → APoint s → Narrow p → Narrow q → Narrow s
    → (h : pos 0 <ℤ p.w) (k : pos 0 <ℤ q.w) (l : pos 0 <ℤ s.w) → sign_of (determinant (put R p h) (put R q k) (put R s l)) ≡ turn p q s
unfolding turn
turn_at {R} h_r {p} {q} {s} a b c na nb nc h k l =
    determinant-is (spot_at R p h) (spot_at R q k) (spot_at R s l)
    ∙ ap sgn (sym (turn-poly-at R p q s h k l))
    ∙ lead R (turn_below h_r (measured a na) (measured b nb) (measured c nc))

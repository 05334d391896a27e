-- One place written in two ways, and that what holds of it does not depend on the way. To cite:
--   Same, same-sym, same-trans          two spots are one place
--   same_place, same_spot               as `SamePlace` of the places
--   place-spot                          a spot as a place
--   spot_at, put-spot                    the place of a point at R over its own denominator
--   standing, given-spot                that of a standard point is the same for every R; of a given point
--   divided-spot                        the place stays when the common divisor goes out
--   same-upto                           of two places of one line, neither before the other: the same
--   online-same, upto-same, same-upto-left, square-same, side_same, on_same   what holds of a spot holds of the same spot
--   of_segment, of_ray, of_line, of-side   what it is to be on a figure of each kind
-- Assumes nothing of R.
use Rattle.std.specs.Prelude.{◌≡◌, List, [], ◌∷◌, ℤ, pos, neg_ℤ, ◌+ℤ◌, ◌*ℤ◌, ◌<ℤ◌}
use Rattle.std.proofs.Common.{sym}
use Rattle.whole.specs.Ring.{var, con, ◌⊕◌, ◌⊗◌, ring}
use Rattle.whole.specs.Reify.{reify, reading, solve, val_pos}
use Rattle.whole.specs.Order.{le-nn, nn-add, nn-mul, pp-mul, pp-nn, pp-pos, ≤-antisym}
use Rattle.whole.specs.Cert.{z-eq, z-add, nn-eq, le-by, eq-by, eq-cert}
use Rattle.whole.specs.FractionLaws.{equal-trans}
use Rattle.sheet.specs.declared.Point.{Point}
use Rattle.sheet.specs.Figure.{Vec, Side, out_x, out_y, Figure, segment, ray, line, side}
use Rattle.sheet.specs.Points.{given, divisor, divided}
use Rattle.sheet.specs.PointsLaws.{divided-back, divided-above}
use Rattle.cut.specs.Place.{Place, SamePlace, put, Spot, spot, fixed, place_of}
use Rattle.cut.specs.Cut.{OnLine, along, Upto, InSquare, OfSegment, OfRay, OfLine, OnSide, On, on_segment, on_ray, on_line, on-side}
use Rattle.cut.proofs.Line.{size², upto_turn, upto-back}

pub record Same (P Q : Spot) : Type 0 where
  pub same_x : P.X *ℤ Q.W ≡ Q.X *ℤ P.W
  pub same_y : P.Y *ℤ Q.W ≡ Q.Y *ℤ P.W

pub same-sym : {S T : Spot} → Same S T → Same T S
same-sym e = record { same_x = sym e.same_x; same_y = sym e.same_y }

pub same-trans : {S T U : Spot} → Same S T → Same T U → Same S U
same-trans {S} {T} {U} e f = record {
  same_x =
      (equal-trans {a = (place_of S).across} {b = (place_of T).across} {c = (place_of U).across}
      (record { equal = e.same_x }) (record { equal = f.same_x })).equal;
  same_y =
      (equal-trans {a = (place_of S).up} {b = (place_of T).up} {c = (place_of U).up}
      (record { equal = e.same_y }) (record { equal = f.same_y })).equal;
}

-- ---- the spots of places are the same just where the places are

module _ (P Q : Place) where
  abbrev eight : List ℤ
  eight =
      P.across.num ∷ P.across.den ∷ P.up.num ∷ P.up.den ∷ Q.across.num ∷ Q.across.den ∷ Q.up.num ∷ Q.up.den ∷ []

  pub same_place : Same (spot P) (spot Q) → SamePlace P Q
  same_place e = record {
    same_across = record {
      equal =
          eq-by (P.up.den *ℤ Q.up.den) (pp-mul P.up.above Q.up.above) _ (z-eq (pos 1) e.same_x)
          (reify eight (λ ρ v. simp (reading, v 0, v 1, v 3, v 4, v 5, v 7, val_pos ρ) (solve _ _ _ tt)));
    };
    same_up = record {
      equal =
          eq-by (P.across.den *ℤ Q.across.den) (pp-mul P.across.above Q.across.above) _ (z-eq (pos 1) e.same_y)
          (reify eight (λ ρ v. simp (reading, v 1, v 2, v 3, v 5, v 6, v 7, val_pos ρ) (solve _ _ _ tt)));
    };
  }

  pub same_spot : SamePlace P Q → Same (spot P) (spot Q)
  same_spot e = record {
    same_x =
        eq-cert _ (z-eq (P.up.den *ℤ Q.up.den) e.same_across.equal)
        (reify eight (λ ρ v. simp (reading, v 0, v 1, v 3, v 4, v 5, v 7) (solve _ _ _ tt)));
    same_y =
        eq-cert _ (z-eq (P.across.den *ℤ Q.across.den) e.same_up.equal)
        (reify eight (λ ρ v. simp (reading, v 1, v 2, v 3, v 5, v 6, v 7) (solve _ _ _ tt)));
  }

-- ---- the place of a point, over its one denominator

abbrev pub spot_at : (R : ℤ) (e : Point) → pos 0 <ℤ e.w → Spot
spot_at R e h = record { X = e.mx *ℤ R +ℤ e.nx; Y = e.my *ℤ R +ℤ e.ny; W = e.w; above = h }

pub place-spot : (S : Spot) → Same S (spot (place_of S))
place-spot S = record { same_x = twice S.X S.W; same_y = twice S.Y S.W }
  where
    twice : (a w : ℤ) → a *ℤ (w *ℤ w) ≡ a *ℤ w *ℤ w
    twice a w = reify (a ∷ w ∷ []) (λ ρ v. simp (reading, v 0, v 1) (solve _ _ _ tt))

pub put-spot : (R : ℤ) (e : Point) (h : pos 0 <ℤ e.w) → Same (spot_at R e h) (spot (put R e h))
put-spot R e h = place-spot (spot_at R e h)

-- whole numbers over w: the same for every R
pub standing : (R x y w : ℤ) (h : pos 0 <ℤ w)
    → Same (record { X = x; Y = y; W = w; above = h }) (spot_at R (record { mx = pos 0; nx = x; my = pos 0; ny = y; w = w }) h)
standing R x y w h = record { same_x = go x; same_y = go y }
  where
    go : (z : ℤ) → z *ℤ w ≡ (pos 0 *ℤ R +ℤ z) *ℤ w
    go z = ring (R ∷ z ∷ w ∷ []) (var 1 ⊗ var 2) ((con (pos 0) ⊗ var 0 ⊕ var 1) ⊗ var 2) tt

pub given-spot : (R : ℤ) (a : Vec) → Same (fixed a) (spot_at R (given a) (pp-pos 0))
given-spot R a = standing R a.x a.y (pos 1) (pp-pos 0)

pub divided-spot : (e : Point) (h : pos 0 <ℤ e.w) (R : ℤ) → Same (spot_at R e h) (spot_at R (divided e) (divided-above e h))
divided-spot e h R =
    let t = divided-back e in
    let f = divided e in
    record {
      same_x = go (pos (divisor e)) f.mx f.nx f.w e.mx e.nx e.w t.mx t.nx t.w;
      same_y = go (pos (divisor e)) f.my f.ny f.w e.my e.ny e.w t.my t.ny t.w;
    }
  where
    go : (g m n w m' n' w' : ℤ) → m' ≡ g *ℤ m → n' ≡ g *ℤ n → w' ≡ g *ℤ w → (m' *ℤ R +ℤ n') *ℤ w ≡ (m *ℤ R +ℤ n) *ℤ w'
    go g m n w m' n' w' em en ew =
        eq-cert _ (z-add (z-add (z-eq (R *ℤ w) em) (z-eq w en)) (z-eq (neg_ℤ (m *ℤ R +ℤ n)) ew))
        (reify (R ∷ g ∷ m ∷ n ∷ w ∷ m' ∷ n' ∷ w' ∷ []) (λ ρ v. simp (reading, v 0, v 1, v 2, v 3, v 4, v 5, v 6, v 7) (solve _ _ _ tt)))

-- ---- what holds of a spot

module _ {S T : Spot} (e : Same S T) where
  pub online-same : {p d : Vec} → OnLine p d S → OnLine p d T
  online-same {p} {d} h = record {
    online =
        eq-by S.W S.above _ (z-add (z-eq T.W h.online) (z-add (z-eq (neg_ℤ d.x) e.same_y) (z-eq d.y e.same_x)))
        (reify (d.x ∷ d.y ∷ p.x ∷ p.y ∷ S.X ∷ S.Y ∷ S.W ∷ T.X ∷ T.Y ∷ T.W ∷ [])
        (λ ρ v. simp (reading, v 0, v 1, v 2, v 3, v 4, v 5, v 6, v 7, v 8, v 9) (solve _ _ _ tt)));
  }

  pub upto-same : {d : Vec} {P : Spot} → Upto d P S → Upto d P T
  upto-same {d} {P} h = record {
    upto =
        le-by S.W S.above _
        (nn-add (nn-mul (pp-nn T.above) (le-nn h.upto))
        (nn-add (nn-eq (neg_ℤ (P.W *ℤ d.x)) e.same_x) (nn-eq (neg_ℤ (P.W *ℤ d.y)) e.same_y)))
        (reify (d.x ∷ d.y ∷ P.X ∷ P.Y ∷ P.W ∷ S.X ∷ S.Y ∷ S.W ∷ T.X ∷ T.Y ∷ T.W ∷ [])
        (λ ρ v. simp (reading, v 0, v 1, v 2, v 3, v 4, v 5, v 6, v 7, v 8, v 9, v 10) (solve _ _ _ tt)));
  }

  pub same-upto-left : {d : Vec} {P : Spot} → Upto d S P → Upto d T P
  same-upto-left h = upto-back (upto-same (upto_turn h))

  pub square-same : {R : ℤ} → InSquare R S → InSquare R T
  square-same {R} h = record {
    inside = λ n. le-by S.W S.above _
        (nn-add (nn-mul (pp-nn T.above) (le-nn (h.inside n))) (nn-add (nn-eq (out_x n) e.same_x) (nn-eq (out_y n) e.same_y)))
        (reify (out_x n ∷ out_y n ∷ R ∷ S.X ∷ S.Y ∷ S.W ∷ T.X ∷ T.Y ∷ T.W ∷ [])
        (λ ρ v. simp (reading, v 0, v 1, v 2, v 3, v 4, v 5, v 6, v 7, v 8) (solve _ _ _ tt)));
  }

  pub side_same : {R : ℤ} {n : Side} → OnSide R n S → OnSide R n T
  side_same {R} {n} h = record {
    in-square = square-same h.in-square;
    edge =
        eq-by S.W S.above _
        (z-add (z-eq T.W h.edge) (z-add (z-eq (neg_ℤ (out_x n)) e.same_x) (z-eq (neg_ℤ (out_y n)) e.same_y)))
        (reify (out_x n ∷ out_y n ∷ R ∷ S.X ∷ S.Y ∷ S.W ∷ T.X ∷ T.Y ∷ T.W ∷ [])
        (λ ρ v. simp (reading, v 0, v 1, v 2, v 3, v 4, v 5, v 6, v 7, v 8) (solve _ _ _ tt)));
  }

  of-line-same : {R : ℤ} {p q : Vec} → OfLine R p q S → OfLine R p q T
  of-line-same s = record { on = online-same s.on; cut = square-same s.cut }

  pub on_same : {R : ℤ} {f : Figure} → On R f S → On R f T
  on_same (on_segment s) = on_segment (record {
    on = online-same s.on;
    not_before_p = upto-same s.not_before_p;
    not_beyond_q = same-upto-left s.not_beyond_q;
  })
  on_same (on_line s) = on_line (of-line-same s)
  on_same (on_ray s) = on_ray (record { of_line = of-line-same s.of_line; from_p = upto-same s.from_p })
  on_same (on-side s) = on-side (side_same s)

-- ---- two places of one line

module _ {p d : Vec} {P Q : Spot} (len : pos 0 <ℤ size² d) (a : OnLine p d P) (b : OnLine p d Q) where
  -- equally far along: the same
  same-along : along d P *ℤ Q.W ≡ along d Q *ℤ P.W → Same P Q
  same-along e = record {
    same_x =
        eq-by (size² d) len _
        (z-add (z-eq d.x e) (z-add (z-eq (neg_ℤ (d.y *ℤ Q.W)) a.online) (z-eq (d.y *ℤ P.W) b.online)))
        (reify (d.x ∷ d.y ∷ p.x ∷ p.y ∷ P.X ∷ P.Y ∷ P.W ∷ Q.X ∷ Q.Y ∷ Q.W ∷ [])
        (λ ρ v. simp (reading, v 0, v 1, v 2, v 3, v 4, v 5, v 6, v 7, v 8, v 9) (solve _ _ _ tt)));
    same_y =
        eq-by (size² d) len _
        (z-add (z-eq d.y e) (z-add (z-eq (d.x *ℤ Q.W) a.online) (z-eq (neg_ℤ (d.x *ℤ P.W)) b.online)))
        (reify (d.x ∷ d.y ∷ p.x ∷ p.y ∷ P.X ∷ P.Y ∷ P.W ∷ Q.X ∷ Q.Y ∷ Q.W ∷ [])
        (λ ρ v. simp (reading, v 0, v 1, v 2, v 3, v 4, v 5, v 6, v 7, v 8, v 9) (solve _ _ _ tt)));
  }

  pub same-upto : Upto d P Q → Upto d Q P → Same P Q
  same-upto h k = same-along (≤-antisym h.upto k.upto)

-- ---- taken apart

pub of_segment : {R : ℤ} {p q : Vec} {S : Spot} → On R (segment p q) S → OfSegment p q S
of_segment (on_segment s) = s

pub of_ray : {R : ℤ} {p q : Vec} {S : Spot} → On R (ray p q) S → OfRay R p q S
of_ray (on_ray s) = s

pub of_line : {R : ℤ} {p q : Vec} {S : Spot} → On R (line p q) S → OfLine R p q S
of_line (on_line s) = s

pub of-side : {R : ℤ} {n : Side} {S : Spot} → On R (side n) S → OnSide R n S
of-side (on-side s) = s

-- Strict convexity: a place on the edge of the square, on a line, ahead of a place p that is strictly inside, is the last of the line
-- in the square; so there is one only. To cite:
--   Farthest, farthest-by    such a place; p + (R - out p) d, over the side that is so far out
--   farthest-move            written otherwise
--   farthest-last, farthest-same   every other place of the line in the square is not beyond it; there is one
--   leads-out                the direction leads out over its side
use Rattle.std.specs.Prelude.{◌≡◌, [], ◌∷◌, ℤ, pos, neg_ℤ, ◌+ℤ◌, ◌-ℤ◌, ◌*ℤ◌, ◌<ℤ◌}
use Rattle.whole.specs.Reify.{reify, reading, solve, val_pos}
use Rattle.whole.specs.Order.{le-cert, lt-cert, le-nn, lt-pp, nn-add, nn-mul, nn-sq, pp-add, pp-mul, pp-nn}
use Rattle.whole.specs.Cert.{z-eq, z-add, nn-eq, pp-cancel, le-by, eq-cert}
use Rattle.sheet.specs.Figure.{Vec, Side, out_x, out_y}
use Rattle.cut.specs.Place.{Spot, fixed}
use Rattle.cut.specs.Cut.{OnLine, Upto, InSquare, OnSide}
use Rattle.cut.proofs.Same.{Same, online-same, upto-same, side_same, same-upto}
use Rattle.cut.proofs.Line.{size²}
use Rattle.cut.proofs.Square.{Inner}

pub record Farthest (R : ℤ) (p d : Vec) (E : Spot) : Type 0 where
  pub on : OnLine p d E
  pub ahead : Upto d (fixed p) E
  pub over : Side
  pub on-side : OnSide R over E

pub farthest-move : {R : ℤ} {p d : Vec} {E F : Spot} → Same E F → Farthest R p d E → Farthest R p d F
farthest-move e f = record {
  on = online-same e f.on;
  ahead = upto-same e f.ahead;
  over = f.over;
  on-side = side_same e f.on-side;
}

-- the direction's way out over the side n is w, and E is p w + t d with t = R - p's way out
module _ (R : ℤ) (p d : Vec) (n : Side) (E : Spot) (inn : Inner R p) (w : out_x n *ℤ d.x +ℤ out_y n *ℤ d.y ≡ E.W)
    (ex : E.X ≡ p.x *ℤ E.W +ℤ (R -ℤ (out_x n *ℤ p.x +ℤ out_y n *ℤ p.y)) *ℤ d.x)
    (ey : E.Y ≡ p.y *ℤ E.W +ℤ (R -ℤ (out_x n *ℤ p.x +ℤ out_y n *ℤ p.y)) *ℤ d.y) where
  pub farthest-by : InSquare R E → Farthest R p d E
  farthest-by i = record {
    on = record {
      online =
          eq-cert _ (z-add (z-eq d.x ey) (z-eq (neg_ℤ d.y) ex))
          (reify (d.x ∷ d.y ∷ p.x ∷ p.y ∷ E.X ∷ E.Y ∷ E.W ∷ R ∷ out_x n ∷ out_y n ∷ [])
          (λ ρ v. simp (reading, v 0, v 1, v 2, v 3, v 4, v 5, v 6, v 7, v 8, v 9) (solve _ _ _ tt)));
    };
    ahead = record {
      upto =
          le-cert _
          (nn-add (nn-mul (pp-nn (lt-pp (inn.inner n))) (nn-add (nn-sq d.x) (nn-sq d.y))) (nn-add (nn-eq d.x ex) (nn-eq d.y ey)))
          (reify (d.x ∷ d.y ∷ p.x ∷ p.y ∷ E.X ∷ E.Y ∷ E.W ∷ R ∷ out_x n ∷ out_y n ∷ [])
          (λ ρ v. simp (reading, v 0, v 1, v 2, v 3, v 4, v 5, v 6, v 7, v 8, v 9, val_pos ρ) (solve _ _ _ tt)));
    };
    over = n;
    on-side = record {
      in-square = i;
      edge =
          eq-cert _ (z-add (z-add (z-eq (out_x n) ex) (z-eq (out_y n) ey)) (z-eq (R -ℤ (out_x n *ℤ p.x +ℤ out_y n *ℤ p.y)) w))
          (reify (d.x ∷ d.y ∷ p.x ∷ p.y ∷ E.X ∷ E.Y ∷ E.W ∷ R ∷ out_x n ∷ out_y n ∷ [])
          (λ ρ v. simp (reading, v 0, v 1, v 2, v 3, v 4, v 5, v 6, v 7, v 8, v 9) (solve _ _ _ tt)));
    };
  }

module _ {R : ℤ} {p d : Vec} (len : pos 0 <ℤ size² d) (inn : Inner R p) where
  pub leads-out : {E : Spot} (f : Farthest R p d E) → pos 0 <ℤ (out_x f.over *ℤ d.x +ℤ out_y f.over *ℤ d.y)
  leads-out {E} f =
      let n = f.over in
      pp-cancel (le-nn f.ahead.upto)
      (lt-cert _
      (pp-add (pp-mul (pp-mul len (lt-pp (inn.inner n))) E.above)
      (nn-add (nn-eq (size² d) f.on-side.edge) (nn-eq (out_x n *ℤ d.y -ℤ out_y n *ℤ d.x) f.on.online)))
      (reify (d.x ∷ d.y ∷ p.x ∷ p.y ∷ E.X ∷ E.Y ∷ E.W ∷ out_x n ∷ out_y n ∷ R ∷ [])
      (λ ρ v. simp (reading, v 0, v 1, v 2, v 3, v 4, v 5, v 6, v 7, v 8, v 9, val_pos ρ) (solve _ _ _ tt))))

  pub farthest-last : {E : Spot} → Farthest R p d E → {P : Spot} → OnLine p d P → InSquare R P → Upto d P E
  farthest-last {E} f {P} on ins =
      let n = f.over in
      record {
        upto =
            le-by (out_x n *ℤ d.x +ℤ out_y n *ℤ d.y) (leads-out f) _
            (nn-add (nn-mul (pp-nn (pp-mul len E.above)) (le-nn (ins.inside n)))
            (nn-add (nn-eq (size² d *ℤ P.W) f.on-side.edge)
            (nn-add (nn-eq ((out_x n *ℤ d.y -ℤ out_y n *ℤ d.x) *ℤ P.W) f.on.online)
            (nn-eq (neg_ℤ ((out_x n *ℤ d.y -ℤ out_y n *ℤ d.x) *ℤ E.W)) on.online))))
            (reify (d.x ∷ d.y ∷ p.x ∷ p.y ∷ E.X ∷ E.Y ∷ E.W ∷ out_x n ∷ out_y n ∷ R ∷ P.X ∷ P.Y ∷ P.W ∷ [])
            (λ ρ v. simp (reading, v 0, v 1, v 2, v 3, v 4, v 5, v 6, v 7, v 8, v 9, v 10, v 11, v 12) (solve _ _ _ tt)));
      }

  pub farthest-same : {E F : Spot} → Farthest R p d E → Farthest R p d F → Same E F
  farthest-same f g =
      same-upto len f.on g.on (farthest-last g f.on f.on-side.in-square) (farthest-last f g.on g.on-side.in-square)

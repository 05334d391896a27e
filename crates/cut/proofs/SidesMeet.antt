-- Two sides of the frame: the same one, opposite ones, or the corner between. To cite:
--   same-says, sides-means   for every R above 0
use Rattle.std.specs.Prelude.{◌≡◌, refl, [], ◌∷◌, ℤ, pos, neg_ℤ, ◌+ℤ◌, ◌-ℤ◌, ◌*ℤ◌, ◌<ℤ◌}
use Rattle.std.proofs.Common.{sym, ◌∙◌, ap, ap₂}
use Rattle.std.proofs.Math.Path.{subst}
use Rattle.std.proofs.Math.IntN.{+ℤ_comm, neg_ℤ-neg_ℤ}
use Rattle.std.specs.Int.Signed.{≤ℤ_refl, clash_ℤ}
use Rattle.whole.specs.Reify.{reify, reading, solve, val_pos, val-negsuc}
use Rattle.whole.specs.Order.{lt-cert, nn-add, pp-add, pp-mul, pp-nn, pp-pos}
use Rattle.whole.specs.Cert.{z-eq, z-add, nn-eq, eq-cert}
use Rattle.sheet.specs.declared.Point.{Point}
use Rattle.sheet.specs.Figure.{Side, left, bottom, right, top, out_x, out_y, side}
use Rattle.sheet.specs.PointFacts.{APoint}
use Rattle.sheet.specs.Ends.{corner}
use Rattle.sheet.proofs.EndsLaws.{begins-fine}
use Rattle.sheet.specs.Crossing.{none, point, many, sides}
use Rattle.cut.specs.Place.{Spot}
use Rattle.cut.specs.Cut.{OnSide, On, on-side}
use Rattle.cut.proofs.Same.{Same, of-side}
use Rattle.cut.proofs.Square.{unit, Turned, turned}
use Rattle.cut.proofs.EndsAt.{begins-is, corner_spot, first-corner, last-corner}
use Rattle.cut.proofs.Means.{Both, Means, means_none, means_point, means_many, means-map, both-swap}

module _ {R : ℤ} (h_r : pos 0 <ℤ R) where
  pub same-says : (n : Side) → Means R (Both (On R (side n)) (On R (side n))) many
  same-says n =
      means_many _ _ (twice (first-corner R (pp-nn h_r) n)) (twice (last-corner R (pp-nn h_r) n)) differ
    where
      twice : {S : Spot} → OnSide R n S → Both (On R (side n)) (On R (side n)) S
      twice s = record { first = on-side s; second = on-side s }

      differ : Same (corner_spot R (out_x n +ℤ out_y n) (out_y n -ℤ out_x n)) (corner_spot R (out_x n -ℤ out_y n) (out_y n +ℤ out_x n)) → ⊥
      differ e =
          clash_ℤ {a = pos 0} {b = pos 0}
          (lt-cert _
          (pp-add (pp-add h_r (pp-nn h_r))
          (nn-add (nn-eq (pos 2 *ℤ R) (unit n)) (nn-add (nn-eq (neg_ℤ (out_y n)) e.same_x) (nn-eq (out_x n) e.same_y))))
          (reify (R ∷ out_x n ∷ out_y n ∷ []) (λ ρ v. simp (reading, v 0, v 1, v 2, val_pos ρ, val-negsuc ρ) (solve _ _ _ tt))))
          (≤ℤ_refl (pos 0))

  opposite-says : (m n : Side) → out_x n ≡ neg_ℤ (out_x m) → out_y n ≡ neg_ℤ (out_y m) → Means R (Both (On R (side m)) (On R (side n))) none
  opposite-says m n ex ey = means_none (λ S b.
      clash_ℤ {a = pos 0} {b = pos 0}
      (lt-cert _
      (pp-add (pp-add (pp-mul h_r S.above) (pp-nn (pp-mul h_r S.above)))
      (nn-add (nn-add (nn-eq (pos 1) (of-side b.first).edge) (nn-eq (pos 1) (of-side b.second).edge))
      (nn-add (nn-eq (neg_ℤ S.X) ex) (nn-eq (neg_ℤ S.Y) ey))))
      (reify (R ∷ out_x m ∷ out_y m ∷ out_x n ∷ out_y n ∷ S.X ∷ S.Y ∷ S.W ∷ [])
      (λ ρ v. simp (reading, v 0, v 1, v 2, v 3, v 4, v 5, v 6, v 7, val_pos ρ) (solve _ _ _ tt))))
      (≤ℤ_refl (pos 0)))

  -- n follows m
  module _ (m n : Side) (t : Turned m n) where
    C : Spot
    C = corner_spot R (out_x m +ℤ out_x n) (out_y m +ℤ out_y n)

    -- it is m's last corner and n's first
    C-m : OnSide R m C
    unfolding C
    C-m =
        subst (λ (b : ℤ). OnSide R m (corner_spot R (out_x m +ℤ out_x n) b)) (ap (λ (z : ℤ). out_y m +ℤ z) (sym t.turn_y))
        (subst (λ (a : ℤ). OnSide R m (corner_spot R a (out_y m +ℤ out_x m))) (ap (λ (z : ℤ). out_x m +ℤ z) (sym t.turn_x))
        (last-corner R (pp-nn h_r) m))

    across : out_x n +ℤ out_y n ≡ out_x m +ℤ out_x n
    across = +ℤ_comm (out_x n) (out_y n) ∙ ap (λ (z : ℤ). z +ℤ out_x n) t.turn_y

    up : out_y n -ℤ out_x n ≡ out_y m +ℤ out_y n
    up = +ℤ_comm (out_y n) (neg_ℤ (out_x n)) ∙ ap (λ (z : ℤ). z +ℤ out_y n) (ap neg_ℤ t.turn_x ∙ neg_ℤ-neg_ℤ (out_y m))

    C-n : OnSide R n C
    unfolding C
    C-n =
        subst (λ (b : ℤ). OnSide R n (corner_spot R (out_x m +ℤ out_x n) b)) up
        (subst (λ (a : ℤ). OnSide R n (corner_spot R a (out_y n -ℤ out_x n))) across (first-corner R (pp-nn h_r) n))

    C-point : APoint (corner (out_x m +ℤ out_x n) (out_y m +ℤ out_y n))
    C-point = subst APoint (begins-is n ∙ ap₂ corner across up) (begins-fine n).point

    C-only : {S : Spot} → OnSide R m S → OnSide R n S → Same S C
    unfolding C
    C-only {S} f g = record {
      same_x =
          eq-cert _
          (z-add (z-add (z-eq (neg_ℤ S.X) (unit m)) (z-add (z-eq (out_x m) f.edge) (z-eq (neg_ℤ (out_y m)) g.edge)))
          (z-add (z-eq (out_y m *ℤ S.X -ℤ R *ℤ S.W) t.turn_x) (z-eq (out_y m *ℤ S.Y) t.turn_y)))
          (reify (R ∷ out_x m ∷ out_y m ∷ out_x n ∷ out_y n ∷ S.X ∷ S.Y ∷ S.W ∷ [])
          (λ ρ v. simp (reading, v 0, v 1, v 2, v 3, v 4, v 5, v 6, v 7, val_pos ρ, val-negsuc ρ) (solve _ _ _ tt)));
      same_y =
          eq-cert _
          (z-add (z-add (z-eq (neg_ℤ S.Y) (unit m)) (z-add (z-eq (out_y m) f.edge) (z-eq (out_x m) g.edge)))
          (z-add (z-eq (neg_ℤ (out_x m *ℤ S.X)) t.turn_x) (z-eq (neg_ℤ (out_x m *ℤ S.Y) -ℤ R *ℤ S.W) t.turn_y)))
          (reify (R ∷ out_x m ∷ out_y m ∷ out_x n ∷ out_y n ∷ S.X ∷ S.Y ∷ S.W ∷ [])
          (λ ρ v. simp (reading, v 0, v 1, v 2, v 3, v 4, v 5, v 6, v 7, val_pos ρ, val-negsuc ρ) (solve _ _ _ tt)));
    }

    next-says : Means R (Both (On R (side m)) (On R (side n))) (point (corner (out_x m +ℤ out_x n) (out_y m +ℤ out_y n)))
    unfolding C
    next-says =
        means_point (pp-pos 0) C-point (record { first = on-side C-m; second = on-side C-n })
        (λ S b. C-only (of-side b.first) (of-side b.second))

    -- the other way round
    back-says : Means R (Both (On R (side n)) (On R (side m))) (point (corner (out_x n +ℤ out_x m) (out_y n +ℤ out_y m)))
    back-says =
        subst (λ (e : Point). Means R (Both (On R (side n)) (On R (side m))) (point e))
        (ap₂ corner (+ℤ_comm (out_x m) (out_x n)) (+ℤ_comm (out_y m) (out_y n))) (means-map both-swap next-says)

  pub sides-means : (m n : Side) → Means R (Both (On R (side m)) (On R (side n))) (sides m n)
  sides-means left left = same-says left
  sides-means left bottom = next-says left bottom (turned left)
  sides-means left right = opposite-says left right refl refl
  sides-means left top = back-says top left (turned top)
  sides-means bottom left = back-says left bottom (turned left)
  sides-means bottom bottom = same-says bottom
  sides-means bottom right = next-says bottom right (turned bottom)
  sides-means bottom top = opposite-says bottom top refl refl
  sides-means right left = opposite-says right left refl refl
  sides-means right bottom = back-says bottom right (turned bottom)
  sides-means right right = same-says right
  sides-means right top = next-says right top (turned right)
  sides-means top left = next-says top left (turned top)
  sides-means top bottom = opposite-says top bottom refl refl
  sides-means top right = back-says right top (turned right)
  sides-means top top = same-says top

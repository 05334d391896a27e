-- The ends of a figure at R: both are on the cut piece, and every place of it lies between them. To cite:
--   FromTo, ends_at         the law, for every R of 8,000,000 or more
--   begins-is, corner_spot, first-corner, last-corner   a side's corners by its way out; they are on it
use Rattle.std.specs.Prelude.{◌≡◌, refl, [], ◌∷◌, ℤ, pos, ◌+ℤ◌, ◌-ℤ◌, ◌*ℤ◌, ◌≤ℤ◌, ◌<ℤ◌}
use Rattle.std.proofs.Common.{sym, subst}
use Rattle.std.specs.Int.Signed.{le_z_yes}
use Rattle.whole.specs.Reify.{reify, reading, solve, val_pos, val-negsuc}
use Rattle.whole.specs.Order.{le-cert, le-nn, nn-add, nn-mul, nn-pos, pp-pos, ≤_trans}
use Rattle.whole.specs.Within.{Within}
use Rattle.whole.specs.Bound.{w-pos, w-negsuc, w-upper, w-lower}
use Rattle.whole.specs.Cert.{z-eq, nn-eq, eq-cert}
use Rattle.sheet.specs.declared.Point.{Point}
use Rattle.sheet.specs.Figure.{◌⇀◌, Side, left, bottom, right, top, out_x, out_y, Figure, side}
use Rattle.sheet.proofs.RefusalLaws.{Drawn, draw_segment, draw_ray, draw_line, draw_side}
use Rattle.sheet.specs.Ends.{corner, begins, next_side, first_of, last_of}
use Rattle.cut.specs.Bounds.{ends_need}
use Rattle.cut.specs.Place.{Spot, fixed}
use Rattle.cut.specs.Cut.{Upto, InSquare, OnSide, On, on_segment, on_ray, on_line, on-side}
use Rattle.cut.specs.Ordinary.{way}
use Rattle.cut.proofs.Same.{spot_at, given-spot, on_same, upto-same, same-upto-left, of_segment, of_ray, of_line, of-side}
use Rattle.cut.proofs.Line.{upto-refl, online-p, online-turn, online-back, upto-back, length-reverse}
use Rattle.cut.proofs.Square.{square-by, near, length-pq, segment-p, segment-q, unit, Turned, turned}
use Rattle.cut.proofs.Farthest.{farthest-last}
use Rattle.cut.proofs.Far.{ahead, behind, inner-p}

-- ---- corners

-- a side's corners by its way out, and the side before it
pub begins-is : (n : Side) → begins n ≡ corner (out_x n +ℤ out_y n) (out_y n -ℤ out_x n)
begins-is left = refl
begins-is bottom = refl
begins-is right = refl
begins-is top = refl

ends_is : (n : Side) → begins (next_side n) ≡ corner (out_x n -ℤ out_y n) (out_y n +ℤ out_x n)
ends_is left = refl
ends_is bottom = refl
ends_is right = refl
ends_is top = refl

prev : (n : Side) → (m : Side) × Turned m n
prev left = (top, turned top)
prev bottom = (left, turned left)
prev right = (bottom, turned bottom)
prev top = (right, turned right)

corners : (n : Side)
    → Within 1 (out_x n +ℤ out_y n) × Within 1 (out_y n -ℤ out_x n) × Within 1 (out_x n -ℤ out_y n) × Within 1 (out_y n +ℤ out_x n)
corners left = (w-negsuc 0, w-pos 1, w-negsuc 0, w-negsuc 0)
corners bottom = (w-negsuc 0, w-negsuc 0, w-pos 1, w-negsuc 0)
corners right = (w-pos 1, w-negsuc 0, w-pos 1, w-pos 1)
corners top = (w-pos 1, w-pos 1, w-negsuc 0, w-pos 1)

abbrev pub corner_spot : ℤ → ℤ → ℤ → Spot
corner_spot R a b = spot_at R (corner a b) (pp-pos 0)

module _ (R : ℤ) (R0 : pos 0 ≤ℤ R) where
  corner-in : (a b : ℤ) → Within 1 a → Within 1 b → InSquare R (corner_spot R a b)
  corner-in a b ha hb = square-by (up a ha) (down a ha) (up b hb) (down b hb)
    where
      up : (z : ℤ) → Within 1 z → (z *ℤ R +ℤ pos 0) ≤ℤ (R *ℤ pos 1)
      up z h = le-cert _ (nn-mul R0 (le-nn (w-upper h))) (reify (R ∷ z ∷ []) (λ ρ v. simp (reading, v 0, v 1, val_pos ρ) (solve _ _ _ tt)))

      down : (z : ℤ) → Within 1 z → pos 0 ≤ℤ (R *ℤ pos 1 +ℤ (z *ℤ R +ℤ pos 0))
      down z h =
          le-cert _ (nn-mul R0 (le-nn (w-lower h)))
          (reify (R ∷ z ∷ []) (λ ρ v. simp (reading, v 0, v 1, val_pos ρ) (solve _ _ _ tt)))

  module _ (n : Side) where
    pub first-corner : OnSide R n (corner_spot R (out_x n +ℤ out_y n) (out_y n -ℤ out_x n))
    first-corner = record {
      in-square = let c = corners n in corner-in _ _ c.0 c.1;
      edge =
          eq-cert _ (z-eq R (unit n))
          (reify (R ∷ out_x n ∷ out_y n ∷ []) (λ ρ v. simp (reading, v 0, v 1, v 2, val_pos ρ, val-negsuc ρ) (solve _ _ _ tt)));
    }

    pub last-corner : OnSide R n (corner_spot R (out_x n -ℤ out_y n) (out_y n +ℤ out_x n))
    last-corner = record {
      in-square = let c = corners n in corner-in _ _ c.2 c.3;
      edge =
          eq-cert _ (z-eq R (unit n))
          (reify (R ∷ out_x n ∷ out_y n ∷ []) (λ ρ v. simp (reading, v 0, v 1, v 2, val_pos ρ, val-negsuc ρ) (solve _ _ _ tt)));
    }

    after-corner : {S : Spot} → InSquare R S → Upto (way (side n)) (corner_spot R (out_x n +ℤ out_y n) (out_y n -ℤ out_x n)) S
    after-corner {S} h =
        let m = (prev n).0 in
        let t = (prev n).1 in
        record {
          upto =
              le-cert _
              (nn-add (le-nn (h.inside m))
              (nn-add (nn-add (nn-eq S.X (sym t.turn_y)) (nn-eq S.Y t.turn_x)) (nn-eq (R *ℤ S.W) (unit n))))
              (reify (R ∷ out_x n ∷ out_y n ∷ out_x m ∷ out_y m ∷ S.X ∷ S.Y ∷ S.W ∷ [])
              (λ ρ v. simp (reading, v 0, v 1, v 2, v 3, v 4, v 5, v 6, v 7, val_pos ρ, val-negsuc ρ) (solve _ _ _ tt)));
        }

    before-corner : {S : Spot} → InSquare R S → Upto (way (side n)) S (corner_spot R (out_x n -ℤ out_y n) (out_y n +ℤ out_x n))
    before-corner {S} h =
        let m = next_side n in
        let t = turned n in
        record {
          upto =
              le-cert _
              (nn-add (le-nn (h.inside m))
              (nn-add (nn-add (nn-eq S.X t.turn_x) (nn-eq S.Y t.turn_y)) (nn-eq (R *ℤ S.W) (unit n))))
              (reify (R ∷ out_x n ∷ out_y n ∷ out_x m ∷ out_y m ∷ S.X ∷ S.Y ∷ S.W ∷ [])
              (λ ρ v. simp (reading, v 0, v 1, v 2, v 3, v 4, v 5, v 6, v 7, val_pos ρ, val-negsuc ρ) (solve _ _ _ tt)));
        }

-- ---- the law

-- from e to e', both on the piece
pub record FromTo (R : ℤ) (f : Figure) (e e' : Point) : Type 0 where
  pub first_over : pos 0 <ℤ e.w
  pub last_over : pos 0 <ℤ e'.w
  pub first_on : On R f (spot_at R e first_over)
  pub last_on : On R f (spot_at R e' last_over)
  pub not-before : (S : Spot) → On R f S → Upto (way f) (spot_at R e first_over) S
  pub not_beyond : (S : Spot) → On R f S → Upto (way f) S (spot_at R e' last_over)

pub ends_at : {R : ℤ} → pos ends_need ≤ℤ R → {f : Figure} → Drawn f → FromTo R f (first_of f) (last_of f)
ends_at {R} h_r (draw_segment {p = p} {q = q} a) = record {
  first_over = pp-pos 0;
  last_over = pp-pos 0;
  first_on = on_same (given-spot R p) (on_segment (segment-p p q));
  last_on = on_same (given-spot R q) (on_segment (segment-q p q));
  not-before = λ S s. same-upto-left (given-spot R p) (of_segment s).not_before_p;
  not_beyond = λ S s. upto-same (given-spot R q) (of_segment s).not_beyond_q;
}
ends_at {R} h_r (draw_line {p = p} {q = q} a) =
    let f = ahead h_r a in
    let b = behind h_r a in
    let back = length-reverse (p ⇀ q) (length-pq a) in
    record {
      first_over = b.over;
      last_over = f.over;
      first_on = on_line (record { on = online-back b.farthest.on; cut = b.farthest.on-side.in-square });
      last_on = on_line (record { on = f.farthest.on; cut = f.farthest.on-side.in-square });
      not-before = λ S s. upto-back (farthest-last back (inner-p h_r a) b.farthest (online-turn (of_line s).on) (of_line s).cut);
      not_beyond = λ S s. farthest-last (length-pq a) (inner-p h_r a) f.farthest (of_line s).on (of_line s).cut;
    }
ends_at {R} h_r (draw_ray {p = p} {q = q} a) =
    let f = ahead h_r a in
    record {
      first_over = pp-pos 0;
      last_over = f.over;
      not-before = λ S s. same-upto-left (given-spot R p) (of_ray s).from_p;
      not_beyond = λ S s. farthest-last (length-pq a) (inner-p h_r a) f.farthest (of_ray s).of_line.on (of_ray s).of_line.cut;
      first_on =
          on_same (given-spot R p) (on_ray (record {
            of_line = record { on = online-p p (p ⇀ q); cut = near a.small_p.in_x a.small_p.in_y (≤_trans (le_z_yes tt) h_r) };
            from_p = upto-refl (p ⇀ q) (fixed p);
          }));
      last_on = on_ray (record {
        of_line = record { on = f.farthest.on; cut = f.farthest.on-side.in-square };
        from_p = f.farthest.ahead;
      });
    }
ends_at {R} h_r (draw_side {n = n}) =
    subst (λ (e : Point). FromTo R (side n) e (begins (next_side n))) (sym (begins-is n))
    (subst (λ (e : Point). FromTo R (side n) (corner (out_x n +ℤ out_y n) (out_y n -ℤ out_x n)) e) (sym (ends_is n))
    (record {
      first_over = pp-pos 0;
      last_over = pp-pos 0;
      first_on = on-side (first-corner R R0 n);
      last_on = on-side (last-corner R R0 n);
      not-before = λ S s. after-corner R R0 n (of-side s).in-square;
      not_beyond = λ S s. before-corner R R0 n (of-side s).in-square;
    }))
  where
    R0 : pos 0 ≤ℤ R
    R0 = ≤_trans (nn-pos ends_need) h_r

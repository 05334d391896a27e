-- Side at R is the ordinary sign of three places, for every R above 64,000,000,000. To cite:
--   side-at    side of a figure for any point
use Rattle.std.specs.Prelude.{◌≡◌, ◌⊎◌, List, [], ◌∷◌, ℤ, pos, neg_ℤ, ◌+ℤ◌, ◌-ℤ◌, ◌*ℤ◌, ◌<ℤ◌}
use Rattle.std.proofs.Common.{sym, ◌∙◌, ap, inl, inr}
use Rattle.whole.specs.Ring.{var, lit, ◌⊕◌, ◌⊖◌, ◌⊗◌, ring}
use Rattle.whole.specs.Reify.{reify, reading, solve, val_pos}
use Rattle.whole.specs.Order.{nn-pos, pp-pos, pp-mul, ≤-<-trans}
use Rattle.whole.specs.Cert.{z-eq, z-add, eq-cert}
use Rattle.whole.specs.Sign.{sgn}
use Rattle.whole.specs.SignLaws.{sgn-mul-pos}
use Rattle.whole.specs.Within.{Within}
use Rattle.whole.specs.Bound.{w-is, w-neg, w-sub, w-mul, w-pos}
use Rattle.whole.specs.Choice.{or_else}
use Rattle.whole.specs.Lead.{Small, small, lead-step}
use Rattle.sheet.specs.declared.Point.{Point}
use Rattle.sheet.specs.Figure.{Vec, ◌⇀◌, Side, left, bottom, right, top, Figure, side}
use Rattle.sheet.specs.Points.{given}
use Rattle.sheet.specs.Ends.{moment}
use Rattle.sheet.proofs.RefusalLaws.{Proper, Drawn, draw_segment, draw_ray, draw_line, draw_side}
use Rattle.sheet.specs.PointFacts.{OnEdge, APoint, a_standard, a_frame}
use Rattle.sheet.specs.PointsLaws.{point-sizes}
use Rattle.sheet.specs.Signs.{turn, side_of_figure}
use Rattle.sheet.proofs.EndsLaws.{Way, proper-way}
use Rattle.sheet.specs.Expansions.{side_b, side_c, pair-side-is, left-side-is, bottom-side-is, right-side-is, top-side-is}
use Rattle.cut.specs.Bounds.{side_need}
use Rattle.cut.specs.Place.{put, at, fixed}
use Rattle.cut.specs.Ordinary.{determinant, sign_of, tail, tip}
use Rattle.cut.proofs.Same.{spot_at}
use Rattle.cut.proofs.Coordinate.{constant}
use Rattle.cut.proofs.TurnAt.{determinant-is}

module _ {R : ℤ} (h_r : pos side_need <ℤ R) (s : Point) (l : pos 0 <ℤ s.w) where
  -- with d from p to q and k its moment: dx y - dy x - w k
  module _ (p q : Vec) where
    abbrev side_value : ℤ
    side_value = (p ⇀ q).x *ℤ (s.my *ℤ R +ℤ s.ny) -ℤ (p ⇀ q).y *ℤ (s.mx *ℤ R +ℤ s.nx) -ℤ s.w *ℤ moment p (p ⇀ q)

    whole-places : sign_of (determinant (at p.x p.y) (at q.x q.y) (put R s l)) ≡ sgn side_value
    whole-places =
        determinant-is (fixed p) (fixed q) (spot_at R s l)
        ∙ ap sgn (ring (p.x ∷ p.y ∷ q.x ∷ q.y ∷ s.w ∷ (s.mx *ℤ R +ℤ s.nx) ∷ (s.my *ℤ R +ℤ s.ny) ∷ [])
        (lit 1 ⊗ (var 2 ⊗ var 6 ⊖ var 5 ⊗ var 3) ⊖ lit 1 ⊗ (var 0 ⊗ var 6 ⊖ var 5 ⊗ var 1) ⊕ var 4 ⊗ (var 0 ⊗ var 3 ⊖ var 2 ⊗ var 1))
        ((var 2 ⊖ var 0) ⊗ var 6 ⊖ (var 3 ⊖ var 1) ⊗ var 5 ⊖ var 4 ⊗ ((var 2 ⊖ var 0) ⊗ var 1 ⊖ (var 3 ⊖ var 1) ⊗ var 0)) tt)

  -- ---- of a segment, ray or line: a standard point leaves no R, and of a frame point one n is 0

  pair-leads : {p q : Vec} → Proper p q → APoint s → sgn (side_b p q s *ℤ R +ℤ side_c p q s) ≡ or_else (sgn (side_b p q s)) (sgn (side_c p q s))
  pair-leads {p} {q} h (a_standard t e) =
      constant R (side_b p q s) (side_c p q s)
      (eq-cert _ (z-add (z-eq (p ⇀ q).x t.no_my) (z-eq (neg_ℤ (p ⇀ q).y) t.no_mx))
      (reify (p.x ∷ p.y ∷ q.x ∷ q.y ∷ s.mx ∷ s.my ∷ [])
      (λ ρ v. simp (reading, v 0, v 1, v 2, v 3, v 4, v 5, val_pos ρ) (solve _ _ _ tt))))
  pair-leads {p} {q} h (a_frame f e) = lead-step (side_b p q s) (side_c p q s) R (go f.on_edge)
    where
      d : Way (p ⇀ q).x (p ⇀ q).y (moment p (p ⇀ q))
      d = proper-way h

      go : OnEdge s.mx s.nx s.w ⊎ OnEdge s.my s.ny s.w → Small R (side_c p q s)
      go (inl o) =
          small (w-sub (w-sub (w-mul d.in_dx f.slim.in_ny) (w-mul d.in_dy (w-is o.even (w-pos 0))))
          (w-mul f.slim.in-w.at_most d.in_k)) h_r
      go (inr o) =
          small (w-sub (w-sub (w-mul d.in_dx (w-is o.even (w-pos 0))) (w-mul d.in_dy f.slim.in_nx))
          (w-mul f.slim.in-w.at_most d.in_k)) h_r

  pair-at : {p q : Vec} → Proper p q → APoint s
      → sign_of (determinant (at p.x p.y) (at q.x q.y) (put R s l)) ≡ turn (given p) (given q) s
  pair-at {p} {q} h a =
      whole-places p q
      ∙ ap sgn (reify (p.x ∷ p.y ∷ q.x ∷ q.y ∷ s.mx ∷ s.nx ∷ s.my ∷ s.ny ∷ s.w ∷ R ∷ [])
      (λ ρ v. simp (reading, v 0, v 1, v 2, v 3, v 4, v 5, v 6, v 7, v 8, v 9) (solve _ _ _ tt)))
      ∙ pair-leads h a
      ∙ sym (pair-side-is p q s)

  -- ---- of a side of the frame: its corners are 2 R apart

  edge_at : (p q : Vec) (b c : ℤ) → Within side_need c → side_value p q ≡ (b *ℤ R +ℤ c) *ℤ (pos 2 *ℤ R)
      → sign_of (determinant (at p.x p.y) (at q.x q.y) (put R s l)) ≡ or_else (sgn b) (sgn c)
  edge_at p q b c h e =
      whole-places p q
      ∙ ap sgn e
      ∙ sgn-mul-pos (b *ℤ R +ℤ c) (pos 2 *ℤ R) (pp-mul (pp-pos 1) (≤-<-trans (nn-pos side_need) h_r))
      ∙ lead-step b c R (small h h_r)

  abbrev six : List ℤ
  six = s.mx ∷ s.nx ∷ s.my ∷ s.ny ∷ s.w ∷ R ∷ []

  frame-side-at : (n : Side) → APoint s → sign_of (determinant (tail R (side n)) (tip R (side n)) (put R s l)) ≡ side_of_figure (side n) s
  frame-side-at left a =
      edge_at (record { x = neg_ℤ R; y = R }) (record { x = neg_ℤ R; y = neg_ℤ R }) (s.mx +ℤ s.w) s.nx (point-sizes a).in_nx
      (reify six (λ ρ v. simp (reading, v 0, v 1, v 2, v 3, v 4, v 5, val_pos ρ) (solve _ _ _ tt)))
      ∙ sym (left-side-is s)
  frame-side-at bottom a =
      edge_at (record { x = neg_ℤ R; y = neg_ℤ R }) (record { x = R; y = neg_ℤ R }) (s.my +ℤ s.w) s.ny (point-sizes a).in_ny
      (reify six (λ ρ v. simp (reading, v 0, v 1, v 2, v 3, v 4, v 5, val_pos ρ) (solve _ _ _ tt)))
      ∙ sym (bottom-side-is s)
  frame-side-at right a =
      edge_at (record { x = R; y = neg_ℤ R }) (record { x = R; y = R }) (s.w -ℤ s.mx) (neg_ℤ s.nx) (w-neg (point-sizes a).in_nx)
      (reify six (λ ρ v. simp (reading, v 0, v 1, v 2, v 3, v 4, v 5, val_pos ρ) (solve _ _ _ tt)))
      ∙ sym (right-side-is s)
  frame-side-at top a =
      edge_at (record { x = R; y = R }) (record { x = neg_ℤ R; y = R }) (s.w -ℤ s.my) (neg_ℤ s.ny) (w-neg (point-sizes a).in_ny)
      (reify six (λ ρ v. simp (reading, v 0, v 1, v 2, v 3, v 4, v 5, val_pos ρ) (solve _ _ _ tt)))
      ∙ sym (top-side-is s)

-- ---- the law

pub side-at : {R : ℤ} → pos side_need <ℤ R → {f : Figure} → Drawn f → {s : Point} → APoint s → (l : pos 0 <ℤ s.w)
    → sign_of (determinant (tail R f) (tip R f) (put R s l)) ≡ side_of_figure f s
side-at h_r (draw_segment h) {s} a l = pair-at h_r s l h a
side-at h_r (draw_ray h) {s} a l = pair-at h_r s l h a
side-at h_r (draw_line h) {s} a l = pair-at h_r s l h a
side-at h_r (draw_side {n = n}) {s} a l = frame-side-at h_r s l n a

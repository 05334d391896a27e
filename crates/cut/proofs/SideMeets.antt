-- A side of the frame with a segment, ray or line: what they share is the end that is on it. To cite:
--   segment-says, ray-says, line-says   for every R above 16,000,000
use Rattle.std.specs.Prelude.{◌≡◌, refl, ◌↔◌, ◌⊎◌, [], ◌∷◌, true, ℤ, pos, ◌+ℤ◌, ◌-ℤ◌, ◌*ℤ◌, ◌≤ℤ◌, ◌<ℤ◌}
use Rattle.std.proofs.Common.{sym, ◌∙◌, inl, inr, true≢false}
use Rattle.std.specs.Int.Signed.{lt_z_yes, le_z_yes, ≤ℤ_refl, clash_ℤ}
use Rattle.whole.specs.Reify.{reify, reading, solve, val_pos}
use Rattle.whole.specs.Laws.{eq-of-sub}
use Rattle.whole.specs.Order.{lt-cert, pp-add, pp-nn, ≤_trans, <-≤, <-≤-trans, le-or-lt}
use Rattle.whole.specs.Bound.{w-add, w-mul}
use Rattle.whole.specs.Flag.{eq_z}
use Rattle.whole.specs.Tests.{cond-by, eq_z-true, eq-eq_z}
use Rattle.whole.specs.Lead.{small, two-zero}
use Rattle.whole.specs.Cert.{z-eq, z-add, eq-cert}
use Rattle.sheet.specs.declared.Point.{Point}
use Rattle.sheet.specs.Figure.{Vec, ◌⇀◌, Side, out_x, out_y, Figure, segment, ray, line, side}
use Rattle.sheet.specs.Ends.{far_end, reverse}
use Rattle.sheet.proofs.RefusalLaws.{Proper, draw_ray, draw_line}
use Rattle.sheet.specs.Flags.{both}
use Rattle.sheet.specs.Crossing.{Meeting, none, on_side, end_on}
use Rattle.cut.specs.Bounds.{ends_need, meet_need}
use Rattle.cut.specs.Place.{Spot, fixed}
use Rattle.cut.specs.Cut.{OnLine, along, Upto, OnSide, On, on-side}
use Rattle.cut.proofs.Same.{Same, side_same, on_same, spot_at, of_ray, of_line, of-side}
use Rattle.cut.proofs.Line.{size², online-turn, upto_turn, length-reverse}
use Rattle.cut.proofs.Square.{Inner, off-side, segment-small, length-pq, out_within}
use Rattle.cut.proofs.Farthest.{farthest-same, leads-out}
use Rattle.cut.proofs.Far.{Far, ahead, behind, inner-p}
use Rattle.cut.proofs.EndsAt.{ends_at}
use Rattle.cut.proofs.Means.{Both, Means, means_none, means_point}

-- ---- one end against a side

module _ {R : ℤ} (h_r : pos meet_need <ℤ R) {p d : Vec} {e : Point} (len : pos 0 <ℤ size² d) (inn : Inner R p)
    (f : Far R p d e) (n : Side) where
  abbrev E : Spot
  E = spot_at R e f.over

  -- out by R exactly, at this R: so for every R
  end_test : (on_side n e ≡ true) ↔ OnSide R n E
  end_test = (to, from)
    where
      b : (on_side n e ≡ true)
          ↔ ((eq_z (out_x n *ℤ e.mx +ℤ out_y n *ℤ e.my) e.w ≡ true) × (eq_z (out_x n *ℤ e.nx +ℤ out_y n *ℤ e.ny) (pos 0) ≡ true))
      b = both (eq_z (out_x n *ℤ e.mx +ℤ out_y n *ℤ e.my) e.w) (eq_z (out_x n *ℤ e.nx +ℤ out_y n *ℤ e.ny) (pos 0))

      to : on_side n e ≡ true → OnSide R n E
      to t =
          let m : out_x n *ℤ e.mx +ℤ out_y n *ℤ e.my ≡ e.w = eq_z-true (b.0 t).0 in
          let z : out_x n *ℤ e.nx +ℤ out_y n *ℤ e.ny ≡ pos 0 = eq_z-true (b.0 t).1 in
          record {
            in-square = f.farthest.on-side.in-square;
            edge =
                eq-cert _ (z-add (z-eq R m) (z-eq (pos 1) z))
                (reify (out_x n ∷ out_y n ∷ e.mx ∷ e.nx ∷ e.my ∷ e.ny ∷ e.w ∷ R ∷ [])
                (λ ρ v. simp (reading, v 0, v 1, v 2, v 3, v 4, v 5, v 6, v 7, val_pos ρ) (solve _ _ _ tt)));
          }

      from : OnSide R n E → on_side n e ≡ true
      from o =
          let w = out_within n in
          let z =
          two-zero (out_x n *ℤ e.mx +ℤ out_y n *ℤ e.my -ℤ e.w) (out_x n *ℤ e.nx +ℤ out_y n *ℤ e.ny) R
          (small (w-add (w-mul w.0 f.fine.slim.in_nx) (w-mul w.1 f.fine.slim.in_ny)) h_r)
          (eq-cert _ (z-eq (pos 1) o.edge)
          (reify (out_x n ∷ out_y n ∷ e.mx ∷ e.nx ∷ e.my ∷ e.ny ∷ e.w ∷ R ∷ [])
          (λ ρ v. simp (reading, v 0, v 1, v 2, v 3, v 4, v 5, v 6, v 7, val_pos ρ) (solve _ _ _ tt)))) in
          b.1 (eq-eq_z (eq-of-sub (out_x n *ℤ e.mx +ℤ out_y n *ℤ e.my) e.w z.0), eq-eq_z z.1)

  -- a place on the side, ahead of p: the end
  end-only : {S : Spot} → OnLine p d S → Upto d (fixed p) S → OnSide R n S → Same S E
  end-only o u s = farthest-same len inn (record { on = o; ahead = u; over = n; on-side = s }) f.farthest

  end-out : OnSide R n E → pos 0 <ℤ (out_x n *ℤ d.x +ℤ out_y n *ℤ d.y)
  end-out s = leads-out len inn (record { on = f.farthest.on; ahead = f.farthest.ahead; over = n; on-side = s })

  -- the end of a figure g is asked first: it is what the side shares with g, or it is not, and m is the answer
  end-says : {g : Figure} {m : Meeting} {k : pos 0 <ℤ e.w} → On R g (spot_at R e k)
      → (OnSide R n E → (S : Spot) → OnSide R n S → On R g S → Same S E)
      → ((OnSide R n E → ⊥) → Means R (Both (On R (side n)) (On R g)) m) → Means R (Both (On R (side n)) (On R g)) (end_on n e m)
  end-says {g} on only otherwise =
      cond-by (Means R (Both (On R (side n)) (On R g))) (on_side n e)
      (λ t.
      let s = end_test.0 t in
      means_point f.over f.fine.point (record { first = on-side s; second = on_same (record { same_x = refl; same_y = refl }) on })
      (λ S b. only s S (of-side b.first) b.second))
      (λ t. otherwise (λ s. true≢false (sym (end_test.1 s) ∙ t)))

-- ---- the three kinds

module _ {R : ℤ} (h_r : pos meet_need <ℤ R) {p q : Vec} (a : Proper p q) (n : Side) where
  h_l : pos ends_need ≤ℤ R
  h_l = ≤_trans (le_z_yes tt) (<-≤ h_r)

  pub segment-says : Means R (Both (On R (side n)) (On R (segment p q))) none
  segment-says = means_none (λ S b. off-side (<-≤-trans (lt_z_yes tt) h_l) (segment-small a b.second) (of-side b.first))

  abbrev fore_e : Spot
  fore_e = spot_at R (far_end p (p ⇀ q)) (ahead h_l a).over

  fore-only : {S : Spot} → OnLine p (p ⇀ q) S → Upto (p ⇀ q) (fixed p) S → OnSide R n S → Same S fore_e
  fore-only = end-only h_r (length-pq a) (inner-p h_l a) (ahead h_l a) n

  pub ray-says : Means R (Both (On R (side n)) (On R (ray p q))) (end_on n (far_end p (p ⇀ q)) none)
  ray-says =
      end-says h_r (length-pq a) (inner-p h_l a) (ahead h_l a) n (ends_at h_l (draw_ray a)).last_on (λ s S. at)
      (λ f. means_none (λ S b. f (side_same (at (of-side b.first) b.second) (of-side b.first))))
    where
      at : {S : Spot} → OnSide R n S → On R (ray p q) S → Same S fore_e
      at o r = fore-only (of_ray r).of_line.on (of_ray r).from_p o

  -- ---- a line has the other end too

  back : pos 0 <ℤ size² (reverse (p ⇀ q))
  back = length-reverse (p ⇀ q) (length-pq a)

  abbrev aft_e : Spot
  aft_e = spot_at R (far_end p (reverse (p ⇀ q))) (behind h_l a).over

  aft-only : {S : Spot} → OnLine p (p ⇀ q) S → Upto (p ⇀ q) S (fixed p) → OnSide R n S → Same S aft_e
  aft-only o u = end-only h_r back (inner-p h_l a) (behind h_l a) n (online-turn o) (upto_turn u)

  -- not both ends: the direction and its reverse do not both lead out
  not-both : OnSide R n fore_e → OnSide R n aft_e → ⊥
  not-both s t =
      clash_ℤ {a = pos 0} {b = pos 0}
      (lt-cert _
      (pp-add (end-out h_r (length-pq a) (inner-p h_l a) (ahead h_l a) n s) (pp-nn (end-out h_r back (inner-p h_l a) (behind h_l a) n t)))
      (reify (p.x ∷ p.y ∷ q.x ∷ q.y ∷ out_x n ∷ out_y n ∷ [])
      (λ ρ v. simp (reading, v 0, v 1, v 2, v 3, v 4, v 5, val_pos ρ) (solve _ _ _ tt))))
      (≤ℤ_refl (pos 0))

  which : (S : Spot) → OnSide R n S → On R (line p q) S → Same S fore_e ⊎ Same S aft_e
  which S o l = pick (le-or-lt (along (p ⇀ q) (fixed p) *ℤ S.W) (along (p ⇀ q) S *ℤ pos 1))
    where
      pick : ((along (p ⇀ q) (fixed p) *ℤ S.W) ≤ℤ (along (p ⇀ q) S *ℤ pos 1))
          ⊎ ((along (p ⇀ q) S *ℤ pos 1) <ℤ (along (p ⇀ q) (fixed p) *ℤ S.W))
          → Same S fore_e ⊎ Same S aft_e
      pick (inl h) = inl (fore-only (of_line l).on (record { upto = h }) o)
      pick (inr h) = inr (aft-only (of_line l).on (record { upto = <-≤ h }) o)

  pub line-says : Means R (Both (On R (side n)) (On R (line p q))) (end_on n (far_end p (p ⇀ q)) (end_on n (far_end p (reverse (p ⇀ q))) none))
  line-says =
      end-says h_r (length-pq a) (inner-p h_l a) (ahead h_l a) n (ends_at h_l (draw_line a)).last_on (λ s S o l. at-fore s o (which S o l))
      (λ f.
      end-says h_r back (inner-p h_l a) (behind h_l a) n (ends_at h_l (draw_line a)).first_on (λ s S o l. at-aft f o (which S o l))
      (λ g. means_none (λ S b.
      let o = of-side b.first in
      g (side_same (at-aft f o (which S o b.second)) o))))
    where
      at-fore : OnSide R n fore_e → {S : Spot} → OnSide R n S → Same S fore_e ⊎ Same S aft_e → Same S fore_e
      at-fore s o (inl e) = e
      at-fore s o (inr e) = absurd (not-both s (side_same e o))

      at-aft : (OnSide R n fore_e → ⊥) → {S : Spot} → OnSide R n S → Same S fore_e ⊎ Same S aft_e → Same S aft_e
      at-aft f o (inl e) = absurd (f (side_same e o))
      at-aft f o (inr e) = e

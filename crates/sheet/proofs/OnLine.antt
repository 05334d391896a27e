-- Points on the line through p in the direction d, and on a side of the frame: where the turn is 0. To cite:
--   OnLine, on-line-turn     both coefficients of the turn are 0, and so is the turn
--   on-line-given, on-line-divided, on-line-back   a given place; after the division; with the arrow the other way
--   far-on-line              the far end is on the line
--   parallel, carried        what is parallel to a third is parallel; what is on one of two names of a line is on the other
--   cross-self, cross-same, cross-turned   cross products that are 0
--   on-side-sign             a point whose way out over a side is R exactly is on it
-- Assumes nothing.
use Rattle.std.specs.Prelude.{◌≡◌, [], ◌∷◌, ℤ, pos, negsuc, neg_ℤ, ◌+ℤ◌, ◌-ℤ◌, ◌*ℤ◌, ◌<ℤ◌}
use Rattle.std.proofs.Common.{sym, ◌∙◌, ap, subst}
use Rattle.std.proofs.Math.IntN.{*ℤ-zero, ℤ_discrete}
use Rattle.whole.specs.Laws.{mul_assoc, sub_self}
use Rattle.whole.specs.Ring.{var, lit, ◌⊖◌, ◌⊗◌, ⊝◌, ring}
use Rattle.whole.specs.Reify.{reify, reading, solve, val_pos, val-negsuc}
use Rattle.whole.specs.Cert.{z-eq, z-add, eq-cert, zero-cancel}
use Rattle.whole.specs.Sign.{sgn}
use Rattle.whole.specs.SignLaws.{sgn-zero, sgn-abs, sgn-mul-self, size_above}
use Rattle.whole.specs.Choice.{or_else}
use Rattle.sheet.specs.declared.Point.{Point}
use Rattle.sheet.specs.Figure.{Vec, ◌⇀◌, Side, out_x, out_y, side}
use Rattle.sheet.specs.Points.{size, given, divided, divisor}
use Rattle.sheet.specs.Ends.{moment, flat, steep, far_raw, far_end, reverse}
use Rattle.sheet.specs.Signs.{turn, side_of_figure}
use Rattle.sheet.specs.Crossing.{cross}
use Rattle.sheet.specs.PointsLaws.{divided-back, divisor-above}
use Rattle.sheet.proofs.EndsLaws.{Far, far, flatter, steeper, tie_flat, tie_steep, Way, far-frame}
use Rattle.sheet.specs.Expansions.{pair-side-is, frame-side-is}

-- ---- cross products that are 0

pub cross-self : (d p : Vec) → cross d (p ⇀ p) ≡ pos 0
cross-self d p = reify (d.x ∷ d.y ∷ p.x ∷ p.y ∷ []) (λ ρ v. simp (reading, val_pos ρ, v 0, v 1, v 2, v 3) (solve _ _ _ tt))

pub cross-same : (d : Vec) → cross d d ≡ pos 0
cross-same d = reify (d.x ∷ d.y ∷ []) (λ ρ v. simp (reading, val_pos ρ, v 0, v 1) (solve _ _ _ tt))

pub cross-turned : (d f : Vec) → cross d f ≡ pos 0 → cross f d ≡ pos 0
cross-turned d f h =
    eq-cert _ (z-eq (negsuc 0) h)
    (reify (d.x ∷ d.y ∷ f.x ∷ f.y ∷ []) (λ ρ v. simp (reading, val_pos ρ, val-negsuc ρ, v 0, v 1, v 2, v 3) (solve _ _ _ tt)))

-- ---- points on a line

-- both coefficients of the turn are 0
pub record OnLine (p d : Vec) (e : Point) : Type 0 where
  pub level : d.x *ℤ e.my -ℤ d.y *ℤ e.mx ≡ pos 0
  pub even : d.x *ℤ e.ny -ℤ d.y *ℤ e.nx -ℤ e.w *ℤ moment p d ≡ pos 0

pub both_zero : {a b : ℤ} → a ≡ pos 0 → b ≡ pos 0 → or_else (sgn a) (sgn b) ≡ pos 0
both_zero h k = λ i. or_else ((ap sgn h ∙ sgn-zero) i) ((ap sgn k ∙ sgn-zero) i)

pub on-line-turn : (p q : Vec) (e : Point) → OnLine p (p ⇀ q) e → turn (given p) (given q) e ≡ pos 0
on-line-turn p q e h = pair-side-is p q e ∙ both_zero h.level h.even

-- a given place: dx (ay - py) - dy (ax - px) = 0
pub on-line-given : {p d a : Vec} → cross d (p ⇀ a) ≡ pos 0 → OnLine p d (given a)
on-line-given {p} {d} {a} h = record {
  level = ring (d.x ∷ d.y ∷ []) (var 0 ⊗ lit 0 ⊖ var 1 ⊗ lit 0) (lit 0) tt;
  even =
      ring (d.x ∷ d.y ∷ a.x ∷ a.y ∷ p.x ∷ p.y ∷ [])
      (var 0 ⊗ var 3 ⊖ var 1 ⊗ var 2 ⊖ lit 1 ⊗ (var 0 ⊗ var 5 ⊖ var 1 ⊗ var 4))
      (var 0 ⊗ (var 3 ⊖ var 5) ⊖ var 1 ⊗ (var 2 ⊖ var 4)) tt
      ∙ h;
}

-- the common divisor goes out
pub on-line-divided : {p d : Vec} {e : Point} → pos 0 <ℤ e.w → OnLine p d e → OnLine p d (divided e)
on-line-divided {p} {d} {e} above h =
    let b = divided-back e in
    let f = divided e in
    let g = pos (divisor e) in
    record {
      level =
          zero-cancel g (divisor-above e above)
          (times-two g d.x d.y f.my f.mx ∙ sym (λ i. d.x *ℤ b.my i -ℤ d.y *ℤ b.mx i) ∙ h.level);
      even =
          zero-cancel g (divisor-above e above)
          (times-three g d.x d.y f.ny f.nx f.w (moment p d)
          ∙ sym (λ i. d.x *ℤ b.ny i -ℤ d.y *ℤ b.nx i -ℤ b.w i *ℤ moment p d) ∙ h.even);
    }
  where
    times-two : (g a b x y : ℤ) → g *ℤ (a *ℤ x -ℤ b *ℤ y) ≡ a *ℤ (g *ℤ x) -ℤ b *ℤ (g *ℤ y)
    times-two g a b x y = reify (g ∷ a ∷ b ∷ x ∷ y ∷ []) (λ ρ v. simp (reading, v 0, v 1, v 2, v 3, v 4) (solve _ _ _ tt))

    times-three : (g a b x y w k : ℤ) → g *ℤ (a *ℤ x -ℤ b *ℤ y -ℤ w *ℤ k) ≡ a *ℤ (g *ℤ x) -ℤ b *ℤ (g *ℤ y) -ℤ (g *ℤ w) *ℤ k
    times-three g a b x y w k =
        reify (g ∷ a ∷ b ∷ x ∷ y ∷ w ∷ k ∷ []) (λ ρ v. simp (reading, v 0, v 1, v 2, v 3, v 4, v 5, v 6) (solve _ _ _ tt))

-- the arrow the other way
pub on-line-back : {p d : Vec} {e : Point} → OnLine p (reverse d) e → OnLine p d e
on-line-back {p} {d} {e} h = record {
  level =
      eq-cert _ (z-eq (negsuc 0) h.level)
      (reify (d.x ∷ d.y ∷ e.mx ∷ e.my ∷ []) (λ ρ v. simp (reading, val_pos ρ, val-negsuc ρ, v 0, v 1, v 2, v 3) (solve _ _ _ tt)));
  even =
      eq-cert _ (z-eq (negsuc 0) h.even)
      (reify (d.x ∷ d.y ∷ e.nx ∷ e.ny ∷ e.w ∷ p.x ∷ p.y ∷ [])
      (λ ρ v. simp (reading, val_pos ρ, val-negsuc ρ, v 0, v 1, v 2, v 3, v 4, v 5, v 6) (solve _ _ _ tt)));
}

-- ---- the far end is on the line

module _ (p d : Vec) where
  -- sx |dx| = dx and sx dx = |dx|
  on-flat : OnLine p d (flat d.x d.y (moment p d))
  on-flat = record {
    level = ap (λ (m : ℤ). d.x *ℤ d.y -ℤ d.y *ℤ m) (sgn-abs d.x) ∙ cross-same d;
    even = eq-cert _ (z-eq (moment p d) (sgn-mul-self d.x)) (go d.x d.y (sgn d.x) (moment p d) (size d.x));
  }
    where
      go : (a b s k w : ℤ) → a *ℤ (s *ℤ k) -ℤ b *ℤ pos 0 -ℤ w *ℤ k -ℤ pos 0 ≡ k *ℤ (s *ℤ a -ℤ w)
      go a b s k w =
          ring (a ∷ b ∷ s ∷ k ∷ w ∷ []) (var 0 ⊗ (var 2 ⊗ var 3) ⊖ var 1 ⊗ lit 0 ⊖ var 4 ⊗ var 3 ⊖ lit 0)
          (var 3 ⊗ (var 2 ⊗ var 0 ⊖ var 4)) tt

  on-steep : OnLine p d (steep d.x d.y (moment p d))
  on-steep = record {
    level = ap (λ (m : ℤ). d.x *ℤ m -ℤ d.y *ℤ d.x) (sgn-abs d.y) ∙ cross-same d;
    even = eq-cert _ (z-eq (moment p d) (sgn-mul-self d.y)) (go d.x d.y (sgn d.y) (moment p d) (size d.y));
  }
    where
      go : (a b s k w : ℤ) → a *ℤ pos 0 -ℤ b *ℤ neg_ℤ (s *ℤ k) -ℤ w *ℤ k -ℤ pos 0 ≡ k *ℤ (s *ℤ b -ℤ w)
      go a b s k w =
          ring (a ∷ b ∷ s ∷ k ∷ w ∷ []) (var 0 ⊗ lit 0 ⊖ var 1 ⊗ ⊝ (var 2 ⊗ var 3) ⊖ var 4 ⊗ var 3 ⊖ lit 0)
          (var 3 ⊗ (var 2 ⊗ var 1 ⊖ var 4)) tt

pub far-on-line : (p d : Vec) → Way d.x d.y (moment p d) → OnLine p d (far_end p d)
unfolding far_end
far-on-line p d h = on-line-divided (far-frame d.x d.y (moment p d) h).slim.in-w.above (go (far d.x d.y (moment p d)))
  where
    go : Far d.x d.y (moment p d) → OnLine p d (far_raw d.x d.y (moment p d))
    go (flatter l e) = subst (OnLine p d) (sym e) (on-flat p d)
    go (steeper l e) = subst (OnLine p d) (sym e) (on-steep p d)
    go (tie_flat z t e) = subst (OnLine p d) (sym e) (on-flat p d)
    go (tie_steep z t e) = subst (OnLine p d) (sym e) (on-steep p d)

-- ---- one line by two pairs of p and d

-- dx (f x u) = fx (d x u) - ux (d x f), and the same with dy: what is parallel to d, which is not 0, is parallel
pub parallel : (d f u : Vec) → (d.x ≡ pos 0 → d.y ≡ pos 0 → ⊥) → cross d f ≡ pos 0 → cross d u ≡ pos 0 → cross f u ≡ pos 0
parallel d f u n h k = go (ℤ_discrete d.x (pos 0))
  where
    out : (a z : ℤ) → (a ≡ pos 0 → ⊥) → a *ℤ z ≡ pos 0 → z ≡ pos 0
    out a z n e =
        zero-cancel (size a) (size_above n)
        (ap (λ (w : ℤ). w *ℤ z) (sym (sgn-mul-self a)) ∙ mul_assoc (sgn a) a z ∙ ap (λ (w : ℤ). sgn a *ℤ w) e ∙ *ℤ-zero (sgn a))

    go : Dec (d.x ≡ pos 0) → cross f u ≡ pos 0
    go (no m) =
        out d.x (cross f u) m
        (eq-cert _ (z-add (z-eq f.x k) (z-eq (neg_ℤ u.x) h))
        (reify (d.x ∷ d.y ∷ f.x ∷ f.y ∷ u.x ∷ u.y ∷ []) (λ ρ v. simp (reading, val_pos ρ, v 0, v 1, v 2, v 3, v 4, v 5) (solve _ _ _ tt))))
    go (yes e) =
        out d.y (cross f u) (n e)
        (eq-cert _ (z-add (z-eq f.y k) (z-eq (neg_ℤ u.y) h))
        (reify (d.x ∷ d.y ∷ f.x ∷ f.y ∷ u.x ∷ u.y ∷ []) (λ ρ v. simp (reading, val_pos ρ, v 0, v 1, v 2, v 3, v 4, v 5) (solve _ _ _ tt))))

-- r is on the line of p and d, and f is parallel to it: what is on the one line is on the other
pub carried : (p d r f a : Vec) → (d.x ≡ pos 0 → d.y ≡ pos 0 → ⊥) → cross d f ≡ pos 0 → cross d (p ⇀ r) ≡ pos 0 → cross d (p ⇀ a) ≡ pos 0
    → cross f (r ⇀ a) ≡ pos 0
carried p d r f a n h k l =
    parallel d f (r ⇀ a) n h
    (eq-cert _ (z-add (z-eq (pos 1) l) (z-eq (negsuc 0) k))
    (reify (d.x ∷ d.y ∷ p.x ∷ p.y ∷ r.x ∷ r.y ∷ a.x ∷ a.y ∷ [])
    (λ ρ v. simp (reading, val_pos ρ, val-negsuc ρ, v 0, v 1, v 2, v 3, v 4, v 5, v 6, v 7) (solve _ _ _ tt))))

-- ---- the sides of the frame

pub on-side-sign : (n : Side) (e : Point) → out_x n *ℤ e.mx +ℤ out_y n *ℤ e.my ≡ e.w → out_x n *ℤ e.nx +ℤ out_y n *ℤ e.ny ≡ pos 0
    → side_of_figure (side n) e ≡ pos 0
on-side-sign n e h k = frame-side-is e n ∙ both_zero (ap (λ (z : ℤ). e.w -ℤ z) h ∙ sub_self e.w) (ap neg_ℤ k)

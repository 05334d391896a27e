-- The far end at R is the farthest place of its line in the square, for every R of 8,000,000 or more. To cite:
--   frame-square     a frame point put at R is in the square
--   Far              what a far end is at R: w above 0, `Farthest`, and a narrow point
--   inner-p          p of a proper pair is strictly inside
--   ahead, behind    the far end of a proper pair, and that of the reversed line
use Rattle.std.specs.Prelude.{◌≡◌, [], ◌∷◌, zero, suc, ℤ, pos, negsuc, neg_ℤ, nat_abs, ◌+ℤ◌, ◌-ℤ◌, ◌*ℤ◌, ◌≤ℤ◌, ◌<ℤ◌}
use Rattle.std.proofs.Common.{sym, ◌∙◌, ap, subst, le_refl}
use Rattle.std.proofs.Math.IntN.{*ℤ-zero}
use Rattle.std.specs.Int.Signed.{lt_z_yes, clash_ℤ}
use Rattle.whole.specs.Ring.{var, con, ◌⊕◌, ◌⊗◌, ring}
use Rattle.whole.specs.Reify.{reify, reading, solve, val_pos, val-negsuc}
use Rattle.whole.specs.Laws.{one-mul, minus-one-mul}
use Rattle.whole.specs.Order.{le-cert, le-nn, nn-add, nn-mul, nn-pos, pp-nn, ≤_trans, <-≤-trans, ≤-of}
use Rattle.whole.specs.Sign.{sgn}
use Rattle.whole.specs.SignLaws.{Signs, signs, minus, nought, plus, sgn-abs, sgn-mul-self}
use Rattle.whole.specs.Linear.{lt-one}
use Rattle.whole.specs.Within.{Within}
use Rattle.whole.specs.Bound.{w-upper, w-lower}
use Rattle.whole.specs.Cert.{z-eq, z-add, nn-eq, eq-cert}
use Rattle.sheet.specs.declared.Point.{Point}
use Rattle.sheet.specs.Figure.{Vec, ◌⇀◌, Side, left, bottom, right, top, out_x, out_y}
use Rattle.sheet.specs.Points.{size}
use Rattle.sheet.specs.Ends.{moment, flat, steep, far_raw, far_end, reverse}
use Rattle.sheet.proofs.RefusalLaws.{Proper}
use Rattle.sheet.specs.PointFacts as points
use Rattle.sheet.specs.PointFacts.{Frame}
use Rattle.sheet.specs.PointsLaws.{divided-above}
use Rattle.sheet.proofs.EndsLaws as ends
use Rattle.sheet.proofs.EndsLaws.{Way, far-frame, Fine, far-end-fine, proper-way, reverse-way}
use Rattle.cut.specs.Bounds.{ends_need}
use Rattle.cut.specs.Cut.{InSquare}
use Rattle.cut.proofs.Same.{spot_at, divided-spot}
use Rattle.cut.proofs.Square.{square-by, Inner, inner-small}
use Rattle.cut.proofs.Farthest.{Farthest, farthest-by, farthest-move}

-- ---- a frame point is in the square: m R + n is within w R

record Held (R w m n : ℤ) : Type 0 where
  upper : (m *ℤ R +ℤ n) ≤ℤ (R *ℤ w)
  lower : pos 0 ≤ℤ (R *ℤ w +ℤ (m *ℤ R +ℤ n))

module _ (R w m n : ℤ) (R0 : pos 0 ≤ℤ R) (hw : pos 0 <ℤ w) (nu : n ≤ℤ R) (nl : neg_ℤ R ≤ℤ n) where
  -- |m| = w, and n pulls back
  full : size m ≡ w → (sgn m *ℤ n) ≤ℤ pos 0 → Signs m → Held R w m n
  full e tie (nought z s) = clash_ℤ hw (≤-of (sym e ∙ ap size z))
  full e tie (plus h s) =
      let mw : m ≡ w = sym (one-mul m) ∙ ap (λ (x : ℤ). x *ℤ m) (sym s) ∙ sgn-mul-self m ∙ e in
      let n0 : n ≤ℤ pos 0 = subst (λ (x : ℤ). x ≤ℤ pos 0) (ap (λ (x : ℤ). x *ℤ n) s ∙ one-mul n) tie in
      record {
        upper =
            le-cert _ (nn-add (le-nn n0) (nn-eq (neg_ℤ R) mw))
            (reify (R ∷ w ∷ m ∷ n ∷ []) (λ ρ e. simp (reading, e 0, e 1, e 2, e 3, val_pos ρ) (solve _ _ _ tt)));
        lower =
            le-cert _ (nn-add (nn-add (nn-add (nn-mul (pp-nn hw) R0) (nn-mul (lt-one hw) R0)) (le-nn nl)) (nn-eq R mw))
            (reify (R ∷ w ∷ m ∷ n ∷ []) (λ ρ e. simp (reading, e 0, e 1, e 2, e 3, val_pos ρ, val-negsuc ρ) (solve _ _ _ tt)));
      }
  full e tie (minus h s) =
      let mw : neg_ℤ m ≡ w = sym (minus-one-mul m) ∙ ap (λ (x : ℤ). x *ℤ m) (sym s) ∙ sgn-mul-self m ∙ e in
      let n0 : neg_ℤ n ≤ℤ pos 0 = subst (λ (x : ℤ). x ≤ℤ pos 0) (ap (λ (x : ℤ). x *ℤ n) s ∙ minus-one-mul n) tie in
      record {
        upper =
            le-cert _ (nn-add (nn-add (nn-add (nn-mul (pp-nn hw) R0) (nn-mul (lt-one hw) R0)) (le-nn nu)) (nn-eq R mw))
            (reify (R ∷ w ∷ m ∷ n ∷ []) (λ ρ e. simp (reading, e 0, e 1, e 2, e 3, val_pos ρ, val-negsuc ρ) (solve _ _ _ tt)));
        lower =
            le-cert _ (nn-add (le-nn n0) (nn-eq (neg_ℤ R) mw))
            (reify (R ∷ w ∷ m ∷ n ∷ []) (λ ρ e. simp (reading, e 0, e 1, e 2, e 3, val_pos ρ) (solve _ _ _ tt)));
      }

  -- |m| < w, z being |m|
  apart : (z : ℤ) → m ≤ℤ z → neg_ℤ z ≤ℤ m → z <ℤ w → Held R w m n
  apart z zu zl h = record {
    upper =
        le-cert _ (nn-add (nn-mul (nn-add (lt-one h) (le-nn zu)) R0) (le-nn nu))
        (reify (R ∷ w ∷ m ∷ n ∷ z ∷ []) (λ ρ e. simp (reading, e 0, e 1, e 2, e 3, e 4, val-negsuc ρ) (solve _ _ _ tt)));
    lower =
        le-cert _ (nn-add (nn-mul (nn-add (lt-one h) (le-nn zl)) R0) (le-nn nl))
        (reify (R ∷ w ∷ m ∷ n ∷ z ∷ []) (λ ρ e. simp (reading, e 0, e 1, e 2, e 3, e 4, val_pos ρ, val-negsuc ρ) (solve _ _ _ tt)));
  }

  held : points.BetweenEdges m n w → Held R w m n
  held (points.inner l) =
      apart (size m) (w-upper (record { within = le_refl (nat_abs m) })) (w-lower (record { within = le_refl (nat_abs m) })) l
  held (points.on e z) = full e (≤-of (ap (λ (x : ℤ). sgn m *ℤ x) z ∙ *ℤ-zero (sgn m))) (signs m)
  held (points.beside e t) = full e (le-cert _ (nn-pos (nat_abs n)) (back (sgn m) (sgn n) (size n) t (sgn-mul-self n))) (signs m)
    where
      back : (s t z : ℤ) → t ≡ neg_ℤ s → t *ℤ n ≡ z → pos 0 -ℤ s *ℤ n ≡ z
      back s t z e f =
          eq-cert _ (z-add (z-eq (pos 1) f) (z-eq (neg_ℤ n) e))
          (reify (s ∷ t ∷ n ∷ z ∷ []) (λ ρ v. simp (reading, v 0, v 1, v 2, v 3, val_pos ρ) (solve _ _ _ tt)))

module _ {R : ℤ} (h_r : pos ends_need ≤ℤ R) where
  R0 : pos 0 ≤ℤ R
  R0 = ≤_trans (nn-pos ends_need) h_r

  below : {z : ℤ} → Within 8000000 z → z ≤ℤ R
  below k = ≤_trans (w-upper k) h_r

  above : {z : ℤ} → Within 8000000 z → neg_ℤ R ≤ℤ z
  above {z} k =
      le-cert _ (nn-add (le-nn h_r) (le-nn (w-lower k)))
      (reify (R ∷ z ∷ []) (λ ρ v. simp (reading, v 0, v 1, val_pos ρ, val-negsuc ρ) (solve _ _ _ tt)))

  pub frame-square : {e : Point} (f : Frame e) → InSquare R (spot_at R e f.slim.in-w.above)
  frame-square {e} f =
      let s = f.slim in
      let x = held R e.w e.mx e.nx R0 s.in-w.above (below s.in_nx) (above s.in_nx) f.in_x in
      let y = held R e.w e.my e.ny R0 s.in-w.above (below s.in_ny) (above s.in_ny) f.in_y in
      square-by x.upper x.lower y.upper y.lower

-- ---- the two forms as p + (R - out p) d: the coordinate u on the edge, and the other, v

module _ (R s w u z : ℤ) (f : s *ℤ u ≡ w) where
  on_edge : (a : ℤ) → s *ℤ w ≡ u → z ≡ s *ℤ a → s *ℤ w *ℤ R +ℤ pos 0 ≡ a *ℤ w +ℤ (R -ℤ z) *ℤ u
  on_edge a e h =
      eq-cert _ (z-add (z-eq R e) (z-add (z-eq a f) (z-eq u h)))
      (reify (R ∷ s ∷ w ∷ u ∷ z ∷ a ∷ []) (λ ρ v. simp (reading, v 0, v 1, v 2, v 3, v 4, v 5, val_pos ρ) (solve _ _ _ tt)))

  off-edge : (v a b : ℤ) → z ≡ s *ℤ a → v *ℤ R +ℤ s *ℤ (u *ℤ b -ℤ v *ℤ a) ≡ b *ℤ w +ℤ (R -ℤ z) *ℤ v
  off-edge v a b h =
      eq-cert _ (z-add (z-eq b f) (z-eq v h))
      (reify (R ∷ s ∷ w ∷ u ∷ z ∷ v ∷ a ∷ b ∷ []) (λ ρ v. simp (reading, v 0, v 1, v 2, v 3, v 4, v 5, v 6, v 7) (solve _ _ _ tt)))

drop-y : (s x y : ℤ) → s *ℤ x +ℤ pos 0 *ℤ y ≡ s *ℤ x
drop-y s x y = ring (s ∷ x ∷ y ∷ []) (var 0 ⊗ var 1 ⊕ con (pos 0) ⊗ var 2) (var 0 ⊗ var 1) tt

drop-x : (s x y : ℤ) → pos 0 *ℤ x +ℤ s *ℤ y ≡ s *ℤ y
drop-x s x y = ring (s ∷ x ∷ y ∷ []) (con (pos 0) ⊗ var 1 ⊕ var 0 ⊗ var 2) (var 0 ⊗ var 2) tt

-- a side over which the way out of (x, y) is f x y
record Toward (f : ℤ → ℤ → ℤ) : Type 0 where
  toward : Side
  out_by : (x y : ℤ) → out_x toward *ℤ x +ℤ out_y toward *ℤ y ≡ f x y

toward-x : (v : ℤ) → pos 0 <ℤ size v → Toward (λ (x y : ℤ). sgn v *ℤ x)
unfolding sgn
toward-x (pos zero) h = absurd h.lt
toward-x (pos (suc n)) h = record { toward = right; out_by = drop-y (pos 1) }
toward-x (negsuc n) h = record { toward = left; out_by = drop-y (negsuc 0) }

toward-y : (v : ℤ) → pos 0 <ℤ size v → Toward (λ (x y : ℤ). sgn v *ℤ y)
unfolding sgn
toward-y (pos zero) h = absurd h.lt
toward-y (pos (suc n)) h = record { toward = top; out_by = drop-x (pos 1) }
toward-y (negsuc n) h = record { toward = bottom; out_by = drop-x (negsuc 0) }

-- e is that place of the line of p and d, if it is in the square at all
abbrev Last : ℤ → Vec → Vec → Point → Type 0
Last R p d e = (h : pos 0 <ℤ e.w) → InSquare R (spot_at R e h) → Farthest R p d (spot_at R e h)

module _ (R : ℤ) (p d : Vec) (inn : Inner R p) where
  flat-far : Last R p d (flat d.x d.y (moment p d))
  flat-far hw i =
      let t = toward-x d.x hw in
      let f = sgn-mul-self d.x in
      let z = t.out_by p.x p.y in
      farthest-by R p d t.toward (spot_at R (flat d.x d.y (moment p d)) hw) inn
      (t.out_by d.x d.y ∙ f)
      (on_edge R (sgn d.x) (size d.x) d.x _ f p.x (sgn-abs d.x) z)
      (off-edge R (sgn d.x) (size d.x) d.x _ f d.y p.x p.y z) i

  steep-far : Last R p d (steep d.x d.y (moment p d))
  steep-far hw i =
      let t = toward-y d.y hw in
      let s = sgn d.y in
      let f = sgn-mul-self d.y in
      let z = t.out_by p.x p.y in
      farthest-by R p d t.toward (spot_at R (steep d.x d.y (moment p d)) hw) inn
      (t.out_by d.x d.y ∙ f)
      (turned (d.x *ℤ R) s d.x d.y p.x p.y ∙ off-edge R s (size d.y) d.y _ f d.x p.y p.x z)
      (on_edge R s (size d.y) d.y _ f p.y (sgn-abs d.y) z) i
    where
      turned : (r s dx dy a b : ℤ) → r +ℤ neg_ℤ (s *ℤ (dx *ℤ b -ℤ dy *ℤ a)) ≡ r +ℤ s *ℤ (dy *ℤ a -ℤ dx *ℤ b)
      turned r s dx dy a b =
          reify (r ∷ s ∷ dx ∷ dy ∷ a ∷ b ∷ []) (λ ρ v. simp (reading, v 0, v 1, v 2, v 3, v 4, v 5) (solve _ _ _ tt))

  raw-far : Last R p d (far_raw d.x d.y (moment p d))
  raw-far = go (ends.far d.x d.y (moment p d))
    where
      go : ends.Far d.x d.y (moment p d) → Last R p d (far_raw d.x d.y (moment p d))
      go (ends.flatter l e) = subst (Last R p d) (sym e) flat-far
      go (ends.steeper l e) = subst (Last R p d) (sym e) steep-far
      go (ends.tie_flat z t e) = subst (Last R p d) (sym e) flat-far
      go (ends.tie_steep z t e) = subst (Last R p d) (sym e) steep-far

-- ---- the end

pub record Far (R : ℤ) (p d : Vec) (e : Point) : Type 0 where
  pub over : pos 0 <ℤ e.w
  pub farthest : Farthest R p d (spot_at R e over)
  pub fine : Fine e

module _ {R : ℤ} (h_r : pos ends_need ≤ℤ R) where
  far : (p d : Vec) → Inner R p → Way d.x d.y (moment p d) → Far R p d (far_end p d)
  unfolding far_end
  far p d inn way =
      let e = far_raw d.x d.y (moment p d) in
      let f = far-frame d.x d.y (moment p d) way in
      let h = f.slim.in-w.above in
      record {
        over = divided-above e h;
        farthest = farthest-move (divided-spot e h R) (raw-far R p d inn h (frame-square h_r f));
        fine = far-end-fine p d way;
      }

  module _ {p q : Vec} (a : Proper p q) where
    pub inner-p : Inner R p
    inner-p = inner-small a.small_p (<-≤-trans (lt_z_yes tt) h_r)

    pub ahead : Far R p (p ⇀ q) (far_end p (p ⇀ q))
    ahead = far p (p ⇀ q) inner-p (proper-way a)

    pub behind : Far R p (reverse (p ⇀ q)) (far_end p (reverse (p ⇀ q)))
    behind = far p (reverse (p ⇀ q)) inner-p (reverse-way p (p ⇀ q) (proper-way a))

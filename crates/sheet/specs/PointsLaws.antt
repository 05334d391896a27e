-- Points: the common divisor going out, and what the Boolean definitions say. To cite:
--   Times, divided-back      each number of p is the divisor times that of `divided p`
--   divides-w, divisor-above, divided-above, divided-one      the divisor is above 0; w stays above 0; the divisor is then 1
--   reduced                  the divisor of a point is 1
--   all-four                 four flags together
--   narrow-is, standard-is, edge-is, in-square-is, frame_is, point-is
--                            each definition of Points is true exactly where the facts of PointFacts hold: `.0` reads, `.1` introduces
--   narrow-divided, frame-divided, standard-divided      the facts survive the division
--   square-within, frame-sizes, point-sizes              bounds for all five numbers
--   in-proportion            two points whose numbers are in proportion are equal
-- Assumes nothing.
use Rattle.std.specs.Prelude.{◌≡◌, ◌⊎◌, ◌↔◌, Bool, true, ◌&&◌, ◌||◌, List, [], ◌∷◌, ℕ, ◌<◌, eqb, ℤ, pos, neg_ℤ, nat_abs, ◌*ℤ◌, ◌≤ℤ◌, ◌<ℤ◌}
use Rattle.std.proofs.Common.{sym, ◌∙◌, ap, subst, inl, inr, arith, leb→le, lt→ltb}
use Rattle.std.specs.Int.{◌∣◌}
use Rattle.std.proofs.Math.IntN.{*ℤ_comm}
use Rattle.std.specs.Int.Signed.{lt_z}
use Rattle.whole.specs.Ring.{at}
use Rattle.whole.specs.Order.{nn-pos, pp-dest, ≤_trans, ≤-<-trans, <-≤-trans, ≤-of, ≤-neg, <-≤}
use Rattle.whole.specs.Cert.{pp-cancel, mul-cancel, <-cancel, zero-cancel}
use Rattle.whole.specs.Sign.{sgn}
use Rattle.whole.specs.SignLaws.{sgn-mul-pos}
use Rattle.whole.specs.Within.{Within}
use Rattle.whole.specs.Bound.{w-is, w-intro, w-upper, w-lower, w-pos, w-lit, w-quot, nat_abs_mul}
use Rattle.whole.specs.Flag.{eq_z}
use Rattle.whole.specs.Divisor.{DividesAll, none, ◌also◌}
use Rattle.whole.specs.DivisorLaws.{gcd_of-is, gcd_of-above, over-back, over-one, same_numbers}
use Rattle.sheet.specs.declared.Point.{Point}
use Rattle.sheet.specs.Points.{numbers, divisor, divided, size, standard, edge, in_square, narrow, frame, is_point}
use Rattle.sheet.specs.PointFacts.{Denominator, Narrow, Standard, OnEdge, BetweenEdges, inner, on, beside, Frame, APoint, a_standard, a_frame}
use Rattle.sheet.specs.PointSizes.{PointSizes}
use Rattle.sheet.specs.Flags.{both, either, eqb_is, flags}
use Rattle.sheet.specs.AnswersLaws.{point-one}

-- ---- the common divisor goes out

-- each number of p is c times that of q
pub record Times (c : ℤ) (p q : Point) : Type 0 where
  pub mx : p.mx ≡ c *ℤ q.mx
  pub nx : p.nx ≡ c *ℤ q.nx
  pub my : p.my ≡ c *ℤ q.my
  pub ny : p.ny ≡ c *ℤ q.ny
  pub w : p.w ≡ c *ℤ q.w

pub divided-back : (p : Point) → Times (pos (divisor p)) p (divided p)
unfolding divided
divided-back p =
    let e = sym (over-back (numbers p)) in
    record {
      mx = ap (λ (zs : List ℤ). at zs 0) e;
      nx = ap (λ (zs : List ℤ). at zs 1) e;
      my = ap (λ (zs : List ℤ). at zs 2) e;
      ny = ap (λ (zs : List ℤ). at zs 3) e;
      w = ap (λ (zs : List ℤ). at zs 4) e;
    }

fifth : {g : ℕ} {a b c d e : ℤ} → DividesAll g (a ∷ b ∷ c ∷ d ∷ e ∷ []) → g ∣ nat_abs e
fifth (ha also hb also hc also hd also he also none) = he

pub divides-w : (p : Point) → divisor p ∣ nat_abs p.w
divides-w p = fifth (gcd_of-is (numbers p)).each

module _ (p : Point) (h : pos 0 <ℤ p.w) where
  above : 0 < divisor p
  above = gcd_of-above (numbers p) p.w (divides-w p) size_above
    where
      size_above : 0 < nat_abs p.w
      size_above = let d = pp-dest h in let e = ap nat_abs d.1 in omega arith

  pub divisor-above : pos 0 <ℤ pos (divisor p)
  divisor-above = record { lt = lt→ltb 0 (divisor p) above }

  pub divided-above : pos 0 <ℤ (divided p).w
  divided-above = pp-cancel (nn-pos (divisor p)) (subst (λ (z : ℤ). pos 0 <ℤ z) (divided-back p).w h)

  pub divided-one : divisor (divided p) ≡ 1
  unfolding divided
  divided-one = over-one (numbers p) above

-- ---- the facts behind the definitions

pub reduced : {p : Point} → APoint p → divisor p ≡ 1
reduced (a_standard s e) = e
reduced (a_frame s e) = e

-- ---- each definition is true exactly where they hold

denominator-of : {n : ℕ} {w : ℤ} → pos 0 <ℤ w → w ≤ℤ pos n → Denominator n w
denominator-of {n} h k = record { above = h; at_most = w-intro (≤_trans (≤-neg (nn-pos n)) (<-≤ h)) k }

pub narrow-is : (p : Point) → (narrow p ≡ true) ↔ Narrow p
unfolding narrow
narrow-is p = (to, from)
  where
    to : narrow p ≡ true → Narrow p
    to h =
        let f = simp flags at h in
        record {
          in-w = denominator-of f.0.0.0 f.0.0.1;
          in_nx = w-intro f.0.1.0 f.0.1.1;
          in_ny = w-intro f.1.0 f.1.1;
        }

    from : Narrow p → narrow p ≡ true
    from s =
        simp flags
        (((s.in-w.above, w-upper s.in-w.at_most), (w-lower s.in_nx, w-upper s.in_nx)), (w-lower s.in_ny, w-upper s.in_ny))

pub standard-is : (p : Point) → (standard p ≡ true) ↔ Standard p
unfolding standard
standard-is p = (to, from)
  where
    to : standard p ≡ true → Standard p
    to h =
        let f = simp flags at h in
        record {
          no_mx = f.0.0.0.0;
          no_my = f.0.0.0.1;
          in-w = denominator-of f.0.0.1.0 f.0.0.1.1;
          in_nx = w-intro f.0.1.0 f.0.1.1;
          in_ny = w-intro f.1.0 f.1.1;
        }

    from : Standard p → standard p ≡ true
    from s =
        simp flags (
          (((s.no_mx, s.no_my), (s.in-w.above, w-upper s.in-w.at_most)), (w-lower s.in_nx, w-upper s.in_nx)),
          (w-lower s.in_ny, w-upper s.in_ny),
        )

pub edge-is : (m n w : ℤ) → (edge m n w ≡ true) ↔ OnEdge m n w
edge-is m n w = (λ h. let f = simp flags at h in record { full = f.0; even = f.1 }, λ s. simp flags (s.full, s.even))

pub in-square-is : (m n w : ℤ) → (in_square m n w ≡ true) ↔ BetweenEdges m n w
in-square-is m n w = (λ h. to (simp flags at h), from)
  where
    to-n : size m ≡ w → (eq_z n (pos 0) ≡ true) ⊎ (eq_z (sgn n) (neg_ℤ (sgn m)) ≡ true) → BetweenEdges m n w
    to-n e (inl h) = on e (simp flags at h)
    to-n e (inr h) = beside e (simp flags at h)

    to : (lt_z (size m) w ≡ true) ⊎ ((eq_z (size m) w && (eq_z n (pos 0) || eq_z (sgn n) (neg_ℤ (sgn m)))) ≡ true) → BetweenEdges m n w
    to (inl h) = inner (simp flags at h)
    to (inr h) = let f = simp flags at h in to-n f.0 f.1

    from : BetweenEdges m n w → in_square m n w ≡ true
    from (inner h) = simp flags (inl (simp flags h))
    from (on h k) = simp flags (inr (simp flags (h, inl (simp flags k))))
    from (beside h k) = simp flags (inr (simp flags (h, inr (simp flags k))))

pub all-four : (a b c d : Bool) → ((a && b && c && d) ≡ true) ↔ ((a ≡ true) × (b ≡ true) × (c ≡ true) × (d ≡ true))
all-four a b c d = (λ h. let f = simp both at h in (f.0.0.0, f.0.0.1, f.0.1, f.1), λ f. simp both (((f.0, f.1), f.2), f.3))

sum_of : {A B A' B' : Type 0} → (A → A') → (B → B') → A ⊎ B → A' ⊎ B'
sum_of f g (inl a) = inl (f a)
sum_of f g (inr b) = inr (g b)

pub frame_is : (p : Point) → (frame p ≡ true) ↔ Frame p
unfolding frame
frame_is p =
    let ex = edge-is p.mx p.nx p.w in
    let ey = edge-is p.my p.ny p.w in
    let on = either (edge p.mx p.nx p.w) (edge p.my p.ny p.w) in
    let ix = in-square-is p.mx p.nx p.w in
    let iy = in-square-is p.my p.ny p.w in
    let parts =
    all-four (narrow p) (edge p.mx p.nx p.w || edge p.my p.ny p.w)
    (in_square p.mx p.nx p.w) (in_square p.my p.ny p.w) in (
      λ h.
          let f = parts.0 h in
          record {
            slim = (narrow-is p).0 f.0;
            on_edge = sum_of ex.0 ey.0 (on.0 f.1);
            in_x = ix.0 f.2;
            in_y = iy.0 f.3;
          },
      λ s. parts.1 ((narrow-is p).1 s.slim, on.1 (sum_of ex.1 ey.1 s.on_edge), ix.1 s.in_x, iy.1 s.in_y),
    )

pub point-is : (p : Point) → (is_point p ≡ true) ↔ APoint p
unfolding is_point
point-is p =
    let parts = both (standard p || frame p) (eqb (divisor p) 1) in
    let which = either (standard p) (frame p) in
    let one = eqb_is (divisor p) 1 in
    (λ h. to (which.0 (parts.0 h).0) (one.0 (parts.0 h).1), λ a. parts.1 (which.1 (from a), one.1 (reduced a)))
  where
    to : (standard p ≡ true) ⊎ (frame p ≡ true) → divisor p ≡ 1 → APoint p
    to (inl h) e = a_standard ((standard-is p).0 h) e
    to (inr h) e = a_frame ((frame_is p).0 h) e

    from : APoint p → (standard p ≡ true) ⊎ (frame p ≡ true)
    from (a_standard s e) = inl ((standard-is p).1 s)
    from (a_frame s e) = inr ((frame_is p).1 s)

-- ---- the frame facts survive the division

module _ (g : ℕ) (h : pos 0 <ℤ pos g) where
  size-times : {m : ℤ} (m' : ℤ) → m ≡ pos g *ℤ m' → size m ≡ pos g *ℤ size m'
  size-times m' e = ap size e ∙ ap pos (nat_abs_mul (pos g) m')

  sgn-times : {m : ℤ} (m' : ℤ) → m ≡ pos g *ℤ m' → sgn m ≡ sgn m'
  sgn-times m' e = ap sgn (e ∙ *ℤ_comm (pos g) m') ∙ sgn-mul-pos m' (pos g) h

  zero-times : {n n' : ℤ} → n ≡ pos g *ℤ n' → n ≡ pos 0 → n' ≡ pos 0
  zero-times e z = zero-cancel (pos g) h (sym e ∙ z)

  full-times : {m w : ℤ} (m' w' : ℤ) → m ≡ pos g *ℤ m' → w ≡ pos g *ℤ w' → size m ≡ w → size m' ≡ w'
  full-times m' w' em ew e = mul-cancel (pos g) h (sym (size-times m' em) ∙ e ∙ ew)

  module _ {m n w m' n' w' : ℤ} (em : m ≡ pos g *ℤ m') (en : n ≡ pos g *ℤ n') (ew : w ≡ pos g *ℤ w') where
    square-times : BetweenEdges m n w → BetweenEdges m' n' w'
    square-times (inner l) = inner (<-cancel (pos g) h (≤-<-trans (≤-of (sym (size-times m' em))) (<-≤-trans l (≤-of ew))))
    square-times (on e z) = on (full-times m' w' em ew e) (zero-times en z)
    square-times (beside e z) = beside (full-times m' w' em ew e) (sym (sgn-times n' en) ∙ z ∙ ap neg_ℤ (sgn-times m' em))

    edge-times : OnEdge m n w → OnEdge m' n' w'
    edge-times o = record { full = full-times m' w' em ew o.full; even = zero-times en o.even }

pub denominator-divided : {n : ℕ} (p : Point) → Denominator n p.w → Denominator n (divided p).w
unfolding divided
denominator-divided p u = record { above = divided-above p u.above; at_most = w-quot (pos (divisor p)) u.at_most }

pub narrow-divided : {p : Point} → Narrow p → Narrow (divided p)
unfolding divided
narrow-divided {p} s = record {
  in-w = denominator-divided p s.in-w;
  in_nx = w-quot (pos (divisor p)) s.in_nx;
  in_ny = w-quot (pos (divisor p)) s.in_ny;
}

pub frame-divided : {p : Point} → Frame p → Frame (divided p)
frame-divided {p} f =
    let h = divisor-above p f.slim.in-w.above in
    let b = divided-back p in
    record {
      slim = narrow-divided f.slim;
      on_edge = sum_of (edge-times (divisor p) h b.mx b.nx b.w) (edge-times (divisor p) h b.my b.ny b.w) f.on_edge;
      in_x = square-times (divisor p) h b.mx b.nx b.w f.in_x;
      in_y = square-times (divisor p) h b.my b.ny b.w f.in_y;
    }

pub standard-divided : {p : Point} → Standard p → Standard (divided p)
unfolding divided
standard-divided {p} s =
    let h = divisor-above p s.in-w.above in
    let b = divided-back p in
    record {
      no_mx = zero-times (divisor p) h b.mx s.no_mx;
      no_my = zero-times (divisor p) h b.my s.no_my;
      in-w = denominator-divided p s.in-w;
      in_nx = w-quot (pos (divisor p)) s.in_nx;
      in_ny = w-quot (pos (divisor p)) s.in_ny;
    }

-- ---- bounds for all five numbers

pub square-within : {k : ℕ} {m n w : ℤ} → BetweenEdges m n w → Within k w → Within k m
square-within {k} {m} s h = record { within = leb→le (nat_abs m) k (go s h).le }
  where
    go : {n w : ℤ} → BetweenEdges m n w → Within k w → size m ≤ℤ pos k
    go (inner l) h = ≤_trans (<-≤ l) (w-upper h)
    go (on e z) h = ≤_trans (≤-of e) (w-upper h)
    go (beside e z) h = ≤_trans (≤-of e) (w-upper h)

pub frame-sizes : {p : Point} → Frame p → PointSizes p
frame-sizes f = record {
  in_mx = square-within f.in_x f.slim.in-w.at_most;
  in_nx = w-lit f.slim.in_nx tt;
  in_my = square-within f.in_y f.slim.in-w.at_most;
  in_ny = w-lit f.slim.in_ny tt;
  in-w = record { above = f.slim.in-w.above; at_most = w-lit f.slim.in-w.at_most tt };
}

pub point-sizes : {p : Point} → APoint p → PointSizes p
point-sizes (a_standard s e) = record {
  in_mx = w-is s.no_mx (w-lit (w-pos 0) tt);
  in_nx = s.in_nx;
  in_my = w-is s.no_my (w-lit (w-pos 0) tt);
  in_ny = s.in_ny;
  in-w = s.in-w;
}
point-sizes (a_frame f e) = frame-sizes f

-- ---- in proportion, and the divisors 1

pub in-proportion : {p q : Point} → APoint p → APoint q → q.w *ℤ p.mx ≡ p.w *ℤ q.mx → q.w *ℤ p.nx ≡ p.w *ℤ q.nx
    → q.w *ℤ p.my ≡ p.w *ℤ q.my → q.w *ℤ p.ny ≡ p.w *ℤ q.ny → p ≡ q
in-proportion {p} {q} a b mx nx my ny =
    point-one p q
    (same_numbers p.w q.w (numbers p) (numbers q) (point-sizes a).in-w.above (point-sizes b).in-w.above (reduced a) (reduced b)
    (λ i. mx i ∷ nx i ∷ my i ∷ ny i ∷ *ℤ_comm q.w p.w i ∷ [])).1

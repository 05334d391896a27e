-- What `is_left` says of the places of two points, and its order. To cite, for every R above 256,000,008,000,000:
--   left_less        p is left of q exactly when the x of its place is less
--   not-left-most    it is not exactly when the x of q is at most that of p
-- of points p, q, s, and of no R:
--   left-self, left_not                             p is not left of itself;  q is not left of what is left of it
--   most-trans, less-most-trans, most-less-trans    p at most q at most s;  p left of q at most s;  p at most q left of s
--   left-end-fine, right-end-fine                   the left end and the right end of an object are points, and narrow
-- of a number:
--   sign_below       its sign is below 0 exactly when it is
use Rattle.std.specs.Prelude.{◌≡◌, refl, Bool, true, false, ◌↔◌, zero, suc, ℤ, pos, negsuc, ◌<ℤ◌}
use Rattle.std.proofs.Math.Path.{sym, ap}
use Rattle.std.proofs.Common.{◌∙◌, true≢false}
use Rattle.std.specs.Int.Signed.{lt_z, ≤ℤ_refl, lt_z_yes}
use Rattle.whole.specs.Order.{le-cert, le-nn, nn-pos, <-≤}
use Rattle.whole.specs.Sign.{sgn}
use Rattle.whole.specs.Tests.{lt_z-true, lt_z-false, lt-lt_z, le-lt_z, cond-by}
use Rattle.whole.specs.Fraction.{Fraction, AtMost, Less}
use Rattle.whole.specs.FractionLaws.{at-most-trans, less-at-most-trans, apart, less-apart}
use Rattle.sheet.specs.declared.Object.{Object}
use Rattle.sheet.specs.declared.Point.{Point}
use Rattle.sheet.specs.Refusal.{Accepted}
use Rattle.sheet.specs.PointFacts.{APoint}
use Rattle.sheet.specs.PointsLaws.{point-sizes}
use Rattle.sheet.specs.Ends.{first_end, last_end}
use Rattle.sheet.proofs.EndsLaws.{Fine, first-end-fine, last-end-fine}
use Rattle.sheet.specs.Expansions.{order-in-x}
use Rattle.sheet.specs.Extent.{is_left, left_end, right_end}
use Rattle.cut.specs.Bounds.{order_need}
use Rattle.cut.specs.Place.{put}
use Rattle.cut.proofs.Coordinate.{x-of, coordinate-at}

-- ---- by the places at R

pub sign_below : (z : ℤ) → lt_z (sgn z) (pos 0) ≡ lt_z z (pos 0)
unfolding sgn
sign_below (pos zero) = refl
sign_below (pos (suc n)) = sym (le-lt_z (nn-pos (suc n)))
sign_below (negsuc n) = refl

module _ {R : ℤ} (h_r : pos order_need <ℤ R) {p q : Point} (a : APoint p) (b : APoint q) (h : pos 0 <ℤ p.w) (k : pos 0 <ℤ q.w) where
  abbrev first : Fraction
  first = (put R p h).across

  abbrev second : Fraction
  second = (put R q k).across

  -- left of: the difference of the two x at R is below 0
  left-flag : is_left p q ≡ lt_z (apart first second) (pos 0)
  unfolding is_left
  left-flag =
      ap (λ (z : ℤ). lt_z z (pos 0))
      (order-in-x p q ∙ sym (coordinate-at h_r p.mx p.nx p.w q.mx q.nx q.w (x-of a) (x-of b)))
      ∙ sign_below (apart first second)

  pub left_less : (is_left p q ≡ true) ↔ Less first second
  left_less = (λ e. (less-apart first second).1 (lt_z-true (sym left-flag ∙ e)), λ l. left-flag ∙ lt-lt_z ((less-apart first second).0 l))

  pub not-left-most : (is_left p q ≡ false) ↔ AtMost second first
  not-left-most = (
    λ e. record { at_most = le-cert _ (lt_z-false (sym left-flag ∙ e)) refl },
    λ m. left-flag ∙ le-lt_z (le-nn m.at_most),
  )

-- ---- the order of points, through their x at one R

abbrev x : {p : Point} → APoint p → Fraction
x {p} a = (put (pos 1000000000000000) p (point-sizes a).in-w.above).across

less-x : {p q : Point} (a : APoint p) (b : APoint q) → (is_left p q ≡ true) ↔ Less (x a) (x b)
less-x a b = left_less (lt_z_yes tt) a b (point-sizes a).in-w.above (point-sizes b).in-w.above

most-x : {p q : Point} (a : APoint p) (b : APoint q) → (is_left q p ≡ false) ↔ AtMost (x a) (x b)
most-x a b = not-left-most (lt_z_yes tt) b a (point-sizes b).in-w.above (point-sizes a).in-w.above

pub left-self : {p : Point} → APoint p → is_left p p ≡ false
left-self a = (most-x a a).1 (record { at_most = ≤ℤ_refl _ })

pub left_not : {p q : Point} → APoint p → APoint q → is_left p q ≡ true → is_left q p ≡ false
left_not a b l = (most-x a b).1 (record { at_most = <-≤ ((less-x a b).0 l).less })

module _ {p q s : Point} (a : APoint p) (b : APoint q) (c : APoint s) where
  pub most-trans : is_left q p ≡ false → is_left s q ≡ false → is_left s p ≡ false
  most-trans h k = (most-x a c).1 (at-most-trans ((most-x a b).0 h) ((most-x b c).0 k))

  pub less-most-trans : is_left p q ≡ true → is_left s q ≡ false → is_left p s ≡ true
  less-most-trans h k = (less-x a c).1 (less-at-most-trans ((less-x a b).0 h) ((most-x b c).0 k))

-- else s is at most p, and so at most q
pub most-less-trans : {p q s : Point} → APoint p → APoint q → APoint s → is_left q p ≡ false → is_left q s ≡ true → is_left p s ≡ true
most-less-trans {p} {q} {s} a b c h k = go (is_left p s) refl
  where
    go : (t : Bool) → is_left p s ≡ t → is_left p s ≡ true
    go true e = e
    go false e = absurd (true≢false (sym k ∙ most-trans c a b e h))

-- ---- the two ends of an extent

pub left-end-fine : {o : Object} → Accepted o → Fine (left_end o)
unfolding left_end
left-end-fine {o} a = cond-by Fine (is_left (last_end o) (first_end o)) (λ _. last-end-fine a) (λ _. first-end-fine a)

pub right-end-fine : {o : Object} → Accepted o → Fine (right_end o)
unfolding right_end
right-end-fine {o} a = cond-by Fine (is_left (last_end o) (first_end o)) (λ _. first-end-fine a) (λ _. last-end-fine a)

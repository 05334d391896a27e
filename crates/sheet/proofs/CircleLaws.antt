-- The side of circle: its determinant at R, and which points are taken. To cite:
--   Over, over_at, minor_z, circle_z, circle-value   the value at R is the determinant of whole numbers, of w, X and Y of each point
--   circle-swap-first, circle-swap-middle, circle-swap-last   changing over two neighbours negates the sign
--   circle-repeats                         where two of the four points are equal it is 0
--   given_is, given_place, given-small      a given point: where the definition is true; its place, and how large that is
--   given-taken                            it is not refused as a point
--   not-given                              a fourth point that is no given one is one of the frame
--   circle-points, Four, circle-taken      what four points are that are not refused
--   refusal-swap-first, refusal-swap-middle   changing over two of the first three keeps the refusal
-- Assumes nothing.
use Rattle.std.specs.Prelude.{◌≡◌, Bool, cond, ◌&&◌, ◌||◌, [], ◌∷◌, zero, suc, ℤ, pos, negsuc, ◌+ℤ◌, ◌-ℤ◌, ◌*ℤ◌}
use Rattle.std.proofs.Math.Path.{refl, ap}
use Rattle.std.proofs.Common.{sym, ◌∙◌, true≢false, arith}
use Rattle.std.proofs.Math.Bool.{true, false, not}
use Rattle.std.proofs.Math.IntN.{neg_ℤ, neg_ℤ-neg_ℤ, pos-ne-negsuc}
use Rattle.whole.specs.Reify.{reify, reading, solve}
use Rattle.whole.specs.Bound.{w-intro}
use Rattle.whole.specs.Poly.{Poly, value, ◌⊞◌, ◌⊠◌}
use Rattle.whole.specs.PolyLaws.{value-one, value-two, value-sum, value-opposite, value-product}
use Rattle.whole.specs.Lead.{leading-opposed}
use Rattle.sheet.specs.declared.Point.{Point}
use Rattle.sheet.specs.Figure.{Vec}
use Rattle.sheet.specs.Flags.{flags}
use Rattle.sheet.specs.Points.{X, Y, W, standard, is_point, point_refusal, given}
use Rattle.sheet.specs.PointFacts.{Frame, APoint, a_standard, a_frame}
use Rattle.sheet.specs.PointsLaws.{all-four, standard-is, point-is}
use Rattle.sheet.proofs.RefusalLaws.{WithinBoth}
use Rattle.sheet.proofs.EndsLaws.{given-fine}
use Rattle.whole.specs.Choice.{or_else}
use Rattle.whole.specs.ChoiceLaws.{or-zero}
use Rattle.sheet.specs.AcceptsLaws.{passed, point-taken}
use Rattle.sheet.specs.Coefficients.{det}
use Rattle.sheet.specs.Circle.{Column, four_by_four, circle_poly, side_of_circle, is_given, given_refusal, circle_refusal, Repeats, first_second, first_third, first_fourth, second_third, second_fourth, third_fourth}
use Rattle.sheet.specs.CirclePoints.{Given, Fourth, a_given, on_frame}

-- ---- the value at R

-- a place x/w, y/w by its whole numbers
pub record Over : Type 0 where
  pub w : ℤ
  pub x : ℤ
  pub y : ℤ

abbrev pub over_at : ℤ → Point → Over
over_at R p = record { w = p.w; x = p.mx *ℤ R +ℤ p.nx; y = p.my *ℤ R +ℤ p.ny }

abbrev square_z : Over → ℤ
square_z a = a.x *ℤ a.x +ℤ a.y *ℤ a.y

abbrev pub minor_z : Over → Over → Over → ℤ
minor_z a b c =
    det (a.w *ℤ a.w) (a.w *ℤ a.x) (a.w *ℤ a.y) (b.w *ℤ b.w) (b.w *ℤ b.x) (b.w *ℤ b.y) (c.w *ℤ c.w) (c.w *ℤ c.x) (c.w *ℤ c.y)

abbrev pub circle_z : Over → Over → Over → Over → ℤ
circle_z a b c d =
    square_z d *ℤ minor_z a b c -ℤ square_z c *ℤ minor_z a b d +ℤ square_z b *ℤ minor_z a c d -ℤ square_z a *ℤ minor_z b c d

-- the column of any three polynomials, and their values
abbrev column_of : Poly → Poly → Poly → Column
column_of w x y = record { one = w ⊠ w; x = w ⊠ x; y = w ⊠ y; square = x ⊠ x ⊞ y ⊠ y }

abbrev values_of : ℤ → Poly → Poly → Poly → Over
values_of R w x y = record { w = value w R; x = value x R; y = value y R }

four-by-four-value : (w1 x1 y1 w2 x2 y2 w3 x3 y3 w4 x4 y4 : Poly) (R : ℤ)
    → value (four_by_four (column_of w1 x1 y1) (column_of w2 x2 y2) (column_of w3 x3 y3) (column_of w4 x4 y4)) R
    ≡ circle_z (values_of R w1 x1 y1) (values_of R w2 x2 y2) (values_of R w3 x3 y3) (values_of R w4 x4 y4)
four-by-four-value w1 x1 y1 w2 x2 y2 w3 x3 y3 w4 x4 y4 R = simp (value-sum, value-opposite, value-product)

values-at : (R : ℤ) (p : Point) → values_of R (W p) (X p) (Y p) ≡ over_at R p
values-at R p = λ i. record { w = value-one R p.w i; x = value-two R p.mx p.nx i; y = value-two R p.my p.ny i }

pub circle-value : (R : ℤ) (p q s u : Point) → value (circle_poly p q s u) R ≡ circle_z (over_at R p) (over_at R q) (over_at R s) (over_at R u)
unfolding circle_poly
circle-value R p q s u =
    four-by-four-value (W p) (X p) (Y p) (W q) (X q) (Y q) (W s) (X s) (Y s) (W u) (X u) (Y u) R
    ∙ (λ i. circle_z (values-at R p i) (values-at R q i) (values-at R s i) (values-at R u i))

-- ---- two columns changed over, and two equal ones

swap-first : (a b c d : Over) → circle_z b a c d ≡ neg_ℤ (circle_z a b c d)
swap-first a b c d =
    reify (a.w ∷ a.x ∷ a.y ∷ b.w ∷ b.x ∷ b.y ∷ c.w ∷ c.x ∷ c.y ∷ d.w ∷ d.x ∷ d.y ∷ [])
    (λ ρ v. simp (reading, v 0, v 1, v 2, v 3, v 4, v 5, v 6, v 7, v 8, v 9, v 10, v 11) (solve _ _ _ tt))

swap-middle : (a b c d : Over) → circle_z a c b d ≡ neg_ℤ (circle_z a b c d)
swap-middle a b c d =
    reify (a.w ∷ a.x ∷ a.y ∷ b.w ∷ b.x ∷ b.y ∷ c.w ∷ c.x ∷ c.y ∷ d.w ∷ d.x ∷ d.y ∷ [])
    (λ ρ v. simp (reading, v 0, v 1, v 2, v 3, v 4, v 5, v 6, v 7, v 8, v 9, v 10, v 11) (solve _ _ _ tt))

swap-last : (a b c d : Over) → circle_z a b d c ≡ neg_ℤ (circle_z a b c d)
swap-last a b c d =
    reify (a.w ∷ a.x ∷ a.y ∷ b.w ∷ b.x ∷ b.y ∷ c.w ∷ c.x ∷ c.y ∷ d.w ∷ d.x ∷ d.y ∷ [])
    (λ ρ v. simp (reading, v 0, v 1, v 2, v 3, v 4, v 5, v 6, v 7, v 8, v 9, v 10, v 11) (solve _ _ _ tt))

module _ (p q s u : Point) where
  pub circle-swap-first : side_of_circle q p s u ≡ neg_ℤ (side_of_circle p q s u)
  unfolding side_of_circle
  circle-swap-first =
      leading-opposed (circle_poly p q s u) (circle_poly q p s u)
      (λ R. circle-value R q p s u ∙ swap-first (over_at R p) (over_at R q) (over_at R s) (over_at R u) ∙ ap neg_ℤ (sym (circle-value R p q s u)))

  pub circle-swap-middle : side_of_circle p s q u ≡ neg_ℤ (side_of_circle p q s u)
  unfolding side_of_circle
  circle-swap-middle =
      leading-opposed (circle_poly p q s u) (circle_poly p s q u)
      (λ R. circle-value R p s q u ∙ swap-middle (over_at R p) (over_at R q) (over_at R s) (over_at R u) ∙ ap neg_ℤ (sym (circle-value R p q s u)))

  pub circle-swap-last : side_of_circle p q u s ≡ neg_ℤ (side_of_circle p q s u)
  unfolding side_of_circle
  circle-swap-last =
      leading-opposed (circle_poly p q s u) (circle_poly p q u s)
      (λ R. circle-value R p q u s ∙ swap-last (over_at R p) (over_at R q) (over_at R s) (over_at R u) ∙ ap neg_ℤ (sym (circle-value R p q s u)))

-- a number that is its own opposite
self-opposite : {z : ℤ} → z ≡ neg_ℤ z → z ≡ pos 0
self-opposite {z = pos zero} e = refl
self-opposite {z = pos (suc n)} e = absurd (pos-ne-negsuc (suc n) n e)
self-opposite {z = negsuc n} e = absurd (pos-ne-negsuc (suc n) n (sym e))

from-opposite : {a b : ℤ} → a ≡ neg_ℤ b → a ≡ pos 0 → b ≡ pos 0
from-opposite {b = b} e z = sym (neg_ℤ-neg_ℤ b) ∙ ap neg_ℤ (sym e ∙ z)

twice-middle : (p q s u : Point) → q ≡ s → side_of_circle p q s u ≡ pos 0
twice-middle p q s u e = self-opposite ((λ i. side_of_circle p (e i) (sym e i) u) ∙ circle-swap-middle p q s u)

twice-last : (p q s u : Point) → s ≡ u → side_of_circle p q s u ≡ pos 0
twice-last p q s u e = self-opposite ((λ i. side_of_circle p q (e i) (sym e i)) ∙ circle-swap-last p q s u)

pub circle-repeats : (p q s u : Point) → Repeats p q s u → side_of_circle p q s u ≡ pos 0
circle-repeats p q s u (first_second e) = self-opposite ((λ i. side_of_circle (e i) (sym e i) s u) ∙ circle-swap-first p q s u)
circle-repeats p q s u (first_third e) = from-opposite (circle-swap-first p q s u) (twice-middle q p s u e)
circle-repeats p q s u (first_fourth e) = from-opposite (circle-swap-first p q s u) (from-opposite (circle-swap-middle q p s u) (twice-last q s p u e))
circle-repeats p q s u (second_third e) = twice-middle p q s u e
circle-repeats p q s u (second_fourth e) = from-opposite (circle-swap-middle p q s u) (twice-last p s q u e)
circle-repeats p q s u (third_fourth e) = twice-last p q s u e

-- ---- which points are taken

pub given_is : (p : Point) → is_given p ≡ true → Given p
unfolding is_given
given_is p h =
    let f = simp flags at h in
    let s = (standard-is p).0 f.0.0.0 in
    record { no_mx = s.no_mx; no_my = s.no_my; one = f.0.0.1; in_nx = w-intro f.0.1.0 f.0.1.1; in_ny = w-intro f.1.0 f.1.1 }

abbrev pub given_place : Point → Vec
given_place p = record { x = p.nx; y = p.ny }

pub given-small : {p : Point} → Given p → WithinBoth 2000 (given_place p)
given-small g = record { in_x = g.in_nx; in_y = g.in_ny }

given-same : {p : Point} → Given p → p ≡ given (given_place p)
given-same {p} g = λ i. record { mx = g.no_mx i; nx = p.nx; my = g.no_my i; ny = p.ny; w = g.one i }

-- a given point is a point
pub given-taken : (p : Point) → is_given p ≡ true → point_refusal p ≡ pos 0
unfolding point_refusal
given-taken p h =
    let g = given_is p h in
    ap (λ (t : Bool). cond t (pos 0) (pos 5)) (ap is_point (given-same g) ∙ (point-is (given (given_place p))).1 (given-fine (given-small g)).point)

pub not-given : {u : Point} → Fourth u → is_given u ≡ false → Frame u
not-given (a_given g) e = absurd (true≢false (sym g ∙ e))
not-given (on_frame f) e = f

pub record Four (p q s u : Point) : Type 0 where
  pub first : Given p
  pub second : Given q
  pub third : Given s
  pub fourth : Fourth u

pub circle-points : (p q s u : Point) → circle_refusal p q s u ≡ pos 0
    → (is_point p ≡ true) × (is_point q ≡ true) × (is_point s ≡ true) × (is_point u ≡ true) × (given_refusal p q s u ≡ pos 0)
unfolding circle_refusal
circle-points p q s u h =
    let a = or-zero (point_refusal p) _ h in
    let b = or-zero (point_refusal q) _ a.1 in
    let c = or-zero (point_refusal s) _ b.1 in
    let d = or-zero (point_refusal u) (given_refusal p q s u) c.1 in
    (point-taken p a.0, point-taken q b.0, point-taken s c.0, point-taken u d.0, d.1)

pub circle-taken : (p q s u : Point) → circle_refusal p q s u ≡ pos 0 → Four p q s u
unfolding given_refusal
circle-taken p q s u h =
    let i = circle-points p q s u h in
    let t = is_given u || not (standard u) in
    let f = (all-four (is_given p) (is_given q) (is_given s) t).0 (passed (is_given p && is_given q && is_given s && t) {n = 21} (λ e. omega arith) i.4) in
    record {
      first = given_is p f.0;
      second = given_is q f.1;
      third = given_is s f.2;
      fourth = last ((point-is u).0 i.3) f.3;
    }
  where
    or-not : (b c : Bool) → c ≡ true → b || not c ≡ true → b ≡ true
    or-not true c e h = refl
    or-not false c e h = sym (ap not e) ∙ h

    last : APoint u → is_given u || not (standard u) ≡ true → Fourth u
    last (a_frame f e) k = on_frame f
    last (a_standard s e) k = a_given (or-not (is_given u) (standard u) ((standard-is u).1 s) k)

-- ---- changing over two of the first three keeps the refusal

five-swap : (a b : Bool) (n : ℤ)
    → or_else (cond b (pos 0) (pos 5)) (or_else (cond a (pos 0) (pos 5)) n) ≡ or_else (cond a (pos 0) (pos 5)) (or_else (cond b (pos 0) (pos 5)) n)
five-swap true true n = refl
five-swap true false n = refl
five-swap false true n = refl
five-swap false false n = refl

and-swap : (a b : Bool) → b && a ≡ a && b
and-swap true true = refl
and-swap true false = refl
and-swap false true = refl
and-swap false false = refl

module _ (p q s u : Point) where
  -- the refusal, by whether 21 is none
  abbrev by_flag : Bool → ℤ
  by_flag t = or_else (point_refusal p) (or_else (point_refusal q) (or_else (point_refusal s) (or_else (point_refusal u) (cond t (pos 0) (pos 21)))))

  pub refusal-swap-first : circle_refusal q p s u ≡ circle_refusal p q s u
  unfolding circle_refusal given_refusal point_refusal
  refusal-swap-first =
      five-swap (is_point p) (is_point q) _
      ∙ ap (λ (t : Bool). by_flag (t && is_given s && (is_given u || not (standard u)))) (and-swap (is_given p) (is_given q))

  pub refusal-swap-middle : circle_refusal p s q u ≡ circle_refusal p q s u
  unfolding circle_refusal given_refusal point_refusal
  refusal-swap-middle =
      ap (or_else (point_refusal p)) (five-swap (is_point q) (is_point s) _)
      ∙ ap (λ (t : Bool). by_flag (t && (is_given u || not (standard u)))) (last-two (is_given p) (is_given q) (is_given s))
    where
      last-two : (a b c : Bool) → a && c && b ≡ a && b && c
      last-two true b c = and-swap b c
      last-two false b c = refl

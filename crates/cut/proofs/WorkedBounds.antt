-- How small a frame may be: accepted objects and points, what our answer to them is, and an R at which the cut pieces say something else. Of
-- side and order this R is the need of `Bounds` itself: above it the law holds. `demand/specs/WorkedBounds` has it of the code. To cite:
--   ends-..       at 3,999,999 an end is outside of the square
--   meet-..      at 4,000,000 it is in a corner, and on a side more than it should
--   crossing-..   at 63,968,005,999 the point that two lines share is outside of the square
--   side-..       at 64,000,000,000 a point is on the line of a side, and not left of it
--   order-..      at 256,000,008,000,000 two points have one x, and the second is lower
--   turn-..       at 1,023,871,872,008,004,000, so turn cannot have the smaller bound, three points are on one line
--   circle-..     at 31,960,016,000 the far end of a ray is on the circle through three given points
-- of which accepted, what we answer (ours), and what is so at that R (ordinary, outside, not-before)
use Rattle.std.specs.Prelude.{◌≡◌, refl, ℤ, pos, ◌*ℤ◌, ◌≤ℤ◌, ◌<ℤ◌}
use Rattle.std.specs.Int.Signed.{lt_z_yes, le_z_yes}
use Rattle.whole.specs.Sign.{sgn}
use Rattle.whole.specs.Divisor.{steps, gcd, gcd_of}
use Rattle.sheet.specs.declared.Object.{Object}
use Rattle.sheet.specs.declared.Point.{Point}
use Rattle.sheet.specs.Figure.{Vec, Side, left, bottom, right, top, side_of, figure, figure_of}
use Rattle.sheet.specs.Figure as figure
use Rattle.sheet.specs.Refusal.{pair_refusal, side_refusal, object_refusal}
use Rattle.sheet.specs.Points.{divided, standard, narrow, frame, is_point, point_refusal}
use Rattle.sheet.specs.Ends.{far_raw, far_end, last_end}
use Rattle.sheet.specs.Signs.{order, turn_poly, turn, side_sign, order_refusal, turn_refusal, side_sign_refusal}
use Rattle.sheet.specs.Circle.{circle_poly, side_of_circle, is_given, given_refusal, circle_refusal}
use Rattle.sheet.specs.Crossing.{stretches, with_side, with_stretch, meeting, crossing_of, crossing_refusal}
use Rattle.sheet.specs.Crossing as crossing
use Rattle.sheet.specs.Cases.{minus, line, side, point}
use Rattle.cut.specs.Bounds.{side_need, order_need}
use Rattle.cut.specs.Place.{Place, Spot, put, at, spot}
use Rattle.cut.specs.Cut.{out, InSquare, On, on_line, on-side, Lies, Shared}
use Rattle.cut.specs.Ordinary.{Ordered, x_less, y_less, y_more, determinant, circle_determinant, sign_of, tail, tip}

-- what is on a line is in the square
within : {R : ℤ} {p q : Vec} {S : Spot} → On R (figure.line p q) S → InSquare R S
within (on_line l) = l.cut

-- ---- ends: a line whose last end is above the square

abbrev pub R-ends : ℤ
R-ends = pos 3999999

abbrev pub steep : Object
steep = line (minus 2000) (pos 1) (pos 0) (pos 2000)

pub ends-accepted : object_refusal steep ≡ pos 0
unfolding pair_refusal object_refusal
ends-accepted = refl

pub ends-ours : last_end steep ≡ point (pos 2000) (pos 0) (pos 1999) (pos 4000000) (pos 2000)
unfolding sgn steps gcd gcd_of divided figure_of far_raw far_end last_end
ends-ours = refl

pub ends-outside : (h : pos 0 <ℤ (last_end steep).w) → Lies R-ends steep (put R-ends (last_end steep) h) → ⊥
unfolding sgn steps gcd gcd_of divided figure_of far_raw far_end last_end
ends-outside h l = ((within l.lies).inside top).le

-- ---- an end against a side: at this R the same line ends in the corner, and so shares it with the top side too

abbrev pub R-meet : ℤ
R-meet = pos 4000000

abbrev pub top-side : Object
top-side = side (pos 4)

abbrev pub corner : Place
corner = at R-meet R-meet

pub meet-accepted : crossing_refusal steep top-side ≡ pos 0
unfolding pair_refusal side_refusal object_refusal crossing_refusal
meet-accepted = refl

pub meet-ours : crossing_of steep top-side ≡ crossing.none
unfolding sgn steps gcd gcd_of divided side_of figure_of far_raw far_end stretches with_side with_stretch meeting crossing_of
meet-ours = refl

corner-in : InSquare R-meet (spot corner)
corner-in = record { inside = go }
  where
    go : (n : Side) → out n (spot corner) ≤ℤ (R-meet *ℤ (spot corner).W)
    go left = le_z_yes tt
    go bottom = le_z_yes tt
    go right = le_z_yes tt
    go top = le_z_yes tt

pub meet-ordinary : Shared R-meet steep top-side corner
unfolding side_of figure_of
meet-ordinary = record {
  on_first = record { lies = on_line (record { on = record { online = refl }; cut = corner-in }) };
  on_second = record { lies = on-side (record { in-square = corner-in; edge = refl }) };
}

-- ---- crossing: two lines along opposite edges of the sheet, that meet left of the square

abbrev pub R-crossing : ℤ
R-crossing = pos 63968005999

abbrev pub upper : Object
upper = line (minus 2000) (pos 2000) (pos 2000) (pos 1999)

abbrev pub lower : Object
lower = line (minus 2000) (minus 1999) (pos 1999) (minus 2000)

abbrev pub shared : Point
shared = point (pos 0) (minus 63968006000) (pos 0) (pos 15994001) (pos 1)

pub crossing-accepted : crossing_refusal upper lower ≡ pos 0
unfolding pair_refusal object_refusal crossing_refusal
crossing-accepted = refl

pub crossing-ours : crossing_of upper lower ≡ crossing.point shared
unfolding sgn steps gcd gcd_of divided figure_of stretches meeting crossing_of
crossing-ours = refl

pub crossing-outside : (h : pos 0 <ℤ shared.w) → Lies R-crossing upper (put R-crossing shared h) → ⊥
unfolding figure_of
crossing-outside h l = ((within l.lies).inside left).le

-- ---- side: the farthest point to the left, and the left side

abbrev pub R-side : ℤ
R-side = pos side_need

abbrev pub farthest : Point
farthest = point (pos 0) (minus 64000000000) (pos 0) (pos 0) (pos 1)

abbrev pub left-side : Object
left-side = side (pos 1)

pub side-accepted : side_sign_refusal left-side farthest ≡ pos 0
unfolding steps gcd gcd_of standard narrow frame is_point point_refusal side_refusal object_refusal side_sign_refusal
side-accepted = refl

pub side-ours : side_sign left-side farthest ≡ pos 1
unfolding sgn side_of figure_of turn_poly turn side_sign
side-ours = refl

pub side-ordinary : (l : pos 0 <ℤ farthest.w)
    → sign_of (determinant (tail R-side (figure left-side)) (tip R-side (figure left-side)) (put R-side farthest l)) ≡ pos 0
unfolding sgn side_of figure_of
side-ordinary l = refl

-- ---- order: the x of the first is 64,000,000,000 for every R, that of the second, on the bottom side, (R - 8,000,000)/4,000

abbrev pub R-order : ℤ
R-order = pos order_need

abbrev pub still : Point
still = point (pos 0) (pos 64000000000) (pos 0) (pos 0) (pos 1)

abbrev pub below : Point
below = point (pos 1) (minus 8000000) (minus 4000) (pos 0) (pos 4000)

pub order-accepted : order_refusal still below ≡ pos 0
unfolding sgn steps gcd gcd_of standard narrow frame is_point point_refusal order_refusal
order-accepted = refl

pub order-ours : order still below ≡ minus 1
unfolding sgn order
order-ours = refl

pub order-ordinary : (h : pos 0 <ℤ still.w) (k : pos 0 <ℤ below.w) → Ordered (put R-order still h) (put R-order below k) (pos 1)
order-ordinary h k = y_more (record { equal = refl }) (record { less = lt_z_yes tt })

pub not-before : (h : pos 0 <ℤ still.w) (k : pos 0 <ℤ below.w) → Ordered (put R-order still h) (put R-order below k) (minus 1) → ⊥
not-before h k (x_less l) = l.less.lt
not-before h k (y_less e l) = l.less.lt

-- ---- turn: from one standard point to another, and a point on the right side

abbrev pub R-turn : ℤ
R-turn = pos 1023871872008004000

abbrev pub from : Point
from = point (pos 0) (minus 7999999) (pos 0) (minus 7997999) (pos 4000)

abbrev pub to : Point
to = point (pos 0) (pos 8000000) (pos 0) (minus 7999999) (pos 3999)

abbrev pub beside : Point
beside = point (pos 4000) (pos 0) (minus 1) (pos 8000000) (pos 4000)

pub turn-accepted : turn_refusal from to beside ≡ pos 0
unfolding sgn steps gcd gcd_of standard narrow frame is_point point_refusal turn_refusal
turn-accepted = refl

pub turn-ours : turn from to beside ≡ minus 1
unfolding sgn turn_poly turn
turn-ours = refl

pub turn-ordinary : (h : pos 0 <ℤ from.w) (k : pos 0 <ℤ to.w) (l : pos 0 <ℤ beside.w)
    → sign_of (determinant (put R-turn from h) (put R-turn to k) (put R-turn beside l)) ≡ pos 0
unfolding sgn
turn-ordinary h k l = refl

-- ---- side of circle: three given points almost on one line, and the middle of the bottom side

abbrev pub R-circle : ℤ
R-circle = pos 31960016000

abbrev pub middle : Point
middle = point (pos 0) (pos 0) (pos 0) (minus 1) (pos 1)

abbrev pub lowest : Point
lowest = point (pos 0) (minus 2000) (pos 0) (minus 2000) (pos 1)

abbrev pub highest : Point
highest = point (pos 0) (pos 1999) (pos 0) (pos 1997) (pos 1)

abbrev pub straight-down : Point
straight-down = point (pos 0) (pos 0) (minus 1) (pos 0) (pos 1)

pub circle-accepted : circle_refusal middle lowest highest straight-down ≡ pos 0
unfolding sgn steps gcd gcd_of standard narrow frame is_point point_refusal is_given given_refusal circle_refusal
circle-accepted = refl

pub circle-ours : side_of_circle middle lowest highest straight-down ≡ pos 1
unfolding sgn circle_poly side_of_circle
circle-ours = refl

pub circle-ordinary : (h : pos 0 <ℤ middle.w) (k : pos 0 <ℤ lowest.w) (l : pos 0 <ℤ highest.w) (j : pos 0 <ℤ straight-down.w)
    → sign_of (circle_determinant (put R-circle middle h) (put R-circle lowest k) (put R-circle highest l) (put R-circle straight-down j)) ≡ pos 0
unfolding sgn
circle-ordinary h k l j = refl

-- What C is told, by document 01's numbers: "A refused call returns its number with every other number 0."
use Rattle.std.specs.Prelude.{◌≡◌, refl, ℤ, pos}
use Rattle.whole.specs.Sign.{sgn}
use Rattle.whole.specs.Divisor.{steps, gcd, gcd_of}
use Rattle.sheet.specs.declared.Point.{Point}
use Rattle.sheet.specs.Figure.{side_of, figure_of}
use Rattle.sheet.specs.Refusal.{pair_refusal, side_refusal, object_refusal}
use Rattle.sheet.specs.Points.{divided, standard, narrow, frame, is_point, point_refusal}
use Rattle.sheet.specs.Ends.{far_raw, far_end, first_end, last_end}
use Rattle.sheet.specs.Signs.{order, turn_poly, turn, side_sign, order_refusal, side_sign_refusal}
use Rattle.sheet.specs.Circle.{circle_poly, side_of_circle, is_given, given_refusal, circle_refusal}
use Rattle.sheet.specs.Crossing.{stretches, with_side, with_stretch, meeting, crossing_of, crossing_refusal}
use Rattle.sheet.specs.Cases.{minus, object, segment, ray, line, side, point, at}
use Rattle.spot.specs.declared.TwoEnds.{TwoEnds}
use Rattle.spot.specs.declared.Answer.{Answer}
use Rattle.spot.specs.Numbers.{ends_answer, order_answer, side_answer, crossing_answer, circle_answer}

abbrev nought : Point
nought = point (pos 0) (pos 0) (pos 0) (pos 0) (pos 0)

abbrev both : Point → Point → TwoEnds
both p q = record { refusal = pos 0; first = p; last = q }

-- a sign, none or many; a point; a refusal
abbrev plain : ℤ → Answer
plain n = record { refusal = pos 0; number = n; at = nought }

abbrev once : Point → Answer
once p = record { refusal = pos 0; number = pos 1; at = p }

abbrev refused : ℤ → Answer
refused n = record { refusal = n; number = pos 0; at = nought }

pub record Worked : Type 0 where
  -- rows 1 and 2 of the worked rows, "in its direction"
  ends :
      ends_answer (line (pos 0) (pos 3) (pos 1) (pos 4))
      ≡ both (point (minus 1) (pos 0) (minus 1) (pos 3) (pos 1)) (point (pos 1) (minus 3) (pos 1) (pos 0) (pos 1))
  no_ends : ends_answer (segment (pos 2001) (pos 0) (pos 0) (pos 0)) ≡ record { refusal = pos 2; first = nought; last = nought }
  -- row 7: "Order of (-1,-R) against (0,0): -1"
  before : order_answer (point (pos 0) (minus 1) (minus 1) (pos 0) (pos 1)) (at (pos 0) (pos 0)) ≡ plain (minus 1)
  no_order : order_answer (at (pos 0) (pos 0)) nought ≡ refused (pos 5)
  -- "1 meaning left", and -1 right
  left : side_answer (ray (pos 0) (pos 0) (pos 1) (pos 0)) (at (pos 0) (pos 1)) ≡ plain (pos 1)
  right : side_answer (ray (pos 0) (pos 0) (pos 1) (pos 0)) (at (pos 0) (minus 1)) ≡ plain (minus 1)
  no-side : side_answer (side (pos 5)) nought ≡ refused (pos 4)
  -- "none, point or many": two opposite sides, row 8, a side with itself
  none : crossing_answer (side (pos 1)) (side (pos 3)) ≡ plain (pos 0)
  point_of_two : crossing_answer (ray (pos 0) (pos 0) (pos 1) (pos 0)) (ray (pos 0) (pos 0) (minus 1) (pos 0)) ≡ once (at (pos 0) (pos 0))
  many : crossing_answer (side (pos 1)) (side (pos 1)) ≡ plain (pos 2)
  no_crossing : crossing_answer (side (pos 1)) (object (pos 5) (pos 0) (pos 0) (pos 0) (pos 0)) ≡ refused (pos 1)
  -- where the first three turn left, 1 outside and -1 inside; 21 where one of them is no given point
  outside : circle_answer (at (pos 0) (pos 0)) (at (pos 2) (pos 0)) (at (pos 0) (pos 2)) (at (pos 3) (pos 3)) ≡ plain (pos 1)
  inside : circle_answer (at (pos 0) (pos 0)) (at (pos 2) (pos 0)) (at (pos 0) (pos 2)) (at (pos 1) (pos 1)) ≡ plain (minus 1)
  no_circle : circle_answer (at (pos 2001) (pos 0)) (at (pos 2) (pos 0)) (at (pos 0) (pos 2)) (at (pos 1) (pos 1)) ≡ refused (pos 21)

pub worked : Worked
unfolding sgn steps gcd gcd_of side_of figure_of pair_refusal side_refusal object_refusal divided standard narrow frame is_point point_refusal far_raw far_end first_end last_end order turn_poly turn side_sign order_refusal side_sign_refusal stretches with_side with_stretch meeting crossing_of crossing_refusal circle_poly side_of_circle is_given given_refusal circle_refusal
worked = record {
  ends = refl;
  no_ends = refl;
  before = refl;
  no_order = refl;
  left = refl;
  right = refl;
  no-side = refl;
  none = refl;
  point_of_two = refl;
  many = refl;
  no_crossing = refl;
  outside = refl;
  inside = refl;
  no_circle = refl;
}

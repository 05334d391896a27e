-- The side of circle, worked out: which sign is outside, three on one line, frame points, and which points are refused, each with the number
-- beside its limit. A definition that says something else is refused here, whatever the code does.
use Rattle.std.specs.Prelude.{◌≡◌, refl, List, [], ◌∷◌, map, ℤ, pos}
use Rattle.whole.specs.Sign.{sgn}
use Rattle.whole.specs.Divisor.{steps, gcd, gcd_of}
use Rattle.sheet.specs.declared.Point.{Point}
use Rattle.sheet.specs.Points.{standard, narrow, frame, is_point, point_refusal}
use Rattle.sheet.specs.Circle.{circle_poly, side_of_circle, is_given, given_refusal, circle_refusal}
use Rattle.sheet.specs.Cases.{minus, point, at}

abbrev sides : Point → Point → Point → List Point → List ℤ
sides p q s us = map (side_of_circle p q s) us

abbrev fourths : List Point → List ℤ
fourths us = map (circle_refusal (at (pos 0) (pos 0)) (at (pos 2) (pos 0)) (at (pos 0) (pos 2))) us

-- the corners of the frame, and a point on each side of it
abbrev far_points : List Point
far_points =
    point (minus 1) (pos 0) (pos 1) (pos 0) (pos 1) ∷ point (minus 1) (pos 0) (minus 1) (pos 0) (pos 1)
    ∷ point (pos 1) (pos 0) (minus 1) (pos 0) (pos 1) ∷ point (pos 1) (pos 0) (pos 1) (pos 0) (pos 1)
    ∷ point (minus 2) (pos 0) (pos 1) (pos 2) (pos 2) ∷ point (pos 1) (pos 2) (minus 2) (pos 0) (pos 2)
    ∷ point (pos 2) (pos 0) (pos 1) (pos 2) (pos 2) ∷ point (pos 1) (pos 2) (pos 2) (pos 0) (pos 2) ∷ []

-- the ends of lines of slope 1/2 on the right side of the frame: y = x/2, x/2 + 1, x/2 + 2; and on the left side
abbrev parallels : List Point
parallels =
    point (pos 2) (pos 0) (pos 1) (pos 0) (pos 2) ∷ point (pos 2) (pos 0) (pos 1) (pos 2) (pos 2) ∷ point (pos 2) (pos 0) (pos 1) (pos 4) (pos 2)
    ∷ point (minus 2) (pos 0) (minus 1) (pos 0) (pos 2) ∷ point (minus 2) (pos 0) (minus 1) (pos 2) (pos 2)
    ∷ point (minus 2) (pos 0) (minus 1) (pos 4) (pos 2) ∷ []

abbrev plus : ℤ
plus = pos 1

abbrev zero : ℤ
zero = pos 0

abbrev less : ℤ
less = minus 1

pub record WorkedCircle : Type 0 where
  -- the circle about (1, 1) through (0, 0), (2, 0), (0, 2), which turn left: (3, 3) is outside, (2, 2) on it, (1, 1) inside
  left-turn :
      sides (at (pos 0) (pos 0)) (at (pos 2) (pos 0)) (at (pos 0) (pos 2)) (at (pos 3) (pos 3) ∷ at (pos 2) (pos 2) ∷ at (pos 1) (pos 1) ∷ [])
      ≡ plus ∷ zero ∷ less ∷ []
  -- the same circle the other way round
  right-turn :
      sides (at (pos 0) (pos 0)) (at (pos 0) (pos 2)) (at (pos 2) (pos 0)) (at (pos 3) (pos 3) ∷ at (pos 2) (pos 2) ∷ at (pos 1) (pos 1) ∷ [])
      ≡ less ∷ zero ∷ plus ∷ []
  -- the circle about the origin of radius 5
  on-one-circle :
      sides (at (pos 5) (pos 0)) (at (pos 0) (pos 5)) (at (minus 5) (pos 0))
      (at (pos 3) (pos 4) ∷ at (pos 4) (minus 3) ∷ at (minus 3) (minus 4) ∷ at (pos 0) (minus 5) ∷ at (pos 3) (pos 3) ∷ at (pos 4) (pos 4) ∷ [])
      ≡ zero ∷ zero ∷ zero ∷ zero ∷ less ∷ plus ∷ []
  -- the corners of the sheet
  at_the_limit :
      sides (at (pos 2000) (pos 2000)) (at (minus 2000) (pos 2000)) (at (minus 2000) (minus 2000))
      (at (pos 2000) (minus 2000) ∷ at (pos 1999) (minus 2000) ∷ at (pos 2000) (minus 1999) ∷ []) ≡ zero ∷ less ∷ less ∷ []
  -- a frame point is outside of every circle
  far-outside :
      sides (at (pos 0) (pos 0)) (at (pos 2) (pos 0)) (at (pos 0) (pos 2)) far_points ≡ plus ∷ plus ∷ plus ∷ plus ∷ plus ∷ plus ∷ plus ∷ plus ∷ []
  -- "Points on one line are allowed and have the determinant's sign": three on y = x/2 + 1, with p at the end and with p in the middle
  one_line : sides (at (pos 0) (pos 1)) (at (pos 2) (pos 2)) (at (pos 4) (pos 3)) parallels ≡ plus ∷ zero ∷ less ∷ plus ∷ zero ∷ less ∷ []
  p_between : sides (at (pos 2) (pos 2)) (at (pos 0) (pos 1)) (at (pos 4) (pos 3)) parallels ≡ less ∷ zero ∷ plus ∷ less ∷ zero ∷ plus ∷ []
  one-line-given :
      sides (at (pos 0) (pos 1)) (at (pos 2) (pos 2)) (at (pos 4) (pos 3)) (at (pos 0) (pos 0) ∷ at (pos 0) (pos 2) ∷ at (pos 6) (pos 4) ∷ [])
      ≡ plus ∷ less ∷ zero ∷ []
  one-place-twice :
      sides (at (pos 0) (pos 1)) (at (pos 2) (pos 2)) (at (pos 2) (pos 2)) parallels ≡ zero ∷ zero ∷ zero ∷ zero ∷ zero ∷ zero ∷ []
  -- "given points (standard, w of 1, nx and ny within 2,000 either way)": as the fourth, 2,000 and 2,001, w of 1 and of 2
  fourth-within :
      fourths (at (pos 2000) (minus 2000) ∷ at (pos 2001) (pos 0) ∷ at (minus 2001) (pos 0) ∷ at (pos 0) (pos 2001) ∷ at (pos 0) (minus 2001) ∷ [])
      ≡ pos 0 ∷ pos 21 ∷ pos 21 ∷ pos 21 ∷ pos 21 ∷ []
  fourth_of_w_two : fourths (point (pos 0) (pos 1) (pos 0) (pos 0) (pos 2) ∷ []) ≡ pos 21 ∷ []
  -- "the fourth is a given point or a frame point"
  fourth_far : fourths far_points ≡ pos 0 ∷ pos 0 ∷ pos 0 ∷ pos 0 ∷ pos 0 ∷ pos 0 ∷ pos 0 ∷ pos 0 ∷ []
  -- "21 if one of the first three isn't a given point": too far, w of 2, on the frame
  not-given :
      (circle_refusal (at (pos 2001) (pos 0)) (at (pos 2) (pos 0)) (at (pos 0) (pos 2)) (at (pos 1) (pos 1)) ≡ pos 21)
      × (circle_refusal (at (pos 0) (pos 0)) (point (pos 0) (pos 1) (pos 0) (pos 0) (pos 2)) (at (pos 0) (pos 2)) (at (pos 1) (pos 1)) ≡ pos 21)
      × (circle_refusal (at (pos 0) (pos 0)) (at (pos 2) (pos 0)) (point (pos 1) (pos 0) (pos 0) (pos 0) (pos 1)) (at (pos 1) (pos 1)) ≡ pos 21)
  -- "5 for each in turn, then 21": no point is refused by 5 wherever it stands, whatever the others are
  five-before-twenty-one :
      (circle_refusal (point zero zero zero zero (pos 2)) (at (pos 2001) (pos 0)) (at (pos 0) (pos 2)) (at (pos 1) (pos 1)) ≡ pos 5)
      × (circle_refusal (at (pos 2001) (pos 0)) (point zero zero zero zero (pos 2)) (at (pos 0) (pos 2)) (at (pos 1) (pos 1)) ≡ pos 5)
      × (circle_refusal (at (pos 2001) (pos 0)) (at (pos 0) (pos 2)) (point zero zero zero zero (pos 2)) (at (pos 1) (pos 1)) ≡ pos 5)
      × (circle_refusal (at (pos 2001) (pos 0)) (at (pos 0) (pos 2)) (at (pos 1) (pos 1)) (point zero zero zero zero (pos 2)) ≡ pos 5)

pub worked-circle : WorkedCircle
unfolding sgn steps gcd gcd_of standard narrow frame is_point point_refusal circle_poly side_of_circle is_given given_refusal circle_refusal
worked-circle = record {
  left-turn = refl;
  right-turn = refl;
  on-one-circle = refl;
  at_the_limit = refl;
  far-outside = refl;
  one_line = refl;
  p_between = refl;
  one-line-given = refl;
  one-place-twice = refl;
  fourth-within = refl;
  fourth_of_w_two = refl;
  fourth_far = refl;
  not-given = (refl, refl, refl);
  five-before-twenty-one = (refl, refl, refl, refl);
}

-- The sides of the frame, ends, signs and crossings, worked out by document 01's numbers. Its own worked rows are in store/specs/Rows; here
-- is what they leave open. A definition that says something else is refused here, whatever the code does.
use Rattle.std.specs.Prelude.{◌≡◌, refl, List, [], ◌∷◌, map, pos, Ok, Err}
use Rattle.whole.specs.Sign.{sgn}
use Rattle.whole.specs.Divisor.{steps, gcd, gcd_of}
use Rattle.whole.specs.Poly.{leading}
use Rattle.sheet.specs.declared.Object.{Object}
use Rattle.sheet.specs.declared.Point.{Point}
use Rattle.sheet.specs.declared.Crossing.TheVariants as crossed
use Rattle.sheet.specs.declared.refusal.Refusal.TheVariants as refusal
use Rattle.sheet.specs.Figure.{side_number, side_of, figure_of}
use Rattle.sheet.specs.Figure as frame
use Rattle.sheet.specs.Points.{divided}
use Rattle.sheet.specs.Ends.{far_raw, far_end, first_end, last_end}
use Rattle.sheet.specs.Signs.{order, turn_poly, turn, side_sign}
use Rattle.sheet.specs.Crossing.{none, many, stretches, with_side, with_stretch, meeting, crossing_of}
use Rattle.sheet.specs.Crossing as crossing
use Rattle.sheet.specs.Answers.{made_says, ends_say, signed_says, meeting_numbers, crossing_says}
use Rattle.sheet.specs.Tags.{tagged}
use Rattle.sheet.specs.Cases.{minus, segment, ray, line, side, point, at}

-- (-R, R), (-R, -R), (R, -R), (R, R)
abbrev top_left : Point
top_left = point (minus 1) (pos 0) (pos 1) (pos 0) (pos 1)

abbrev bottom_left : Point
bottom_left = point (minus 1) (pos 0) (minus 1) (pos 0) (pos 1)

abbrev bottom_right : Point
bottom_right = point (pos 1) (pos 0) (minus 1) (pos 0) (pos 1)

abbrev top_right : Point
top_right = point (pos 1) (pos 0) (pos 1) (pos 0) (pos 1)

abbrev four_sides : List Object
four_sides = side (pos 1) ∷ side (pos 2) ∷ side (pos 3) ∷ side (pos 4) ∷ []

abbrev origin : Point
origin = at (pos 0) (pos 0)

-- (0, 1) and (1, 0)
abbrev up : Point
up = at (pos 0) (pos 1)

abbrev right : Point
right = at (pos 1) (pos 0)

pub record WorkedAnswers : Type 0 where
  -- "1 left, from (-R, R) to (-R, -R); 2 bottom, to (R, -R); 3 right, to (R, R); 4 top, back to (-R, R)." "Side: its two corners."
  sides-begin :
      map first_end four_sides ≡ top_left ∷ bottom_left ∷ bottom_right ∷ top_right ∷ []
  sides_end : map last_end four_sides ≡ bottom_left ∷ bottom_right ∷ top_right ∷ top_left ∷ []
  side_numbers : map side_number (frame.left ∷ frame.bottom ∷ frame.right ∷ frame.top ∷ []) ≡ pos 1 ∷ pos 2 ∷ pos 3 ∷ pos 4 ∷ []
  -- "Segment: p and q. .. Ray: p, and the far end below. Line: the far end of the reversed line, and the far end."
  segment-ends :
      (first_end (segment (pos 1) (pos 2) (minus 3) (pos 4)) ≡ at (pos 1) (pos 2))
      × (last_end (segment (pos 1) (pos 2) (minus 3) (pos 4)) ≡ at (minus 3) (pos 4))
  ray-ends :
      (first_end (ray (pos 0) (pos 1) (pos 2) (pos 2)) ≡ at (pos 0) (pos 1))
      × (last_end (ray (pos 0) (pos 1) (pos 2) (pos 2)) ≡ point (pos 2) (pos 0) (pos 1) (pos 2) (pos 2))
  line_begins : first_end (line (pos 0) (pos 1) (pos 2) (pos 2)) ≡ point (minus 2) (pos 0) (minus 1) (pos 2) (pos 2)
  -- "|dx| > |dy|: (sx w, 0, dy, sx k, w) with w = |dx|; |dy| > |dx|: (dx, -sy k, sy w, 0, w) with w = |dy|", each way:
  -- dx = 3, dy = 1, k = 13; reversed; dx = -1, dy = 3, k = -7; reversed
  flat-ends :
      (last_end (line (pos 2) (pos 5) (pos 5) (pos 6)) ≡ point (pos 3) (pos 0) (pos 1) (pos 13) (pos 3))
      × (first_end (line (pos 2) (pos 5) (pos 5) (pos 6)) ≡ point (minus 3) (pos 0) (minus 1) (pos 13) (pos 3))
  steep-ends :
      (last_end (line (pos 2) (pos 1) (pos 1) (pos 4)) ≡ point (minus 1) (pos 7) (pos 3) (pos 0) (pos 3))
      × (first_end (line (pos 2) (pos 1) (pos 1) (pos 4)) ≡ point (pos 1) (pos 7) (minus 3) (pos 0) (pos 3))
  -- "equal: the first form if sx sy k is 0 or less, else the second": sx sy k is -1, 0 and 1 upward, and 1, 0 and -1 for the falling line
  equal-upward :
      (last_end (line (pos 1) (pos 0) (pos 2) (pos 1)) ≡ point (pos 1) (pos 0) (pos 1) (minus 1) (pos 1))
      × (last_end (line (pos 0) (pos 0) (pos 1) (pos 1)) ≡ top_right)
      × (last_end (line (pos 0) (pos 1) (pos 1) (pos 2)) ≡ point (pos 1) (minus 1) (pos 1) (pos 0) (pos 1))
  equal-falling :
      (last_end (line (minus 1) (pos 0) (pos 0) (minus 1)) ≡ point (pos 1) (minus 1) (minus 1) (pos 0) (pos 1))
      × (last_end (line (pos 0) (pos 0) (pos 1) (minus 1)) ≡ bottom_right)
      × (last_end (line (pos 0) (pos 1) (pos 1) (pos 0)) ≡ point (pos 1) (pos 0) (minus 1) (pos 1) (pos 1))
  -- "Signs are -1, 0 or 1. The sign of a polynomial in R is that of its highest coefficient that is not 0; 0 if there is none."
  signs : map sgn (minus 7 ∷ pos 0 ∷ pos 7 ∷ []) ≡ minus 1 ∷ pos 0 ∷ pos 1 ∷ []
  highest :
      (leading (pos 5 ∷ pos 5 ∷ minus 1 ∷ []) ≡ minus 1) × (leading (minus 5 ∷ pos 2 ∷ pos 0 ∷ []) ≡ pos 1)
      × (leading (minus 5 ∷ pos 0 ∷ []) ≡ minus 1) × (leading (pos 0 ∷ pos 0 ∷ []) ≡ pos 0)
  -- "Order of two points: x first, then y."
  x_first : (order (at (pos 0) (pos 9)) (at (pos 1) (pos 0)) ≡ minus 1) × (order (at (pos 1) (pos 0)) (at (pos 0) (pos 9)) ≡ pos 1)
  then-y :
      (order (at (pos 1) (pos 2)) (at (pos 1) (pos 3)) ≡ minus 1) × (order (at (pos 1) (pos 3)) (at (pos 1) (pos 2)) ≡ pos 1)
      × (order top_right top_right ≡ pos 0)
  -- "Turn of three points": to the left, to the right, straight on; "Equal points give 0."
  turns :
      (turn origin right up ≡ pos 1) × (turn origin up right ≡ minus 1) × (turn up origin right ≡ pos 1) × (turn right up origin ≡ pos 1)
      × (turn origin right (at (pos 7) (pos 0)) ≡ pos 0) × (turn top_right up top_right ≡ pos 0)
  -- by mx and my alone, and by n alone: the last point lies on the right side, one below the line's own end
  turns-outside :
      (turn top_left bottom_left bottom_right ≡ pos 1) × (turn origin (at (pos 1) (pos 1)) (point (pos 1) (pos 0) (pos 1) (minus 1) (pos 1)) ≡ minus 1)
  -- "the turn of the object's p, q (for a side, its two corners in order) and the point, 1 meaning left"
  left-of-an-arrow :
      (side_sign (segment (pos 0) (pos 0) (pos 1) (pos 0)) up ≡ pos 1) × (side_sign (ray (pos 1) (pos 0) (pos 0) (pos 0)) up ≡ minus 1)
      × (side_sign (line (pos 0) (pos 0) (pos 1) (pos 0)) (at (pos 5) (pos 0)) ≡ pos 0)
  left-of-the-sides :
      (side_sign (side (pos 1)) origin ≡ pos 1) × (side_sign (side (pos 2)) origin ≡ pos 1) × (side_sign (side (pos 3)) origin ≡ pos 1)
      × (side_sign (side (pos 4)) origin ≡ pos 1)
  -- a corner is on the two sides that it belongs to, and left of the other two
  corner-of-the-sides :
      (side_sign (side (pos 1)) top_left ≡ pos 0) × (side_sign (side (pos 2)) top_left ≡ pos 1) × (side_sign (side (pos 3)) top_left ≡ pos 1)
      × (side_sign (side (pos 4)) top_left ≡ pos 0)
  -- "The answer is none, point or many": 0, 1 and 2; "Two that only touch end to end on a line answer point."
  answers :
      (meeting_numbers none ≡ pos 0 ∷ []) × (meeting_numbers many ≡ pos 2 ∷ [])
      × (meeting_numbers (crossing.point top_left) ≡ pos 1 ∷ minus 1 ∷ pos 0 ∷ pos 1 ∷ pos 0 ∷ pos 1 ∷ [])
  -- what each answer says: 0 and its values, or the number of the refusal alone
  made-says :
      (made_says (Ok (tagged (pos 7) (side (pos 3)))) ≡ pos 0 ∷ pos 4 ∷ pos 3 ∷ pos 0 ∷ pos 0 ∷ pos 0 ∷ pos 7 ∷ [])
      × (made_says (Err refusal.TooFar) ≡ pos 2 ∷ [])
  ends-say :
      (ends_say (Ok (record { first = up; last = top_right })) ≡ pos 0 ∷ pos 0 ∷ pos 0 ∷ pos 0 ∷ pos 1 ∷ pos 1 ∷ pos 1 ∷ pos 0 ∷ pos 1 ∷ pos 0 ∷ pos 1 ∷ [])
      × (ends_say (Err refusal.SamePoints) ≡ pos 3 ∷ [])
  signed-says : (signed_says (Ok (minus 1)) ≡ pos 0 ∷ minus 1 ∷ []) × (signed_says (Err refusal.WidePoint) ≡ pos 6 ∷ [])
  crossing-says :
      (crossing_says (Ok crossed.Nothing) ≡ pos 0 ∷ pos 0 ∷ []) × (crossing_says (Ok (crossed.Once up)) ≡ pos 0 ∷ pos 1 ∷ pos 0 ∷ pos 0 ∷ pos 0 ∷ pos 1 ∷ pos 1 ∷ [])
      × (crossing_says (Ok crossed.Many) ≡ pos 0 ∷ pos 2 ∷ []) × (crossing_says (Err refusal.NoKind) ≡ pos 1 ∷ [])
  -- on one line: aslant, along x, along y
  touching :
      (crossing_of (segment (pos 0) (pos 0) (pos 1) (pos 1)) (segment (pos 1) (pos 1) (pos 2) (pos 2)) ≡ crossing.point (at (pos 1) (pos 1)))
      × (crossing_of (segment (pos 0) (pos 0) (pos 1) (pos 0)) (segment (pos 1) (pos 0) (pos 2) (pos 0)) ≡ crossing.point right)
      × (crossing_of (segment (pos 0) (pos 0) (pos 0) (pos 1)) (segment (pos 0) (pos 2) (pos 0) (pos 1)) ≡ crossing.point up)
  overlapping :
      (crossing_of (segment (pos 0) (pos 0) (pos 2) (pos 2)) (segment (pos 3) (pos 3) (pos 1) (pos 1)) ≡ many)
      × (crossing_of (segment (pos 0) (pos 0) (pos 2) (pos 0)) (ray (pos 1) (pos 0) (pos 2) (pos 0)) ≡ many)
      × (crossing_of (segment (pos 0) (pos 0) (pos 0) (pos 2)) (segment (pos 0) (pos 3) (pos 0) (pos 1)) ≡ many)
  apart :
      (crossing_of (segment (pos 0) (pos 0) (pos 1) (pos 1)) (segment (pos 2) (pos 2) (pos 3) (pos 3)) ≡ none)
      × (crossing_of (segment (pos 0) (pos 0) (pos 1) (pos 0)) (ray (pos 2) (pos 0) (pos 3) (pos 0)) ≡ none)
      × (crossing_of (segment (pos 0) (pos 0) (pos 0) (pos 1)) (segment (pos 0) (pos 3) (pos 0) (pos 2)) ≡ none)
  endless :
      (crossing_of (line (pos 0) (pos 0) (pos 1) (pos 1)) (line (pos 5) (pos 5) (pos 2) (pos 2)) ≡ many)
      × (crossing_of (ray (pos 0) (pos 0) (pos 1) (pos 1)) (line (pos 2) (pos 2) (pos 5) (pos 5)) ≡ many)
      × (crossing_of (ray (pos 0) (pos 0) (pos 1) (pos 1)) (ray (pos 2) (pos 2) (pos 5) (pos 5)) ≡ many)
  -- on two parallel lines
  beside : crossing_of (line (pos 0) (pos 0) (pos 1) (pos 1)) (line (pos 0) (pos 1) (pos 1) (pos 2)) ≡ none
  -- "Objects include their ends": the first and the last end, of either object
  end-on-the-other :
      (crossing_of (segment (pos 0) (pos 0) (pos 2) (pos 0)) (segment (pos 1) (pos 0) (pos 1) (pos 5)) ≡ crossing.point right)
      × (crossing_of (segment (pos 0) (pos 0) (pos 2) (pos 0)) (segment (pos 1) (pos 5) (pos 1) (pos 0)) ≡ crossing.point right)
      × (crossing_of (ray (pos 1) (pos 0) (pos 1) (pos 5)) (line (pos 0) (pos 0) (pos 2) (pos 0)) ≡ crossing.point right)
  short-of-the-other :
      (crossing_of (segment (pos 0) (pos 0) (pos 2) (pos 0)) (segment (pos 1) (pos 1) (pos 1) (pos 5)) ≡ none)
      × (crossing_of (segment (pos 0) (pos 0) (pos 2) (pos 0)) (segment (pos 1) (pos 5) (pos 1) (pos 1)) ≡ none)
      × (crossing_of (ray (pos 1) (pos 1) (pos 1) (pos 5)) (line (pos 0) (pos 0) (pos 2) (pos 0)) ≡ none)
  -- 2y = x - 1 and 3x + 2y = 6 meet at x = 14/8, y = 3/8; a ray and a line go on beyond q
  within_both :
      (crossing_of (line (pos 1) (pos 0) (pos 3) (pos 1)) (segment (pos 0) (pos 3) (pos 2) (pos 0))
      ≡ crossing.point (point (pos 0) (pos 14) (pos 0) (pos 3) (pos 8)))
      × (crossing_of (ray (pos 0) (pos 0) (pos 1) (pos 0)) (line (pos 5) (pos 1) (pos 5) (pos 2)) ≡ crossing.point (at (pos 5) (pos 0)))
  -- a segment meets no side; a ray meets that of its far end; the ends of y = 1 + x/2 are on sides 1 and 3, those of y = 7 - 3x on 2 and 4
  no-side : map (crossing_of (segment (pos 0) (pos 1) (pos 2) (pos 2))) four_sides ≡ none ∷ none ∷ none ∷ none ∷ []
  side-of-a-ray :
      map (crossing_of (ray (pos 0) (pos 1) (pos 2) (pos 2))) four_sides
      ≡ none ∷ none ∷ crossing.point (point (pos 2) (pos 0) (pos 1) (pos 2) (pos 2)) ∷ none ∷ []
  sides-on-both-hands :
      map (crossing_of (line (pos 0) (pos 1) (pos 2) (pos 2))) four_sides
      ≡ crossing.point (point (minus 2) (pos 0) (minus 1) (pos 2) (pos 2)) ∷ none ∷ crossing.point (point (pos 2) (pos 0) (pos 1) (pos 2) (pos 2)) ∷ none ∷ []
  sides-above-and-below :
      map (crossing_of (line (pos 2) (pos 1) (pos 1) (pos 4))) four_sides
      ≡ none ∷ crossing.point (point (pos 1) (pos 7) (minus 3) (pos 0) (pos 3)) ∷ none ∷ crossing.point (point (minus 1) (pos 7) (pos 3) (pos 0) (pos 3)) ∷ []
  sides-meet :
      (crossing_of (side (pos 1)) (side (pos 1)) ≡ many) × (crossing_of (side (pos 1)) (side (pos 2)) ≡ crossing.point bottom_left)
      × (crossing_of (side (pos 1)) (side (pos 3)) ≡ none) × (crossing_of (side (pos 4)) (side (pos 1)) ≡ crossing.point top_left)
      × (crossing_of (side (pos 4)) (side (pos 4)) ≡ many) × (crossing_of (side (pos 2)) (side (pos 4)) ≡ none)

pub worked-answers : WorkedAnswers
unfolding sgn steps gcd gcd_of side_of figure_of divided far_raw far_end first_end last_end order turn_poly turn side_sign stretches with_side with_stretch meeting crossing_of
worked-answers = record {
  sides-begin = refl;
  sides_end = refl;
  side_numbers = refl;
  segment-ends = (refl, refl);
  ray-ends = (refl, refl);
  line_begins = refl;
  flat-ends = (refl, refl);
  steep-ends = (refl, refl);
  equal-upward = (refl, refl, refl);
  equal-falling = (refl, refl, refl);
  signs = refl;
  highest = (refl, refl, refl, refl);
  x_first = (refl, refl);
  then-y = (refl, refl, refl);
  turns = (refl, refl, refl, refl, refl, refl);
  turns-outside = (refl, refl);
  left-of-an-arrow = (refl, refl, refl);
  left-of-the-sides = (refl, refl, refl, refl);
  corner-of-the-sides = (refl, refl, refl, refl);
  answers = (refl, refl, refl);
  made-says = (refl, refl);
  ends-say = (refl, refl);
  signed-says = (refl, refl);
  crossing-says = (refl, refl, refl, refl);
  touching = (refl, refl, refl);
  overlapping = (refl, refl, refl);
  apart = (refl, refl, refl);
  endless = (refl, refl, refl);
  beside = refl;
  end-on-the-other = (refl, refl, refl);
  short-of-the-other = (refl, refl, refl);
  within_both = (refl, refl);
  no-side = refl;
  side-of-a-ray = refl;
  sides-on-both-hands = refl;
  sides-above-and-below = refl;
  sides-meet = (refl, refl, refl, refl, refl, refl);
}

-- What the kernel answers as a struct that C can take by value: the numbers that an answer says, in their order, and 0 for those that it has
-- not.
use Rattle.std.specs.Prelude.{List, [], ◌∷◌, ◌++◌, ℕ, ◌+◌, ℤ}
use Rattle.sheet.specs.declared.Object.{Object}
use Rattle.sheet.specs.declared.Point.{Point}
use Rattle.sheet.specs.Refusal.{object_refusal}
use Rattle.sheet.specs.Points.{numbers}
use Rattle.sheet.specs.Ends.{first_end, last_end}
use Rattle.sheet.specs.Signs.{order, side_sign, order_refusal, side_sign_refusal}
use Rattle.sheet.specs.Circle.{side_of_circle, circle_refusal}
use Rattle.sheet.specs.Crossing.{crossing_of, crossing_refusal}
use Rattle.sheet.specs.Lists.{number}
use Rattle.sheet.specs.Answers.{answer, meeting_numbers}
use Rattle.spot.specs.declared.TwoEnds.{TwoEnds}
use Rattle.spot.specs.declared.Answer.{Answer}

-- five numbers of a list, each 0 that it has not
abbrev pub point_from : List ℤ → ℕ → Point
point_from l i = record { mx = number l i; nx = number l (i + 1); my = number l (i + 2); ny = number l (i + 3); w = number l (i + 4) }

abbrev pub two_ends_of : List ℤ → TwoEnds
two_ends_of l = record { refusal = number l 0; first = point_from l 1; last = point_from l 6 }

abbrev pub answer_of : List ℤ → Answer
answer_of l = record { refusal = number l 0; number = number l 1; at = point_from l 2 }

abbrev pub ends_answer : Object → TwoEnds
ends_answer o = two_ends_of (answer (object_refusal o) (numbers (first_end o) ++ numbers (last_end o)))

abbrev pub order_answer : Point → Point → Answer
order_answer p q = answer_of (answer (order_refusal p q) (order p q ∷ []))

abbrev pub side_answer : Object → Point → Answer
side_answer o s = answer_of (answer (side_sign_refusal o s) (side_sign o s ∷ []))

abbrev pub crossing_answer : Object → Object → Answer
crossing_answer a b = answer_of (answer (crossing_refusal a b) (meeting_numbers (crossing_of a b)))

abbrev pub circle_answer : Point → Point → Point → Point → Answer
circle_answer p q s u = answer_of (answer (circle_refusal p q s u) (side_of_circle p q s u ∷ []))

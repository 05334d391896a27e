-- Which pairs are compared, worked out: of document 01's sheet, and of segments that touch, stand apart, and begin in one x.
use Rattle.std.specs.Prelude.{◌≡◌, refl, true, false, List, [], ◌∷◌, ◌++◌, ℕ, ℤ, pos}
use Rattle.whole.specs.Sign.{sgn}
use Rattle.whole.specs.Divisor.{steps, gcd, gcd_of}
use Rattle.whole.specs.InTurn.{in_turn}
use Rattle.sheet.specs.Figure.{side_of, figure_of}
use Rattle.sheet.specs.Points.{divided}
use Rattle.sheet.specs.Ends.{far_raw, far_end, first_end, last_end}
use Rattle.sheet.specs.Extent.{is_left, left_end, right_end, ends_before, near}
use Rattle.sheet.specs.Answers.{object_numbers}
use Rattle.sheet.specs.Cases.{segment, line, side}
use Rattle.listing.specs.Near.{near_of, near_later, not_right, low_of, high_of}

-- a line from (0,0) toward (2,1), a segment from (0,2) to (2,0) and side 3
abbrev sheet : List ℤ
sheet = object_numbers (line (pos 0) (pos 0) (pos 2) (pos 1)) ++ object_numbers (segment (pos 0) (pos 2) (pos 2) (pos 0)) ++ object_numbers (side (pos 3))

-- segments over the x from 4 to 6, from 0 to 2, from 2 to 4 and from 2 to 3, the third drawn from right to left
abbrev row : List ℤ
row =
    object_numbers (segment (pos 4) (pos 0) (pos 6) (pos 0))
    ++ object_numbers (segment (pos 0) (pos 0) (pos 2) (pos 5))
    ++ object_numbers (segment (pos 4) (pos 9) (pos 2) (pos 9))
    ++ object_numbers (segment (pos 2) (pos 0) (pos 3) (pos 1))

-- a later object by its number
abbrev numbered : ℕ → List ℤ
numbered j = pos j ∷ []

pub record WorkedNear : Type 0 where
  -- from the left side of the frame on, from 0 on, and at the right side
  low_numbers : (low_of sheet 0 ≡ 1) × (low_of sheet 1 ≡ 2) × (low_of sheet 2 ≡ 3)
  high_numbers : (high_of sheet 0 ≡ 3) × (high_of sheet 1 ≡ 2) × (high_of sheet 2 ≡ 3)
  compared : (near_later sheet 0 numbered ≡ pos 1 ∷ pos 2 ∷ []) × (near_later sheet 1 numbered ≡ []) × (near_later sheet 2 numbered ≡ [])
  -- two begin at 2: both count for both
  one_x : (low_of row 1 ≡ 1) × (low_of row 2 ≡ 3) × (low_of row 3 ≡ 3) × (low_of row 0 ≡ 4)
  ends : (high_of row 1 ≡ 3) × (high_of row 2 ≡ 4) × (high_of row 3 ≡ 3) × (high_of row 0 ≡ 4)
  -- "overlap or touch": 0 and 2 at 4, 1 with 2 and 3 at 2, 2 and 3 from 2 to 3; and not 0 with 1 or 3
  touching : (near_of row 0 2 ≡ true) × (near_of row 1 2 ≡ true) × (near_of row 1 3 ≡ true)
  apart : (near_of row 0 1 ≡ false) × (near_of row 0 3 ≡ false)
  by_i_and_then_j :
      (near_later row 0 numbered ≡ pos 2 ∷ []) × (near_later row 1 numbered ≡ pos 2 ∷ pos 3 ∷ []) × (near_later row 2 numbered ≡ pos 3 ∷ [])
  none : (near_later [] 0 numbered ≡ []) × (high_of [] 0 ≡ 0)

pub worked-near : WorkedNear
unfolding in_turn not_right near ends_before left_end right_end is_left first_end last_end sgn steps gcd gcd_of side_of figure_of divided far_raw far_end
worked-near = record {
  low_numbers = (refl, refl, refl);
  high_numbers = (refl, refl, refl);
  compared = (refl, refl, refl);
  one_x = (refl, refl, refl, refl);
  ends = (refl, refl, refl, refl);
  touching = (refl, refl, refl);
  apart = (refl, refl);
  by_i_and_then_j = (refl, refl, refl);
  none = (refl, refl);
}

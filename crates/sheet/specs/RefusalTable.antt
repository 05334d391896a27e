-- "Numbers that say no": the table of refusals, and what it is to be one of some numbers. When each is given is said by the definitions that
-- give it.
use Rattle.std.specs.Prelude.{◌≡◌, Bool, true, false, ◌||◌, List, [], ◌∷◌, ℕ, eqb, ℤ, pos}

-- by rising number; "the number is not used again" (document 02) is said of 12
abbrev pub refusals : List ℕ
refusals =
    -- kind not 1 to 4; a coordinate beyond 2,000 either way; p equals q; side number not 1 to 4, or one of the other three numbers not 0
    1 ∷ 2 ∷ 3 ∷ 4
    -- five numbers that are no point; a point too wide for a turn
    ∷ 5 ∷ 6
    -- stored bytes end where a number must begin or go on; a stored number's groups; bytes after the last object
    ∷ 7 ∷ 8 ∷ 9
    -- the lent list or byte buffer is too short for the result; more than 512 objects
    ∷ 10 ∷ 11
    -- object index below 0 or not below the count; list length not a multiple of six
    ∷ 13 ∷ 14
    -- tag out of range; a tag other than 0 written in the old form
    ∷ 15 ∷ 16
    -- side of circle: one of the first three is no given point, or the fourth is a standard point that is none
    ∷ 21 ∷ []

abbrev pub among : ℕ → List ℕ → Bool
among n [] = false
among n (m ∷ ms) = eqb n m || among n ms

-- one of the numbers
pub record OneOf (ms : List ℕ) (z : ℤ) : Type 0 where
  pub number : ℕ
  pub is : z ≡ pos number
  pub one : among number ms ≡ true

-- what a call may refuse by: a number of the table, or 0 where it does not refuse
abbrev pub Known : ℤ → Type 0
Known = OneOf (0 ∷ refusals)

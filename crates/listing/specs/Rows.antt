-- "All pairs i < j, by i and then j, that share something. Each row is eight numbers: i, j, 1 for point or 2 for many, and the five
-- numbers (0 for many)."; and "a listing row ends with the tags of i and j (ten numbers)" (document 02).
-- "A pair whose single common point is an end of both objects is now left out of rows unless the caller asks for joints" (document 02): whether
-- it does is the first thing that each definition takes, and `meeting_of` alone looks at it.
use Rattle.std.specs.Prelude.{Bool, true, false, cond, ◌&&◌, List, [], ◌∷◌, ◌++◌, ℕ, ◌+◌, ltb, ℤ, pos}
use Rattle.whole.specs.InTurn.{all_of, all_between, sum_of}
use Rattle.sheet.specs.Points.{numbers}
use Rattle.sheet.specs.Crossing.{Meeting, none, point, many}
use Rattle.sheet.specs.Joint.{kept}
use Rattle.sheet.specs.Lists.{count_of, object_at}

-- ---- a pair

abbrev pub is_some : Meeting → Bool
is_some none = false
is_some (point e) = true
is_some many = true

-- "1 for point or 2 for many, and the five numbers (0 for many)"
abbrev pub shared : Meeting → List ℤ
shared none = []
shared (point e) = pos 1 ∷ numbers e
shared many = pos 2 ∷ pos 0 ∷ pos 0 ∷ pos 0 ∷ pos 0 ∷ pos 0 ∷ []

-- "the tags of i and j"
abbrev pub tags_of : List ℤ → ℕ → ℕ → List ℤ
tags_of l i j = (object_at l i).tag ∷ (object_at l j).tag ∷ []

-- what objects i and j of a list share; nothing where they are a joint and joints are not asked for
unfoldable pub meeting_of : Bool → List ℤ → ℕ → ℕ → Meeting
unfolding kept
meeting_of joints l i j = kept joints (object_at l i) (object_at l j)

module _ (joints : Bool) (l : List ℤ) where
  -- "that share something": whether a pair makes a row
  abbrev pub makes_row : ℕ → ℕ → Bool
  makes_row i j = is_some (meeting_of joints l i j)

  -- ---- the rows

  -- a pair that makes none has no row
  abbrev pub row_of : ℕ → ℕ → List ℤ
  row_of i j = cond (makes_row i j) (pos i ∷ pos j ∷ (shared (meeting_of joints l i j) ++ tags_of l i j)) []

  -- the rows of object i with all later ones: j is i + 1, i + 2, ..
  abbrev pub rows_with : ℕ → List ℤ
  rows_with i = all_between (λ j. row_of i j) (i + 1) (count_of l)

  -- "by i and then j": the rows of object 0, of object 1, .., one after another
  abbrev pub rows_of : List ℤ
  rows_of = all_of (λ i. rows_with i) (count_of l)

  -- ---- how many pairs make a row: over all pairs of a list, i and j, those with i < j

  abbrev pub pair_count : ℕ → ℕ → ℕ
  pair_count i j = cond (ltb i j && makes_row i j) 1 0

  abbrev pub sharing_with : ℕ → ℕ
  sharing_with i = sum_of (λ j. pair_count i j) (count_of l)

  abbrev pub sharing : ℕ
  sharing = sum_of (λ i. sharing_with i) (count_of l)

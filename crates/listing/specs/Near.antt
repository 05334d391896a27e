-- Which pairs the listing of near ones compares (document 02, R-6): "orders the objects by their left ends and compares only those whose extents
-- in x overlap or touch". That two extents do is `near` of sheet/specs/Extent.
use Rattle.std.specs.Prelude.{Bool, cond, List, [], ℕ, ◌+◌, ℤ}
use Rattle.whole.specs.InTurn.{all_between, sum_of}
use Rattle.sheet.specs.declared.Point.{Point}
use Rattle.sheet.specs.Extent.{is_left, left_end, right_end, near}
use Rattle.sheet.specs.Lists.{count_of, object_at}

module _ (l : List ℤ) where
  -- whether the extents of objects i and j overlap or touch
  abbrev pub near_of : ℕ → ℕ → Bool
  near_of i j = near (object_at l i) (object_at l j)

  -- what f gives for those of the later objects that object i is compared with, in turn
  abbrev pub near_later : ℕ → (ℕ → List ℤ) → List ℤ
  near_later i f = all_between (λ j. cond (near_of i j) (f j) []) (i + 1) (count_of l)

  -- how many left ends are not right of a point
  unfoldable pub not_right : Point → ℕ
  not_right p = sum_of (λ j. cond (is_left p (left_end (object_at l j))) 0 1) (count_of l)

  -- of its left end, and of its right end: two objects stand apart exactly where the second number of one is below the first number of the
  -- other (`numbers-tell` in SpansLaws)
  abbrev pub low_of : ℕ → ℕ
  low_of i = not_right (left_end (object_at l i))

  abbrev pub high_of : ℕ → ℕ
  high_of i = not_right (right_end (object_at l i))

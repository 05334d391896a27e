-- Extents in x (document 02, R-6): "orders the objects by their left ends and compares only those whose extents in x overlap or touch, over
-- extended points." An extent goes from the x of an object's left end to that of its right end.
use Rattle.std.specs.Prelude.{Bool, cond, not, ◌||◌, pos}
use Rattle.std.specs.Int.Signed.{lt_z}
use Rattle.sheet.specs.declared.Object.{Object}
use Rattle.sheet.specs.declared.Point.{Point}
use Rattle.sheet.specs.Ends.{first_end, last_end}
use Rattle.sheet.specs.Signs.{order_in_x}

-- p is left of q, by x alone
unfoldable pub is_left : Point → Point → Bool
is_left p q = lt_z (order_in_x p q) (pos 0)

-- of an object's two ends the left one and the right one; where both have one x, its first and its last
unfoldable pub left_end : Object → Point
unfolding is_left first_end last_end
left_end o = cond (is_left (last_end o) (first_end o)) (last_end o) (first_end o)

unfoldable pub right_end : Object → Point
unfolding is_left first_end last_end
right_end o = cond (is_left (last_end o) (first_end o)) (first_end o) (last_end o)

-- the extent of a ends left of where that of b begins
unfoldable pub ends_before : Object → Object → Bool
unfolding is_left left_end right_end
ends_before a b = is_left (right_end a) (left_end b)

-- "overlap or touch": neither ends left of where the other begins
unfoldable pub near : Object → Object → Bool
unfolding ends_before
near a b = not (ends_before a b || ends_before b a)

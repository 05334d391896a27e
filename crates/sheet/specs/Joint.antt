-- Joints (document 02, R-8): "A pair whose single common point is an end of both objects is now left out of rows unless the caller asks for
-- joints." This is the one place that says which pair is one, and what is kept of a pair.
use Rattle.std.specs.Prelude.{Bool, false, cond, not, ◌&&◌, ◌||◌}
use Rattle.whole.specs.Flag.{eq_z}
use Rattle.sheet.specs.declared.Object.{Object}
use Rattle.sheet.specs.declared.Point.{Point}
use Rattle.sheet.specs.Figure.{Figure, figure}
use Rattle.sheet.specs.Ends.{first_of, last_of}
use Rattle.sheet.specs.Crossing.{Meeting, none, point, many, crossing_of}

-- "Two points are equal exactly when their five numbers are."
abbrev pub is_same_point : Point → Point → Bool
is_same_point p q = eq_z p.mx q.mx && eq_z p.nx q.nx && eq_z p.my q.my && eq_z p.ny q.ny && eq_z p.w q.w

-- "an end": the first or the last
abbrev pub is_end : Figure → Point → Bool
is_end f e = is_same_point e (first_of f) || is_same_point e (last_of f)

-- of what two share: a "single common point" that "is an end of both objects"
abbrev pub joint_by : Figure → Figure → Meeting → Bool
joint_by f g none = false
joint_by f g (point e) = is_end f e && is_end g e
joint_by f g many = false

unfoldable pub joint : Object → Object → Bool
joint a b = joint_by (figure a) (figure b) (crossing_of a b)

-- what a and b share, but nothing of a joint: "left out .. unless the caller asks for joints"
unfoldable pub kept : Bool → Object → Object → Meeting
kept joints a b = cond (joints || not (joint a b)) (crossing_of a b) none

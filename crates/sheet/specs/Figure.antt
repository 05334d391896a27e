-- What the first five numbers of an object mean: a segment, a ray or a line by two given points, or a side of the frame.
use Rattle.std.specs.Prelude.{cond, ℤ, pos, negsuc, ◌-ℤ◌}
use Rattle.whole.specs.Flag.{eq_z}
use Rattle.sheet.specs.declared.Object.{Object}

-- a given point or a direction, by whole numbers
pub record Vec : Type 0 where
  pub x : ℤ
  pub y : ℤ

-- of two numbers
abbrev pub vec : ℤ → ℤ → Vec
vec x y = record { x = x; y = y }

-- from p to q
abbrev pub ◌⇀◌ : Vec → Vec → Vec
p ⇀ q = record { x = q.x -ℤ p.x; y = q.y -ℤ p.y }

infix 7 ◌⇀◌
pub data Side : Type 0 where
  left bottom right top : Side

-- "1 left .. 2 bottom .. 3 right .. 4 top"
abbrev pub side_number : Side → ℤ
side_number left = pos 1
side_number bottom = pos 2
side_number right = pos 3
side_number top = pos 4

-- the way out of the square over each side
abbrev pub out_x : Side → ℤ
out_x left = negsuc 0
out_x bottom = pos 0
out_x right = pos 1
out_x top = pos 0

abbrev pub out_y : Side → ℤ
out_y left = pos 0
out_y bottom = negsuc 0
out_y right = pos 0
out_y top = pos 1

-- "Kind 1, segment from p to q. Kind 2, ray from p through q. Kind 3, line through p and q, directed from p to q. .. Kind 4, a whole frame side."
pub data Figure : Type 0 where
  segment ray line : Vec → Vec → Figure
  side : Side → Figure

-- the side of a number
unfoldable pub side_of : ℤ → Side
side_of n = cond (eq_z n (pos 1)) left (cond (eq_z n (pos 2)) bottom (cond (eq_z n (pos 3)) right top))

-- the figure of an object's numbers
unfoldable pub figure_of : ℤ → ℤ → ℤ → ℤ → ℤ → Figure
figure_of kind px py qx qy =
    cond (eq_z kind (pos 1)) (segment (vec px py) (vec qx qy))
    (cond (eq_z kind (pos 2)) (ray (vec px py) (vec qx qy))
    (cond (eq_z kind (pos 3)) (line (vec px py) (vec qx qy)) (side (side_of px))))

abbrev pub first : Object → Vec
first o = vec o.px o.py

abbrev pub second : Object → Vec
second o = vec o.qx o.qy

abbrev pub figure : Object → Figure
figure o = figure_of o.kind o.px o.py o.qx o.qy

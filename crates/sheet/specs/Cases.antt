-- Objects and points by their numbers, for the worked lists of this crate and of those above it.
use Rattle.std.specs.Prelude.{ℕ, ℤ, pos, neg_ℤ}
use Rattle.sheet.specs.declared.Object.{Object}
use Rattle.sheet.specs.declared.Point.{Point}

-- -n
abbrev pub minus : ℕ → ℤ
minus n = neg_ℤ (pos n)

-- of tag 0; any other tag is given by `tagged` (Tags)
abbrev pub object : ℤ → ℤ → ℤ → ℤ → ℤ → Object
object kind px py qx qy = record { kind = kind; px = px; py = py; qx = qx; qy = qy; tag = pos 0 }

abbrev pub segment : ℤ → ℤ → ℤ → ℤ → Object
segment px py qx qy = object (pos 1) px py qx qy

abbrev pub ray : ℤ → ℤ → ℤ → ℤ → Object
ray px py qx qy = object (pos 2) px py qx qy

abbrev pub line : ℤ → ℤ → ℤ → ℤ → Object
line px py qx qy = object (pos 3) px py qx qy

abbrev pub side : ℤ → Object
side n = object (pos 4) n (pos 0) (pos 0) (pos 0)

abbrev pub point : ℤ → ℤ → ℤ → ℤ → ℤ → Point
point mx nx my ny w = record { mx = mx; nx = nx; my = my; ny = ny; w = w }

-- a given point
abbrev pub at : ℤ → ℤ → Point
at x y = point (pos 0) x (pos 0) y (pos 1)

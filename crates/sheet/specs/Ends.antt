-- "Ends (document 002, 3.2)": the two ends of an object, in its direction.
use Rattle.std.specs.Prelude.{cond, ℤ, pos, negsuc, neg_ℤ, ◌-ℤ◌, ◌*ℤ◌}
use Rattle.std.specs.Int.Signed.{lt_z, le_z}
use Rattle.whole.specs.Sign.{sgn}
use Rattle.sheet.specs.declared.Object.{Object}
use Rattle.sheet.specs.declared.Point.{Point}
use Rattle.sheet.specs.Figure.{Vec, ◌⇀◌, Side, left, bottom, right, top, Figure, segment, ray, line, side, figure, figure_of}
use Rattle.sheet.specs.Points.{size, given, divided}

-- "k = dx py - dy px"
abbrev pub moment : Vec → Vec → ℤ
moment p d = d.x *ℤ p.y -ℤ d.y *ℤ p.x

-- "|dx| > |dy|: (sx w, 0, dy, sx k, w) with w = |dx|"
abbrev pub flat : ℤ → ℤ → ℤ → Point
flat dx dy k = record { mx = sgn dx *ℤ size dx; nx = pos 0; my = dy; ny = sgn dx *ℤ k; w = size dx }

-- "|dy| > |dx|: (dx, -sy k, sy w, 0, w) with w = |dy|"
abbrev pub steep : ℤ → ℤ → ℤ → Point
steep dx dy k = record { mx = dx; nx = neg_ℤ (sgn dy *ℤ k); my = sgn dy *ℤ size dy; ny = pos 0; w = size dy }

-- "equal: the first form if sx sy k is 0 or less, else the second"
unfoldable pub far_raw : ℤ → ℤ → ℤ → Point
far_raw dx dy k =
    cond (lt_z (size dy) (size dx)) (flat dx dy k)
    (cond (lt_z (size dx) (size dy)) (steep dx dy k)
    (cond (le_z (sgn dx *ℤ sgn dy *ℤ k) (pos 0)) (flat dx dy k) (steep dx dy k)))

-- "The far end, before dividing by the common divisor, is ..": of the line through p in the direction d
unfoldable pub far_end : Vec → Vec → Point
unfolding far_raw divided
far_end p d = divided (far_raw d.x d.y (moment p d))

-- "Reversing negates dx, dy and k."
abbrev pub reverse : Vec → Vec
reverse d = record { x = neg_ℤ d.x; y = neg_ℤ d.y }

abbrev pub corner : ℤ → ℤ → Point
corner mx my = record { mx = mx; nx = pos 0; my = my; ny = pos 0; w = pos 1 }

-- "1 left, from (-R, R) to (-R, -R); 2 bottom, to (R, -R); 3 right, to (R, R); 4 top, back to (-R, R)"
abbrev pub begins : Side → Point
begins left = corner (negsuc 0) (pos 1)
begins bottom = corner (negsuc 0) (negsuc 0)
begins right = corner (pos 1) (negsuc 0)
begins top = corner (pos 1) (pos 1)

abbrev pub next_side : Side → Side
next_side left = bottom
next_side bottom = right
next_side right = top
next_side top = left

-- "Segment: p and q. Side: its two corners. Ray: p, and the far end below. Line: the far end of the reversed line, and the far end."
abbrev pub first_of : Figure → Point
first_of (segment p q) = given p
first_of (ray p q) = given p
first_of (line p q) = far_end p (reverse (p ⇀ q))
first_of (side n) = begins n

abbrev pub last_of : Figure → Point
last_of (segment p q) = given q
last_of (ray p q) = far_end p (p ⇀ q)
last_of (line p q) = far_end p (p ⇀ q)
last_of (side n) = begins (next_side n)

unfoldable pub first_end : Object → Point
unfolding figure_of
first_end o = first_of (figure o)

unfoldable pub last_end : Object → Point
unfolding figure_of
last_end o = last_of (figure o)

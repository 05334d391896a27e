-- Extents, worked out by document 02's words: "orders the objects by their left ends and compares only those whose extents in x overlap or
-- touch, over extended points". A definition that says something else is refused here, whatever the code does.
use Rattle.std.specs.Prelude.{◌≡◌, refl, Bool, true, false, List, [], ◌∷◌, map, ℤ, pos}
use Rattle.whole.specs.Sign.{sgn}
use Rattle.whole.specs.Divisor.{steps, gcd, gcd_of}
use Rattle.sheet.specs.declared.Object.{Object}
use Rattle.sheet.specs.Figure.{side_of, figure_of}
use Rattle.sheet.specs.Points.{divided}
use Rattle.sheet.specs.Ends.{far_raw, far_end, first_end, last_end}
use Rattle.sheet.specs.Extent.{is_left, left_end, right_end, ends_before, near}
use Rattle.sheet.specs.Tags.{tagged}
use Rattle.sheet.specs.Cases.{minus, segment, ray, line, side, point, at}

-- a segment from one x to another, at heights that do not matter
abbrev from : ℤ → ℤ → Object
from x x' = segment x (pos 7) x' (minus 3)

-- whether an object is near each of some
abbrev near_each : Object → List Object → List Bool
near_each o = map (near o)

abbrev with_sides : Object → List Bool
with_sides o = near_each o (map side (pos 1 ∷ pos 2 ∷ pos 3 ∷ pos 4 ∷ []))

-- upright, over x = 5
abbrev upright : Object
upright = line (pos 5) (pos 0) (pos 5) (pos 1)

-- two steep lines beside each other: both end over R / 2 and -R / 2, the second 1 farther right
abbrev steep : Object
steep = line (pos 0) (pos 0) (pos 1) (pos 2)

abbrev beside_steep : Object
beside_steep = line (pos 1) (pos 0) (pos 2) (pos 2)

-- at 45 degrees: it leaves over the top, 1 short of the corner
abbrev short : Object
short = line (pos 0) (pos 1) (pos 1) (pos 2)

pub record WorkedExtents : Type 0 where
  -- by x alone, of fractions; y does not count
  left-of :
      (is_left (at (pos 1) (pos 9)) (at (pos 2) (pos 0)) ≡ true) × (is_left (at (pos 2) (pos 0)) (at (pos 1) (pos 9)) ≡ false)
      × (is_left (at (pos 1) (pos 0)) (at (pos 1) (pos 9)) ≡ false) × (is_left (at (pos 1) (pos 9)) (at (pos 1) (pos 0)) ≡ false)
      × (is_left (point (pos 0) (pos 1) (pos 0) (pos 0) (pos 3)) (point (pos 0) (pos 1) (pos 0) (pos 0) (pos 2)) ≡ true)
      × (is_left (point (pos 0) (pos 1) (pos 0) (pos 0) (pos 2)) (point (pos 0) (pos 1) (pos 0) (pos 0) (pos 3)) ≡ false)
  -- "over extended points": what stands before R comes first, over its w; where that agrees the rest decides
  far-out :
      (is_left (at (pos 2000) (pos 0)) (point (pos 1) (minus 9) (pos 4) (pos 0) (pos 4)) ≡ true)
      × (is_left (point (minus 1) (pos 9) (pos 4) (pos 0) (pos 4)) (at (minus 2000) (pos 0)) ≡ true)
      × (is_left (point (pos 1) (pos 9) (pos 3) (pos 0) (pos 3)) (point (pos 1) (pos 0) (pos 2) (pos 0) (pos 2)) ≡ true)
      × (is_left (point (pos 1) (pos 0) (pos 2) (pos 0) (pos 2)) (point (pos 1) (pos 2) (pos 2) (pos 0) (pos 2)) ≡ true)
      × (is_left (point (pos 1) (pos 2) (pos 2) (pos 0) (pos 2)) (point (pos 1) (pos 0) (pos 2) (pos 0) (pos 2)) ≡ false)
  -- the left end and the right end, whichever way the arrow points
  two_ends :
      (left_end (segment (pos 0) (pos 2) (pos 4) (pos 1)) ≡ at (pos 0) (pos 2)) × (right_end (segment (pos 0) (pos 2) (pos 4) (pos 1)) ≡ at (pos 4) (pos 1))
      × (left_end (segment (pos 4) (pos 1) (pos 0) (pos 2)) ≡ at (pos 0) (pos 2)) × (right_end (segment (pos 4) (pos 1) (pos 0) (pos 2)) ≡ at (pos 4) (pos 1))
  -- where both have one x, the first and the last, up or down
  of-one-x :
      (left_end upright ≡ point (pos 0) (pos 5) (minus 1) (pos 0) (pos 1)) × (right_end upright ≡ point (pos 0) (pos 5) (pos 1) (pos 0) (pos 1))
      × (left_end (segment (pos 5) (pos 3) (pos 5) (pos 0)) ≡ at (pos 5) (pos 3)) × (right_end (segment (pos 5) (pos 3) (pos 5) (pos 0)) ≡ at (pos 5) (pos 0))
      × (left_end (segment (pos 5) (pos 0) (pos 5) (pos 3)) ≡ at (pos 5) (pos 0)) × (right_end (segment (pos 5) (pos 0) (pos 5) (pos 3)) ≡ at (pos 5) (pos 3))
      × (left_end (side (pos 1)) ≡ point (minus 1) (pos 0) (pos 1) (pos 0) (pos 1))
      × (right_end (side (pos 1)) ≡ point (minus 1) (pos 0) (minus 1) (pos 0) (pos 1))
  -- the far ends: of a line both, of a ray one; side 4 goes to the left
  far-ends :
      (left_end steep ≡ point (minus 1) (pos 0) (minus 2) (pos 0) (pos 2)) × (right_end steep ≡ point (pos 1) (pos 0) (pos 2) (pos 0) (pos 2))
      × (left_end beside_steep ≡ point (minus 1) (pos 2) (minus 2) (pos 0) (pos 2)) × (right_end beside_steep ≡ point (pos 1) (pos 2) (pos 2) (pos 0) (pos 2))
      × (left_end (line (pos 2) (pos 2) (pos 1) (pos 0)) ≡ point (minus 1) (pos 2) (minus 2) (pos 0) (pos 2))
      × (left_end (ray (pos 3) (pos 0) (pos 2) (pos 0)) ≡ point (minus 1) (pos 0) (pos 0) (pos 0) (pos 1))
      × (right_end (ray (pos 3) (pos 0) (pos 2) (pos 0)) ≡ at (pos 3) (pos 0))
      × (left_end (side (pos 4)) ≡ point (minus 1) (pos 0) (pos 1) (pos 0) (pos 1)) × (right_end (side (pos 4)) ≡ point (pos 1) (pos 0) (pos 1) (pos 0) (pos 1))
  -- of two beside each other in n alone: by their left ends, and by their right ends
  beside-in-n :
      (is_left (left_end steep) (left_end beside_steep) ≡ true) × (is_left (left_end beside_steep) (left_end steep) ≡ false)
      × (is_left (right_end steep) (right_end beside_steep) ≡ true) × (near steep beside_steep ≡ true)
  -- "touch": one ends where the other begins, whichever comes first and whichever way they point
  touching :
      (near (from (pos 0) (pos 2)) (from (pos 2) (pos 4)) ≡ true) × (near (from (pos 2) (pos 4)) (from (pos 0) (pos 2)) ≡ true)
      × (near (from (pos 2) (pos 0)) (from (pos 4) (pos 2)) ≡ true) × (ends_before (from (pos 0) (pos 2)) (from (pos 2) (pos 4)) ≡ false)
  -- "overlap": in part, one within the other, the same, and one above the other
  overlapping :
      near_each (from (pos 0) (pos 4)) (from (pos 3) (pos 9) ∷ from (minus 9) (pos 1) ∷ from (pos 1) (pos 2) ∷ from (pos 9) (minus 9) ∷ from (pos 0) (pos 4)
      ∷ segment (pos 0) (pos 99) (pos 4) (pos 99) ∷ [])
      ≡ true ∷ true ∷ true ∷ true ∷ true ∷ true ∷ []
  -- neither
  standing_apart :
      (near (from (pos 0) (pos 2)) (from (pos 3) (pos 4)) ≡ false) × (near (from (pos 3) (pos 4)) (from (pos 0) (pos 2)) ≡ false)
      × (near (from (pos 2) (pos 0)) (from (pos 4) (pos 3)) ≡ false)
      × (ends_before (from (pos 0) (pos 2)) (from (pos 3) (pos 4)) ≡ true) × (ends_before (from (pos 3) (pos 4)) (from (pos 0) (pos 2)) ≡ false)
  -- upright: its one x
  over-one-x :
      near_each upright (from (pos 5) (pos 9) ∷ from (pos 1) (pos 5) ∷ from (pos 1) (pos 9) ∷ upright ∷ from (pos 6) (pos 9) ∷ from (pos 1) (pos 4) ∷ [])
      ≡ true ∷ true ∷ true ∷ true ∷ false ∷ false ∷ []
  -- a ray: whatever is on its way from its start on; upright, its start alone
  rays :
      (near_each (ray (pos 3) (pos 0) (pos 4) (pos 5)) (from (pos 100) (pos 200) ∷ from (pos 0) (pos 3) ∷ from (pos 0) (pos 2) ∷ [])
      ≡ true ∷ true ∷ false ∷ [])
      × (near_each (ray (pos 3) (pos 0) (pos 2) (pos 5)) (from (minus 100) (minus 200) ∷ from (pos 3) (pos 9) ∷ from (pos 4) (pos 9) ∷ [])
      ≡ true ∷ true ∷ false ∷ [])
      × (near_each (ray (pos 3) (pos 0) (pos 3) (pos 5)) (from (pos 3) (pos 9) ∷ from (pos 4) (pos 9) ∷ from (pos 0) (pos 2) ∷ [])
      ≡ true ∷ false ∷ false ∷ [])
  -- the sides: what ends on one is near it; opposite ones stand apart
  sides :
      (with_sides (side (pos 1)) ≡ true ∷ true ∷ false ∷ true ∷ []) × (with_sides (side (pos 2)) ≡ true ∷ true ∷ true ∷ true ∷ [])
      × (with_sides (side (pos 3)) ≡ false ∷ true ∷ true ∷ true ∷ []) × (with_sides (side (pos 4)) ≡ true ∷ true ∷ true ∷ true ∷ [])
  with-a-side :
      (with_sides (line (pos 0) (pos 0) (pos 2) (pos 1)) ≡ true ∷ true ∷ true ∷ true ∷ [])
      × (with_sides (ray (pos 0) (pos 0) (pos 2) (pos 1)) ≡ false ∷ true ∷ true ∷ true ∷ [])
      × (with_sides steep ≡ false ∷ true ∷ false ∷ true ∷ []) × (with_sides (from (minus 2000) (pos 2000)) ≡ false ∷ true ∷ false ∷ true ∷ [])
  -- 1 short of the corner is apart from the side
  short-of-a-side :
      (with_sides short ≡ true ∷ true ∷ false ∷ true ∷ [])
      × (with_sides (line (pos 0) (minus 1) (pos 1) (pos 0)) ≡ false ∷ true ∷ true ∷ true ∷ [])
      × (with_sides (line (pos 0) (pos 0) (pos 1) (pos 1)) ≡ true ∷ true ∷ true ∷ true ∷ [])
  of_other_layers : near (tagged (pos 7) (from (pos 0) (pos 2))) (tagged (pos 8) (from (pos 2) (pos 4))) ≡ true

pub worked-extents : WorkedExtents
unfolding is_left left_end right_end ends_before near sgn steps gcd gcd_of side_of figure_of divided far_raw far_end first_end last_end
worked-extents = record {
  left-of = (refl, refl, refl, refl, refl, refl);
  far-out = (refl, refl, refl, refl, refl);
  two_ends = (refl, refl, refl, refl);
  of-one-x = (refl, refl, refl, refl, refl, refl, refl, refl);
  far-ends = (refl, refl, refl, refl, refl, refl, refl, refl, refl);
  beside-in-n = (refl, refl, refl, refl);
  touching = (refl, refl, refl, refl);
  overlapping = refl;
  standing_apart = (refl, refl, refl, refl, refl);
  over-one-x = refl;
  rays = (refl, refl, refl);
  sides = (refl, refl, refl, refl);
  with-a-side = (refl, refl, refl, refl);
  short-of-a-side = (refl, refl, refl);
  of_other_layers = refl;
}

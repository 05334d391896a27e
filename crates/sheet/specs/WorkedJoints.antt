-- Joints, worked out by document 02's words: "A pair whose single common point is an end of both objects". A definition that says something
-- else is refused here, whatever the code does.
use Rattle.std.specs.Prelude.{◌≡◌, refl, Bool, true, false, List, [], ◌∷◌, map, pos}
use Rattle.whole.specs.Sign.{sgn}
use Rattle.whole.specs.Divisor.{steps, gcd, gcd_of}
use Rattle.sheet.specs.declared.Object.{Object}
use Rattle.sheet.specs.Figure.{side_of, figure_of, figure}
use Rattle.sheet.specs.Points.{divided}
use Rattle.sheet.specs.Ends.{far_raw, far_end}
use Rattle.sheet.specs.Crossing.{none, many, stretches, with_side, with_stretch, meeting, crossing_of}
use Rattle.sheet.specs.Crossing as crossing
use Rattle.sheet.specs.Joint.{is_same_point, is_end, joint, kept}
use Rattle.sheet.specs.Tags.{tagged}
use Rattle.sheet.specs.Cases.{minus, segment, ray, line, side, point, at}

-- the segment that all the others are held against, from (0, 0) to (4, 0)
abbrev sill : Object
sill = segment (pos 0) (pos 0) (pos 4) (pos 0)

-- upright, at its last point, up and down, and in its middle
abbrev up : Object
up = segment (pos 4) (pos 0) (pos 4) (pos 3)

abbrev down : Object
down = segment (pos 4) (pos 3) (pos 4) (pos 0)

abbrev middle : Object
middle = segment (pos 2) (pos 0) (pos 2) (pos 3)

-- lines at 45 degrees: through the origin, into two corners of the frame each; and one beside them
abbrev rising : Object
rising = line (pos 0) (pos 0) (pos 1) (pos 1)

abbrev falling : Object
falling = line (pos 0) (pos 0) (pos 1) (minus 1)

abbrev beside : Object
beside = line (pos 0) (pos 1) (pos 1) (pos 2)

-- whether an object is a joint with each of the four sides
abbrev with_sides : Object → List Bool
with_sides o = map (λ n. joint o (side n)) (pos 1 ∷ pos 2 ∷ pos 3 ∷ pos 4 ∷ [])

pub record WorkedJoints : Type 0 where
  -- "Two points are equal exactly when their five numbers are": each of the five counts
  five-numbers :
      (is_same_point (point (pos 1) (pos 2) (pos 3) (pos 4) (pos 5)) (point (pos 1) (pos 2) (pos 3) (pos 4) (pos 5)) ≡ true)
      × (map (is_same_point (point (pos 1) (pos 2) (pos 3) (pos 4) (pos 5)))
      (point (pos 0) (pos 2) (pos 3) (pos 4) (pos 5) ∷ point (pos 1) (pos 0) (pos 3) (pos 4) (pos 5) ∷ point (pos 1) (pos 2) (pos 0) (pos 4) (pos 5)
      ∷ point (pos 1) (pos 2) (pos 3) (pos 0) (pos 5) ∷ point (pos 1) (pos 2) (pos 3) (pos 4) (pos 0) ∷ [])
      ≡ false ∷ false ∷ false ∷ false ∷ false ∷ [])
  -- its first and its last; the q that a ray or a line goes through is none
  two_ends :
      (map (is_end (figure sill)) (at (pos 0) (pos 0) ∷ at (pos 4) (pos 0) ∷ at (pos 2) (pos 0) ∷ []) ≡ true ∷ true ∷ false ∷ [])
      × (map (is_end (figure (ray (pos 0) (pos 0) (pos 4) (pos 0)))) (at (pos 0) (pos 0) ∷ at (pos 4) (pos 0) ∷ point (pos 1) (pos 0) (pos 0) (pos 0) (pos 1) ∷ [])
      ≡ true ∷ false ∷ true ∷ [])
  -- the corner of a chain, whichever way the two arrows point, and whichever of the two comes first
  chain :
      (joint sill up ≡ true) × (joint sill down ≡ true) × (joint up sill ≡ true) × (joint down sill ≡ true)
      × (joint (segment (pos 4) (pos 0) (pos 0) (pos 0)) up ≡ true)
  -- end to end on one line
  on-one-line :
      (joint sill (segment (pos 4) (pos 0) (pos 9) (pos 0)) ≡ true) × (joint sill (segment (pos 9) (pos 0) (pos 4) (pos 0)) ≡ true)
      × (joint sill (ray (pos 4) (pos 0) (pos 5) (pos 0)) ≡ true)
      × (joint (ray (pos 4) (pos 0) (pos 3) (pos 0)) (ray (pos 4) (pos 0) (pos 5) (pos 0)) ≡ true)
  -- an end of one alone: a touch in the middle of the other; and a crossing in the middle of both
  touches :
      (joint sill middle ≡ false) × (joint middle sill ≡ false) × (joint sill (segment (pos 2) (minus 3) (pos 2) (pos 3)) ≡ false)
      × (joint sill (line (pos 4) (pos 0) (pos 5) (pos 1)) ≡ false)
  -- a ray's own start on another's end; its q there is no end of it
  starts :
      (joint sill (ray (pos 4) (pos 0) (pos 7) (pos 1)) ≡ true) × (joint sill (ray (pos 7) (pos 1) (pos 4) (pos 0)) ≡ false)
      × (joint (ray (pos 1) (pos 1) (pos 2) (pos 1)) (ray (pos 1) (pos 1) (pos 1) (pos 2)) ≡ true)
      × (joint sill (ray (pos 2) (pos 0) (pos 2) (pos 1)) ≡ false)
  -- two that share many, and two that share nothing
  many-or-nothing :
      (joint sill sill ≡ false) × (joint sill (segment (pos 4) (pos 0) (pos 3) (pos 0)) ≡ false) × (joint (side (pos 1)) (side (pos 1)) ≡ false)
      × (joint sill (segment (pos 0) (pos 1) (pos 4) (pos 1)) ≡ false)
  -- two sides at their corner; opposite ones share nothing
  corners :
      (with_sides (side (pos 1)) ≡ false ∷ true ∷ false ∷ true ∷ []) × (with_sides (side (pos 2)) ≡ true ∷ false ∷ true ∷ false ∷ [])
      × (with_sides (side (pos 3)) ≡ false ∷ true ∷ false ∷ true ∷ []) × (with_sides (side (pos 4)) ≡ true ∷ false ∷ true ∷ false ∷ [])
  -- a line or a ray with a side, only at a corner
  with-a-side :
      (with_sides rising ≡ true ∷ true ∷ true ∷ true ∷ []) × (with_sides falling ≡ true ∷ true ∷ true ∷ true ∷ [])
      × (with_sides beside ≡ false ∷ false ∷ false ∷ false ∷ [])
      × (with_sides (ray (pos 0) (pos 0) (pos 2) (minus 2)) ≡ false ∷ true ∷ true ∷ false ∷ [])
      × (joint (side (pos 4)) rising ≡ true) × (joint (side (pos 4)) beside ≡ false)
  -- "The worked listing in document 01 keeps both its rows: neither is a joint."
  neither :
      (joint (line (pos 0) (pos 0) (pos 2) (pos 1)) (segment (pos 0) (pos 2) (pos 2) (pos 0)) ≡ false)
      × (joint (line (pos 0) (pos 0) (pos 2) (pos 1)) (side (pos 3)) ≡ false)
  of_other_layers : joint (tagged (pos 7) sill) (tagged (pos 8) up) ≡ true
  -- "left out .. unless the caller asks for joints"
  left_out : (kept false sill up ≡ none) × (kept false (side (pos 1)) (side (pos 2)) ≡ none)
  asked_for : (kept true sill up ≡ crossing.point (at (pos 4) (pos 0))) × (kept true sill sill ≡ many)
  others-stay :
      (kept false sill middle ≡ crossing.point (at (pos 2) (pos 0))) × (kept false sill sill ≡ many)
      × (kept false (side (pos 1)) (side (pos 3)) ≡ none)

pub worked-joints : WorkedJoints
unfolding joint kept stretches with_side with_stretch meeting crossing_of sgn steps gcd gcd_of side_of figure_of divided far_raw far_end
worked-joints = record {
  five-numbers = (refl, refl);
  two_ends = (refl, refl);
  chain = (refl, refl, refl, refl, refl);
  on-one-line = (refl, refl, refl, refl);
  touches = (refl, refl, refl, refl);
  starts = (refl, refl, refl, refl);
  many-or-nothing = (refl, refl, refl, refl);
  corners = (refl, refl, refl, refl);
  with-a-side = (refl, refl, refl, refl, refl, refl);
  neither = (refl, refl);
  of_other_layers = refl;
  left_out = (refl, refl);
  asked_for = (refl, refl);
  others-stay = (refl, refl, refl);
}

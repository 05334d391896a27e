-- How near crossings of accepted objects come to the limits for points. No crossing comes nearer: docs/FORMAT.md says why. A limit that is
-- lower than what is reached here is refused here.
use Rattle.std.specs.Prelude.{◌≡◌, refl, true, pos}
use Rattle.whole.specs.Sign.{sgn}
use Rattle.whole.specs.Divisor.{steps, gcd, gcd_of}
use Rattle.sheet.specs.declared.Object.{Object}
use Rattle.sheet.specs.declared.Point.{Point}
use Rattle.sheet.specs.Figure.{side_of, figure_of}
use Rattle.sheet.specs.Refusal.{pair_refusal, side_refusal, object_refusal}
use Rattle.sheet.specs.Points.{divided, standard, narrow, frame, is_point}
use Rattle.sheet.specs.Ends.{far_raw, far_end}
use Rattle.sheet.specs.Crossing.{stretches, with_side, with_stretch, meeting, crossing_of, crossing_refusal}
use Rattle.sheet.specs.Crossing as crossing
use Rattle.sheet.specs.Cases.{minus, line, side, point}

-- two objects that are taken, what they share, and that it is a point
pub record Reached (a b : Object) (e : Point) : Type 0 where
  taken : crossing_refusal a b ≡ pos 0
  shared : crossing_of a b ≡ crossing.point e
  is-point : is_point e ≡ true

pub record WorkedReach : Type 0 where
  -- "Standard: .. w at most 32,000,000": nearly along the two diagonals
  widest :
      Reached (line (minus 2000) (minus 2000) (pos 2000) (pos 1999)) (line (pos 1999) (minus 2000) (minus 2000) (pos 2000))
      (point (pos 0) (minus 2000) (pos 0) (minus 15998000) (pos 31992001))
  -- ".. nx and ny within 64,000,000,000 either way": nearly along two opposite edges of the sheet
  farthest-x :
      Reached (line (minus 2000) (pos 2000) (pos 2000) (pos 1999)) (line (minus 2000) (minus 1999) (pos 1999) (minus 2000))
      (point (pos 0) (minus 63968006000) (pos 0) (pos 15994001) (pos 1))
  farthest-y :
      Reached (line (pos 2000) (minus 2000) (pos 1999) (pos 2000)) (line (minus 1999) (minus 2000) (minus 2000) (pos 1999))
      (point (pos 0) (pos 15994001) (pos 0) (minus 63968006000) (pos 1))
  -- "Frame: w at most 4,000. .. Each n is within 8,000,000 either way"
  frame-x :
      Reached (line (minus 2000) (pos 2000) (pos 2000) (pos 1999)) (side (pos 3))
      (point (pos 4000) (pos 0) (minus 1) (pos 7998000) (pos 4000))
  frame-y :
      Reached (line (pos 2000) (minus 2000) (pos 1999) (pos 2000)) (side (pos 4))
      (point (minus 1) (pos 7998000) (pos 4000) (pos 0) (pos 4000))

pub worked-reach : WorkedReach
unfolding sgn steps gcd gcd_of side_of figure_of pair_refusal side_refusal object_refusal divided standard narrow frame is_point far_raw far_end stretches with_side with_stretch meeting crossing_of crossing_refusal
worked-reach = record {
  widest = record { taken = refl; shared = refl; is-point = refl };
  farthest-x = record { taken = refl; shared = refl; is-point = refl };
  farthest-y = record { taken = refl; shared = refl; is-point = refl };
  frame-x = record { taken = refl; shared = refl; is-point = refl };
  frame-y = record { taken = refl; shared = refl; is-point = refl };
}

-- Which five numbers are a point, and which points are too wide for a turn, worked out by document 01's limits, each with the number beside it
-- and both ways. A definition that says something else is refused here, whatever the code does.
use Rattle.std.specs.Prelude.{◌≡◌, refl, Bool, true, false, List, [], ◌∷◌, map, ℤ, pos}
use Rattle.whole.specs.Sign.{sgn}
use Rattle.whole.specs.Divisor.{steps, gcd, gcd_of}
use Rattle.sheet.specs.declared.Point.{Point}
use Rattle.sheet.specs.Points.{standard, narrow, frame, is_point, point_refusal}
use Rattle.sheet.specs.Cases.{minus, point, at}

-- of several: the refusal of each, and whether each is narrow
abbrev refusals : List Point → List ℤ
refusals ps = map point_refusal ps

abbrev narrows : List Point → List Bool
narrows ps = map narrow ps

-- standard points by nx, ny, w; points on the right side of the frame by my, ny, w, and on the top by mx, nx, w
abbrev inside : ℤ → ℤ → ℤ → Point
inside nx ny w = point (pos 0) nx (pos 0) ny w

abbrev on_right : ℤ → ℤ → ℤ → Point
on_right my ny w = point w (pos 0) my ny w

abbrev on_top : ℤ → ℤ → ℤ → Point
on_top mx nx w = point mx nx w (pos 0) w

pub record WorkedPoints : Type 0 where
  -- "The numbers of a point have greatest common divisor 1, and w is above 0. .. the origin is (0, 0, 0, 0, 1)."
  origin : point_refusal (at (pos 0) (pos 0)) ≡ pos 0
  divisor-left-in :
      refusals (inside (pos 0) (pos 0) (pos 2) ∷ inside (pos 2) (pos 4) (pos 6) ∷ on_right (pos 3) (pos 6) (pos 3) ∷ []) ≡ pos 5 ∷ pos 5 ∷ pos 5 ∷ []
  -- all but one of the five are even: nx, ny, w, my, ny, mx, nx
  divisor-of-all-five :
      refusals (inside (pos 1) (pos 2) (pos 2) ∷ inside (pos 2) (pos 1) (pos 2) ∷ inside (pos 2) (pos 2) (pos 1) ∷ on_right (pos 1) (pos 2) (pos 2)
      ∷ on_right (pos 2) (minus 1) (pos 2) ∷ on_top (pos 1) (pos 2) (pos 2) ∷ on_top (pos 2) (minus 1) (pos 2) ∷ [])
      ≡ pos 0 ∷ pos 0 ∷ pos 0 ∷ pos 0 ∷ pos 0 ∷ pos 0 ∷ pos 0 ∷ []
  w-not-above-0 :
      refusals (inside (pos 1) (pos 0) (pos 0) ∷ inside (pos 1) (pos 0) (minus 1) ∷ on_right (pos 0) (pos 0) (minus 1) ∷ []) ≡ pos 5 ∷ pos 5 ∷ pos 5 ∷ []
  -- "Standard: mx = my = 0, w at most 32,000,000, nx and ny within 64,000,000,000 either way."
  standard-w : refusals (inside (pos 1) (pos 1) (pos 32000000) ∷ inside (pos 1) (pos 1) (pos 32000001) ∷ []) ≡ pos 0 ∷ pos 5 ∷ []
  standard-nx :
      refusals (at (pos 64000000000) (pos 0) ∷ at (pos 64000000001) (pos 0) ∷ at (minus 64000000000) (pos 0) ∷ at (minus 64000000001) (pos 0) ∷ [])
      ≡ pos 0 ∷ pos 5 ∷ pos 0 ∷ pos 5 ∷ []
  standard-ny :
      refusals (at (pos 0) (pos 64000000000) ∷ at (pos 0) (pos 64000000001) ∷ at (pos 0) (minus 64000000000) ∷ at (pos 0) (minus 64000000001) ∷ [])
      ≡ pos 0 ∷ pos 5 ∷ pos 0 ∷ pos 5 ∷ []
  -- "Frame: w at most 4,000. .. Each n is within 8,000,000 either way."
  frame-w :
      refusals (on_right (pos 1) (pos 0) (pos 4000) ∷ on_right (pos 1) (pos 0) (pos 4001) ∷ on_top (pos 1) (pos 0) (pos 4000)
      ∷ on_top (pos 1) (pos 0) (pos 4001) ∷ [])
      ≡ pos 0 ∷ pos 5 ∷ pos 0 ∷ pos 5 ∷ []
  frame-nx :
      refusals (on_top (pos 0) (pos 8000000) (pos 1) ∷ on_top (pos 0) (pos 8000001) (pos 1) ∷ on_top (pos 0) (minus 8000000) (pos 1)
      ∷ on_top (pos 0) (minus 8000001) (pos 1) ∷ [])
      ≡ pos 0 ∷ pos 5 ∷ pos 0 ∷ pos 5 ∷ []
  frame-ny :
      refusals (on_right (pos 0) (pos 8000000) (pos 1) ∷ on_right (pos 0) (pos 8000001) (pos 1) ∷ on_right (pos 0) (minus 8000000) (pos 1)
      ∷ on_right (pos 0) (minus 8000001) (pos 1) ∷ [])
      ≡ pos 0 ∷ pos 5 ∷ pos 0 ∷ pos 5 ∷ []
  -- "At least one coordinate is exactly R or -R (|m| = w and n = 0)": all four; none, by n and by m
  exactly-on-it :
      refusals (on_right (pos 0) (pos 7) (pos 1) ∷ point (minus 1) (pos 0) (pos 0) (pos 7) (pos 1) ∷ on_top (pos 0) (pos 7) (pos 1)
      ∷ point (pos 0) (pos 7) (minus 1) (pos 0) (pos 1) ∷ [])
      ≡ pos 0 ∷ pos 0 ∷ pos 0 ∷ pos 0 ∷ []
  nowhere-on-it :
      refusals (point (pos 1) (minus 7) (pos 1) (minus 7) (pos 1) ∷ point (pos 1) (pos 0) (pos 1) (pos 0) (pos 2)
      ∷ point (pos 0) (pos 1) (pos 1) (minus 1) (pos 1) ∷ [])
      ≡ pos 5 ∷ pos 5 ∷ pos 5 ∷ []
  -- "Each coordinate has |m| < w, or |m| = w with n = 0 or n of the sign opposite to m."
  corners :
      refusals (on_right (pos 1) (pos 0) (pos 1) ∷ on_right (minus 1) (pos 0) (pos 1) ∷ on_top (minus 1) (pos 0) (pos 1)
      ∷ point (minus 1) (pos 0) (minus 1) (pos 0) (pos 1) ∷ [])
      ≡ pos 0 ∷ pos 0 ∷ pos 0 ∷ pos 0 ∷ []
  below_w : refusals (on_right (pos 2) (pos 7) (pos 3) ∷ on_top (minus 2) (minus 7) (pos 3) ∷ []) ≡ pos 0 ∷ pos 0 ∷ []
  above_w : refusals (on_right (pos 3) (minus 7) (pos 2) ∷ on_top (minus 3) (pos 7) (pos 2) ∷ []) ≡ pos 5 ∷ pos 5 ∷ []
  opposite-sign :
      refusals (on_right (pos 1) (minus 7) (pos 1) ∷ on_right (minus 1) (pos 7) (pos 1) ∷ on_top (pos 1) (minus 7) (pos 1) ∷ on_top (minus 1) (pos 7) (pos 1) ∷ [])
      ≡ pos 0 ∷ pos 0 ∷ pos 0 ∷ pos 0 ∷ []
  same_sign :
      refusals (on_right (pos 1) (pos 7) (pos 1) ∷ on_right (minus 1) (minus 7) (pos 1) ∷ on_top (pos 1) (pos 7) (pos 1) ∷ on_top (minus 1) (minus 7) (pos 1) ∷ [])
      ≡ pos 5 ∷ pos 5 ∷ pos 5 ∷ pos 5 ∷ []
  -- "Only narrow points are taken: w at most 4,000, each n within 8,000,000."
  narrow_w : narrows (inside (pos 1) (pos 1) (pos 4000) ∷ inside (pos 1) (pos 1) (pos 4001) ∷ []) ≡ true ∷ false ∷ []
  narrow-nx :
      narrows (at (pos 8000000) (pos 0) ∷ at (pos 8000001) (pos 0) ∷ at (minus 8000000) (pos 0) ∷ at (minus 8000001) (pos 0) ∷ [])
      ≡ true ∷ false ∷ true ∷ false ∷ []
  narrow-ny :
      narrows (at (pos 0) (pos 8000000) ∷ at (pos 0) (pos 8000001) ∷ at (pos 0) (minus 8000000) ∷ at (pos 0) (minus 8000001) ∷ [])
      ≡ true ∷ false ∷ true ∷ false ∷ []

pub worked-points : WorkedPoints
unfolding sgn steps gcd gcd_of standard narrow frame is_point point_refusal
worked-points = record {
  origin = refl;
  divisor-left-in = refl;
  divisor-of-all-five = refl;
  w-not-above-0 = refl;
  standard-w = refl;
  standard-nx = refl;
  standard-ny = refl;
  frame-w = refl;
  frame-nx = refl;
  frame-ny = refl;
  exactly-on-it = refl;
  nowhere-on-it = refl;
  corners = refl;
  below_w = refl;
  above_w = refl;
  opposite-sign = refl;
  same_sign = refl;
  narrow_w = refl;
  narrow-nx = refl;
  narrow-ny = refl;
}

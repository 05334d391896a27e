-- What the kernel's inner functions ask of the four points of a side of circle.
use Rattle.std.specs.Prelude.{◌≡◌, true, pos}
use Rattle.whole.specs.Within.{Within}
use Rattle.sheet.specs.declared.Point.{Point}
use Rattle.sheet.specs.Limits.{reach_size}
use Rattle.sheet.specs.PointFacts.{Frame}
use Rattle.sheet.specs.Circle.{is_given}

-- each of the first three is a given point
pub record Given (p : Point) : Type 0 where
  pub no_mx : p.mx ≡ pos 0
  pub no_my : p.my ≡ pos 0
  pub one : p.w ≡ pos 1
  pub in_nx : Within reach_size p.nx
  pub in_ny : Within reach_size p.ny

-- the fourth is a given point or one of the frame
pub data Fourth (u : Point) : Type 0 where
  a_given : is_given u ≡ true → Fourth u
  on_frame : Frame u → Fourth u

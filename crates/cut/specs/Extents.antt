-- Extents at R (document 02, R-6): "extents in x overlap or touch, over extended points".
use Rattle.std.specs.Prelude.{ℤ, pos, ◌<ℤ◌}
use Rattle.whole.specs.Fraction.{Equal, AtMost}
use Rattle.sheet.specs.declared.Object.{Object}
use Rattle.sheet.specs.declared.Point.{Point}
use Rattle.cut.specs.Place.{Place, put}
use Rattle.cut.specs.Cut.{Lies}

-- the piece of o goes from the x of l to the x of r: both points, put at R, are on it, and no place of it is left of l or right of r
pub record Extends (R : ℤ) (o : Object) (l r : Point) : Type 0 where
  pub left_above : pos 0 <ℤ l.w
  pub right_above : pos 0 <ℤ r.w
  pub left_on : Lies R o (put R l left_above)
  pub right_on : Lies R o (put R r right_above)
  pub none_left : (P : Place) → Lies R o P → AtMost (put R l left_above).across P.across
  pub none_right : (P : Place) → Lies R o P → AtMost P.across (put R r right_above).across

-- "overlap or touch": a place of the one piece and a place of the other have the same x
pub record Overlap (R : ℤ) (a b : Object) : Type 0 where
  pub of_first : Place
  pub of_second : Place
  pub on_first : Lies R a of_first
  pub on_second : Lies R b of_second
  pub same_x : Equal of_first.across of_second.across

-- What a place is, and where a point is at R.
use Rattle.std.specs.Prelude.{ℤ, pos, ◌+ℤ◌, ◌*ℤ◌, ◌<ℤ◌}
use Rattle.whole.specs.Order.{pp-mul, pp-pos}
use Rattle.whole.specs.Fraction.{Fraction, Equal}
use Rattle.sheet.specs.declared.Point.{Point}
use Rattle.sheet.specs.Figure.{Vec}

-- "a place .. is two fractions of whole numbers with denominators above 0"
pub record Place : Type 0 where
  pub across : Fraction
  pub up : Fraction

pub record SamePlace (P Q : Place) : Type 0 where
  pub same_across : Equal P.across Q.across
  pub same_up : Equal P.up Q.up

-- "A point is five numbers (mx, nx, my, ny, w) and means x = (mx R + nx)/w, y = (my R + ny)/w."
abbrev pub put : (R : ℤ) (e : Point) → pos 0 <ℤ e.w → Place
put R e h = record {
  across = record { num = e.mx *ℤ R +ℤ e.nx; den = e.w; above = h };
  up = record { num = e.my *ℤ R +ℤ e.ny; den = e.w; above = h };
}

-- whole numbers as a place: the same for every R
abbrev pub at : ℤ → ℤ → Place
at x y = record {
  across = record { num = x; den = pos 1; above = pp-pos 0 };
  up = record { num = y; den = pos 1; above = pp-pos 0 };
}

-- a place over one denominator: x is X / W, y is Y / W
pub record Spot : Type 0 where
  pub X : ℤ
  pub Y : ℤ
  pub W : ℤ
  pub above : pos 0 <ℤ W

abbrev pub spot : Place → Spot
spot P = record {
  X = P.across.num *ℤ P.up.den;
  Y = P.up.num *ℤ P.across.den;
  W = P.across.den *ℤ P.up.den;
  above = pp-mul P.across.above P.up.above;
}

-- a given point's own numbers
abbrev pub fixed : Vec → Spot
fixed a = record { X = a.x; Y = a.y; W = pos 1; above = pp-pos 0 }

-- a spot as a place
abbrev pub place_of : Spot → Place
place_of S = record {
  across = record { num = S.X; den = S.W; above = S.above };
  up = record { num = S.Y; den = S.W; above = S.above };
}

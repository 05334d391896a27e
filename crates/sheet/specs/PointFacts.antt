-- What standard, frame and narrow points are, as facts: the Boolean definitions of Points hold exactly where these do (PointsLaws).
use Rattle.std.specs.Prelude.{◌≡◌, ◌⊎◌, ℕ, ℤ, pos, neg_ℤ, ◌<ℤ◌}
use Rattle.whole.specs.Sign.{sgn}
use Rattle.whole.specs.Within.{Within}
use Rattle.sheet.specs.declared.Point.{Point}
use Rattle.sheet.specs.Limits.{standard_w_size, standard_n_size}
use Rattle.sheet.specs.Points.{divisor, size}

-- w is above 0 and at most n
pub record Denominator (n : ℕ) (w : ℤ) : Type 0 where
  pub above : pos 0 <ℤ w
  pub at_most : Within n w

-- "w at most 4,000, each n within 8,000,000"
pub record Narrow (p : Point) : Type 0 where
  pub in-w : Denominator 4000 p.w
  pub in_nx : Within 8000000 p.nx
  pub in_ny : Within 8000000 p.ny

pub record Standard (p : Point) : Type 0 where
  pub no_mx : p.mx ≡ pos 0
  pub no_my : p.my ≡ pos 0
  pub in-w : Denominator standard_w_size p.w
  pub in_nx : Within standard_n_size p.nx
  pub in_ny : Within standard_n_size p.ny

-- "exactly R or -R (|m| = w and n = 0)"
pub record OnEdge (m n w : ℤ) : Type 0 where
  pub full : size m ≡ w
  pub even : n ≡ pos 0

-- "|m| < w, or |m| = w with n = 0 or n of the sign opposite to m"
pub data BetweenEdges (m n w : ℤ) : Type 0 where
  inner : size m <ℤ w → BetweenEdges m n w
  on : size m ≡ w → n ≡ pos 0 → BetweenEdges m n w
  beside : size m ≡ w → sgn n ≡ neg_ℤ (sgn m) → BetweenEdges m n w

pub record Frame (p : Point) : Type 0 where
  pub slim : Narrow p
  pub on_edge : OnEdge p.mx p.nx p.w ⊎ OnEdge p.my p.ny p.w
  pub in_x : BetweenEdges p.mx p.nx p.w
  pub in_y : BetweenEdges p.my p.ny p.w

pub data APoint (p : Point) : Type 0 where
  a_standard : Standard p → divisor p ≡ 1 → APoint p
  a_frame : Frame p → divisor p ≡ 1 → APoint p

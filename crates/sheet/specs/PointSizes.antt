-- What the kernel's inner functions ask of the five numbers of a point. Every point has it (`point-sizes` in PointsLaws).
use Rattle.whole.specs.Within.{Within}
use Rattle.sheet.specs.declared.Point.{Point}
use Rattle.sheet.specs.Limits.{standard_w_size, standard_n_size}
use Rattle.sheet.specs.PointFacts.{Denominator}

pub record PointSizes (p : Point) : Type 0 where
  pub in_mx : Within 4000 p.mx
  pub in_nx : Within standard_n_size p.nx
  pub in_my : Within 4000 p.my
  pub in_ny : Within standard_n_size p.ny
  pub in-w : Denominator standard_w_size p.w

-- What the inner functions of the code ask of two numbers that are divided.
use Rattle.std.specs.Prelude.{ℤ}
use Rattle.whole.specs.Within.{Within}
use Rattle.sheet.specs.PointFacts.{Denominator}

-- the numbers that are divided: those of points
pub record Parts (n w : ℤ) : Type 0 where
  pub in_n : Within 64000000000 n
  pub in-w : Denominator 32000000 w

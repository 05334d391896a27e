-- A fraction: a whole number over one above 0.
use Rattle.std.specs.Prelude.{◌≡◌, ℤ, pos, neg_ℤ, ◌+ℤ◌, ◌*ℤ◌, ◌≤ℤ◌, ◌<ℤ◌}
use Rattle.whole.specs.Order.{pp-mul}

pub record Fraction : Type 0 where
  pub num : ℤ
  pub den : ℤ
  pub above : pos 0 <ℤ den

-- the same: cross products agree
pub record Equal (a b : Fraction) : Type 0 where
  pub equal : a.num *ℤ b.den ≡ b.num *ℤ a.den

-- at most, and less, by cross products
pub record AtMost (a b : Fraction) : Type 0 where
  pub at_most : (a.num *ℤ b.den) ≤ℤ (b.num *ℤ a.den)

pub record Less (a b : Fraction) : Type 0 where
  pub less : (a.num *ℤ b.den) <ℤ (b.num *ℤ a.den)

abbrev pub sum : Fraction → Fraction → Fraction
sum a b = record {
  num = a.num *ℤ b.den +ℤ b.num *ℤ a.den;
  den = a.den *ℤ b.den;
  above = pp-mul a.above b.above;
}

abbrev pub product : Fraction → Fraction → Fraction
product a b = record {
  num = a.num *ℤ b.num;
  den = a.den *ℤ b.den;
  above = pp-mul a.above b.above;
}

abbrev pub opposite : Fraction → Fraction
opposite a = record { num = neg_ℤ a.num; den = a.den; above = a.above }

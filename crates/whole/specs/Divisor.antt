-- Greatest common divisors: what one is, and how it is found by remainders. 0 is divisible by everything.
use Rattle.std.specs.Prelude.{true, false, List, [], ◌∷◌, ℕ, zero, suc, ◌%◌, eqb, ℤ, nat_abs}
use Rattle.std.specs.Int.{◌∣◌}

-- g divides a and b, and whatever divides both divides g
pub record IsGcd (a b g : ℕ) : Type 0 where
  pub left : g ∣ a
  pub right : g ∣ b
  pub most : (d : ℕ) → d ∣ a → d ∣ b → d ∣ g

-- d divides every number of a list
pub data DividesAll (d : ℕ) : List ℤ → Type 0 where
  none : DividesAll d []
  ◌also◌ : {z : ℤ} {zs : List ℤ} → d ∣ nat_abs z → DividesAll d zs → DividesAll d (z ∷ zs)

infixr 5 ◌also◌
-- g divides every number of the list, and whatever does divides g
pub record IsGcdOf (zs : List ℤ) (g : ℕ) : Type 0 where
  pub each : DividesAll g zs
  pub most : (d : ℕ) → DividesAll d zs → d ∣ g

-- by remainders, the second number falling; n counts the steps that are left, and b + 1 of them are enough
unfoldable pub steps : ℕ → ℕ → ℕ → ℕ
steps zero a b = a
steps (suc n) a b = elim (eqb b 0) [ true ↦ a | false ↦ steps n b (a % b) ]

unfoldable pub gcd : ℕ → ℕ → ℕ
unfolding steps
gcd a b = steps (suc b) a b

unfoldable pub gcd_of : List ℤ → ℕ
gcd_of [] = 0
gcd_of (z ∷ zs) = gcd (nat_abs z) (gcd_of zs)

-- A number and its distance from 0.
use Rattle.std.specs.Prelude.{ℕ, ◌≤◌, ℤ, nat_abs}

-- z is at most n away from 0
pub record Within (n : ℕ) (z : ℤ) : Type 0 where
  pub within : nat_abs z ≤ n

-- What a reading function of the code says of a reading: where it was taken, the value and how many bytes it took, else its refusal.
use Rattle.std.specs.Prelude.{◌≡◌, List, ℕ, ◌≤◌, ℤ, pos, length, drop}
use Rattle.number.specs.Number.{Reading, got, no}

pub record ReadAs {A : Type 0} (bs : List ℕ) (reading : Reading A) (refusal : ℤ) (value : A) (size : ℕ) : Type 0 where
  pub taken : refusal ≡ pos 0 → reading ≡ got value (drop size bs)
  pub within : size ≤ length bs
  pub refused : (refusal ≡ pos 0 → ⊥) → reading ≡ no refusal

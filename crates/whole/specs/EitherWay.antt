-- What the kernel's inner function that puts two numbers in order says: they are the same two.
use Rattle.std.specs.Prelude.{◌≡◌, ◌⊎◌, ℕ}

-- s and o are a and b, as they are or changed over
abbrev pub EitherWay : ℕ → ℕ → ℕ → ℕ → Type 0
EitherWay a b s o = ((s ≡ a) × (o ≡ b)) ⊎ ((s ≡ b) × (o ≡ a))

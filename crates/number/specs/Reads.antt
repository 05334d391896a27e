-- What a reading function of the code says of a reading by its answer, a `Result`: where it was taken, the value and how many bytes it took, or the
-- place behind it; else its refusal. `value` and `size` say where these stand in what the code answers.
use Rattle.std.specs.Prelude.{◌≡◌, List, ℕ, ◌≤◌, length, drop, Result, Ok, Err}
use Rattle.sheet.specs.declared.refusal.Refusal.{Refusal}
use Rattle.sheet.specs.Refused.{no_of}
use Rattle.number.specs.Number.{Reading, got, no}

-- where it was taken
pub record Took {A : Type 0} (bs : List ℕ) (reading : Reading A) (value : A) (size : ℕ) : Type 0 where
  pub taken : reading ≡ got value (drop size bs)
  pub within : size ≤ length bs

abbrev pub Reads : {A X : Type 0} → List ℕ → Reading A → Result X Refusal → (X → A) → (X → ℕ) → Type 0
Reads bs reading (Ok x) value size = Took bs reading (value x) (size x)
Reads bs reading (Err r) value size = reading ≡ no (no_of r)

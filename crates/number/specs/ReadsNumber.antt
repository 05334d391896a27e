-- Reading a number, said by what is written: of bytes the number is read whose own bytes are in front. They end early (7) where with others behind
-- them they would begin with a number, and are no number (8) where they would not, whatever comes behind. Definitions alone; TripLaws proves
-- that this is how `read_number` reads any bytes.
use Rattle.std.specs.Prelude.{◌≡◌, List, ◌∷◌, ◌++◌, ℕ, ◌<◌, pos}
use Rattle.number.specs.Number.{number_limit, write_number, Reading, got, no}

pub data ReadsNumber (bs : List ℕ) : Reading ℕ → Type 0 where
  taken : (n : ℕ) (rest : List ℕ) → n < number_limit → bs ≡ write_number n ++ rest → ReadsNumber bs (got n rest)
  cut : (n b : ℕ) (more : List ℕ) → n < number_limit → bs ++ (b ∷ more) ≡ write_number n → ReadsNumber bs (no (pos 7))
  wrong : ((n : ℕ) (more rest : List ℕ) → n < number_limit → bs ++ more ≡ write_number n ++ rest → ⊥) → ReadsNumber bs (no (pos 8))

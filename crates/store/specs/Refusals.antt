-- The refusals that stored bytes can meet. Definitions alone; SureLaws proves it of each reading.
use Rattle.std.specs.Prelude.{List, [], ◌∷◌, ℕ}

-- kind, coordinate, p equals q, side number; bytes that end, a number's groups, bytes after the last object, more than 512; tag
abbrev pub of_bytes : List ℕ
of_bytes = 1 ∷ 2 ∷ 3 ∷ 4 ∷ 7 ∷ 8 ∷ 9 ∷ 11 ∷ 15 ∷ []

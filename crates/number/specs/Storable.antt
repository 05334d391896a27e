-- Numbers of which none is too large, for the code that puts them.
use Rattle.std.specs.Prelude.{Bool, List, ℕ, leb}
use Rattle.std.specs.List.{list_all}
use Rattle.number.specs.Number.{largest_number}

abbrev pub all_storable : List ℕ → Bool
all_storable ns = list_all (λ n. leb n largest_number) ns

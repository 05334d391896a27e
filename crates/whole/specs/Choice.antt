-- The choice of the first that is not 0.
use Rattle.std.specs.Prelude.{cond, ℤ, pos}
use Rattle.whole.specs.Flag.{eq_z}

-- n, or m where n is 0
abbrev pub or_else : ℤ → ℤ → ℤ
or_else n m = cond (eq_z n (pos 0)) m n

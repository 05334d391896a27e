-- The sign of a whole number: -1, 0 or 1.
use Rattle.std.specs.Prelude.{zero, suc, ℤ, pos, negsuc}

unfoldable pub sgn : ℤ → ℤ
sgn (pos zero) = pos 0
sgn (pos (suc n)) = pos 1
sgn (negsuc n) = negsuc 0

-- What the inner functions of the code say by the number of a side.
use Rattle.std.specs.Prelude.{cond, ◌||◌, ℤ, pos}
use Rattle.whole.specs.Flag.{eq_z}

-- the coordinate along a side
abbrev pub along_number : ℤ → ℤ → ℤ → ℤ
along_number n x y = cond (eq_z n (pos 1) || eq_z n (pos 3)) y x

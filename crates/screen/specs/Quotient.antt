-- "Each value v is n and w as floats, divided once .. As an exact fraction P/Q, Q above 0, it is shown to meet |P w - n Q| times 2^53
-- at most |n| Q, and zero gives +0." The floats are those of the logic, `lib.Ieee`: `fin s m e` is m times 2 ^ e, below 0 where s is true.
use Rattle.std.specs.Prelude.{◌≡◌, Bool, true, false, ℕ, ◌*◌, ◌^◌, ◌≤◌, ◌<◌, ℤ, pos, neg_ℤ, nat_abs, ◌*ℤ◌, ◌-ℤ◌, T, Float}
use Rattle.std.specs.Float.{nan, inf, fin, binary64}
use Rattle.std.specs.Float.Ieee.{up, down, div, of_int}
use Rattle.std.specs.Float.Ieee.Scale.{finite}

-- a whole number as a float
unfoldable pub float : ℤ → Float
float n = of_int binary64 n

-- "n and w as floats, divided once"
unfoldable pub quotient : ℤ → ℤ → Float
unfolding float
quotient n w = div binary64 (float n) (float w)

-- +0
abbrev pub zero+ : Float
zero+ = fin false 0 (pos 0)

-- ---- a float as an exact fraction, over / under

abbrev pub signed : Bool → ℕ → ℤ
signed false p = pos p
signed true p = neg_ℤ (pos p)

abbrev pub over : Float → ℤ
over nan = pos 0
over (inf s) = pos 0
over (fin s m e) = signed s (m * up e)

abbrev pub under : Float → ℕ
under nan = 0
under (inf s) = 0
under (fin s m e) = down e

-- "|P w - n Q| times 2^53 at most |n| Q", and no value is infinite or not a number
pub record Near (n w : ℤ) (x : Float) : Type 0 where
  pub number : T (finite x)
  pub above : 0 < under x
  pub near : nat_abs (over x *ℤ w -ℤ n *ℤ pos (under x)) * 2 ^ 53 ≤ nat_abs n * under x
  pub at_zero : n ≡ pos 0 → x ≡ zero+

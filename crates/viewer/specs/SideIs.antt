-- What the calls can answer at all: which refusals, and that a refusal is no sign. Definitions alone; SideIsLaws proves them of the calls.
use Rattle.std.specs.Prelude.{◌≡◌, List, ◌∷◌, ℕ, ℤ, pos, ◌+ℤ◌}
use Rattle.whole.specs.Within.{Within}
use Rattle.sheet.specs.RefusalTable.{OneOf}
use Rattle.sheet.specs.Signs.{side_sign}
use Rattle.store.specs.Stored.{Drawing}
use Rattle.store.specs.Refusals.{of_bytes}
use Rattle.viewer.specs.Calls.{object, whole, call_refusal}

-- the refusals of a side: those of the bytes, and the index; that of the point, 2, is among them
abbrev pub of_side : List ℕ
of_side = 13 ∷ of_bytes

-- "-1, 0, 1, or 100 plus the refusal"
pub data SideIs (d : Drawing) (i x y r : ℤ) : Type 0 where
  a_sign : call_refusal d i x y ≡ pos 0 → r ≡ side_sign (object d i) (whole x y) → Within 1 r → SideIs d i x y r
  a_refusal : OneOf of_side (call_refusal d i x y) → r ≡ pos 100 +ℤ call_refusal d i x y → SideIs d i x y r

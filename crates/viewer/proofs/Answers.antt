-- Two answers that meet a function's contract are equal: stated of the contract itself (`Post`), at any arguments. The bytes are lent to be
-- read, and no call changes them.
use mathlib.Core.Path.{◌≡◌, sym, ◌∙◌}
use mathlib.Core.List.{List}
use Prim.Native.Nat.{ℕ}
use lib.IntN.{ℤ}
use contract.Lifetimes.{Lfts}
use denote.Ref.{Bor}
use Rattle.viewer.proofs.silvanelga_check.Reads as check
use Rattle.viewer.proofs.silvanelga_side.Reads as side

pub check-answer :
    (κs : Lfts 1) (bytes : Bor (List ℕ)) (r s : ℤ)
    → check.Post κs (bytes, tt) r (bytes, tt) → check.Post κs (bytes, tt) s (bytes, tt) → r ≡ s
check-answer κs bytes r s p q = p ∙ sym q

abbrev Asked : Type 0
Asked = ℤ × (ℤ × (ℤ × Unit {0}))

pub side-answer :
    (κs : Lfts 1) (bytes : Bor (List ℕ)) (a : Asked) (r s : ℤ)
    → side.Post κs (bytes, a) r (bytes, a) → side.Post κs (bytes, a) s (bytes, a) → r ≡ s
side-answer κs bytes a r s p q = p ∙ sym q

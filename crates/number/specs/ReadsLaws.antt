-- What a reading function's answer says, of the rest of a slice. To cite:
--   reads_at     an answer of a slice's rest, as a place of the slice
--   reads-rest   an answer of the rest of a slice from its middle
-- Assumes nothing.
use Rattle.std.specs.Prelude.{List, ℕ, ◌≤◌, ◌+◌, ◌-◌, length, take, drop, Result, Ok, Err}
use Rattle.std.proofs.Common.{ap, subst, ◌∙◌, arith, length-drop, drop-drop}
use Rattle.sheet.specs.declared.refusal.Refusal.{Refusal}
use Rattle.number.specs.Number.{Reading, got}
use Rattle.number.specs.ReadAsLaws.{rest-is}
use Rattle.number.specs.Reads.{Reads}

module _ {A X : Type 0} (value : X → A) (size : X → ℕ) (at : ℕ) (bs : List ℕ) where
  pub reads_at :
      (r : Reading A) → at ≤ length bs → (result : Result X Refusal) → Reads (drop at bs) r result value size → Reads bs r result value (λ x. at + size x)
  reads_at r h (Ok x) t =
      record { taken = t.taken ∙ ap (got (value x)) (drop-drop (size x) at bs); within = omega (arith, h, t.within, length-drop at bs) }
  reads_at r h (Err e) t = t

  pub reads-rest :
      (R : List ℕ → Reading A) (result : Result X Refusal)
      → Reads (take (length bs - at) (drop at bs)) (R (take (length bs - at) (drop at bs))) result value size
      → Reads (drop at bs) (R (drop at bs)) result value size
  reads-rest R result t = subst (λ (l : List ℕ). Reads l (R l) result value size) (rest-is at bs) t

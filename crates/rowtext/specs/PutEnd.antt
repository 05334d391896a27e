-- What an inner function of the code says of how it ends (sheet/specs/LentLaws has its three ends).
use Rattle.std.specs.Prelude.{List, ℕ, ℤ, length}
use Rattle.std.specs.Fn.{Shared}
use denote.MutBor.{MutBor}
use Rattle.sheet.specs.Lent.{clipped, Wrote}
use Rattle.sheet.specs.LentLaws.{End}
use Rattle.rowtext.specs.Put.{Put}

-- a call that puts a text has answered r and left `after` in the lent bytes: it has no other number
abbrev pub PutEnd : ℤ → List ℕ → List ℕ → Put → List ℕ → Type 0
PutEnd n text lent r after = End n text lent (clipped (length text)) 0 r.refusal r.length 0 after

-- whatever bytes are lent to f, it puts this text at their front
abbrev pub Puts : {F : Type 0} → Shared F (MutBor (List ℕ) × Unit {0}) (ℕ × (MutBor (List ℕ) × Unit {0})) → F → List ℕ → Type 0
Puts g f text =
    (before after : MutBor (List ℕ)) (next : ℕ) → g.post f (before, tt) (next, (after, tt)) → Wrote before.now after.now 0 next text

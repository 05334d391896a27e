-- What an answer of `cross_kept` does not depend on, of its contract (`Post`), where both objects are accepted, joints left out or not. To cite:
--   kept-swapped         which of the two comes first
--   kept-other-way       the arrow of a segment or a line that comes first; so that of the second too, by `kept-swapped`
-- Tags are in the kernel's `proofs/Tags`.
use Rattle.std.specs.Prelude.{◌≡◌, Bool, ◌⊎◌, ◌∷◌, pos, Result}
use Rattle.std.proofs.Common.{sym, ◌∙◌, ap}
use contract.Lifetimes.{Lfts}
use Rattle.sheet.specs.declared.Object.{Object}
use Rattle.sheet.specs.declared.Crossing.{Crossing}
use Rattle.sheet.specs.declared.refusal.Refusal.{Refusal}
use Rattle.sheet.specs.Refusal.{Accepted}
use Rattle.sheet.specs.Answers.{meeting_numbers}
use Rattle.sheet.specs.AnswersLaws.{accepted, crossing-one}
use Rattle.sheet.specs.AcceptsLaws.{taken-cross}
use Rattle.sheet.specs.Crossing.{Meeting}
use Rattle.sheet.specs.Joint.{kept}
use Rattle.sheet.proofs.ReversedLaws.{reversed, reversed-accepted}
use Rattle.cut.proofs.Swap.{kept-swap, kept-turned}
use Rattle.kernel.proofs.crossing.cross_kept.Reads as cross-kept

-- an answer for two objects
abbrev Answered : Lfts 0 → Bool → Object → Object → Result Crossing Refusal → Type 0
Answered κs joints a b r = cross-kept.Post κs (a, (b, (joints, tt))) r (a, (b, (joints, tt)))

module _ (κs : Lfts 0) (joints : Bool) where
  -- two pairs of accepted objects of which the same is kept
  alike : {a b c d : Object} → Accepted a → Accepted b → Accepted c → Accepted d → kept joints a b ≡ kept joints c d
      → (r s : Result Crossing Refusal) → Answered κs joints a b r → Answered κs joints c d s → r ≡ s
  alike h i j k e r s p q =
      crossing-one r s
      (p ∙ accepted _ (taken-cross h i) ∙ ap (λ (m : Meeting). pos 0 ∷ meeting_numbers m) e ∙ sym (q ∙ accepted _ (taken-cross j k)))

  module _ {a b : Object} (h : Accepted a) (i : Accepted b) (r s : Result Crossing Refusal) where
    pub kept-swapped : Answered κs joints a b r → Answered κs joints b a s → r ≡ s
    kept-swapped = alike h i i h (kept-swap h i joints) r s

    pub kept-other-way : (a.kind ≡ pos 1) ⊎ (a.kind ≡ pos 3) → Answered κs joints (reversed a) b r → Answered κs joints a b s → r ≡ s
    kept-other-way k = alike (reversed-accepted k h) i h i (kept-turned k h i joints) r s

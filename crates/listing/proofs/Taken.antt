-- Answers of calls that refuse nothing. To cite:
--   says-taken, taken-says    a call that says 0 refuses nothing, and its answer has the numbers that it says
-- Assumes nothing.
use Rattle.std.specs.Prelude.{◌≡◌, refl, List, ◌∷◌, ℤ, pos, Result, Ok, Err, IsOk}
use Rattle.std.proofs.Common.{sym, ap, ◌∙◌}
use Rattle.sheet.specs.declared.refusal.Refusal.{Refusal}
use Rattle.sheet.specs.Refused.{no_of, says}
use Rattle.sheet.specs.RefusedLaws.{no-zero}

module _ {A : Type 0} (numbers : A → List ℤ) {values : List ℤ} where
  pub says-taken : (r : Result A Refusal) → says numbers r ≡ pos 0 ∷ values → IsOk r
  says-taken (Ok a) e = refl
  says-taken (Err r) e = let z : no_of r ≡ pos 0 = cc in absurd (no-zero r z)

  pub taken-says : {r : Result A Refusal} {a : A} → says numbers r ≡ pos 0 ∷ values → r ≡ Ok a → numbers a ≡ values
  taken-says {a = a} e f = let g : pos 0 ∷ numbers a ≡ pos 0 ∷ values = sym (ap (says numbers) f) ∙ e in let h : numbers a ≡ values = cc in h

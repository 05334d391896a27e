-- What reading a number answers, as its numbers. To cite:
--   says-one       no two answers say the same
-- Assumes nothing.
use Rattle.std.specs.Prelude.{◌≡◌, Result, Ok, Err}
use Rattle.std.proofs.Common.{sym, ap}
use Rattle.sheet.specs.declared.refusal.Refusal.{Refusal}
use Rattle.sheet.specs.RefusedLaws.{no-one, no-zero}
use Rattle.number.specs.declared.Number.{Number}
use Rattle.number.specs.Number.{Said, number_says}

pub says-one : (r s : Result Number Refusal) → number_says r ≡ number_says s → r ≡ s
says-one (Ok a) (Ok b) e = λ i. Ok (record { value = (e i).value; size = (e i).size })
says-one (Ok a) (Err s) e = absurd (no-zero s (sym (ap (λ (x : Said). x.refusal) e)))
says-one (Err r) (Ok b) e = absurd (no-zero r (ap (λ (x : Said). x.refusal) e))
says-one (Err r) (Err s) e = ap Err (no-one r s (ap (λ (x : Said). x.refusal) e))

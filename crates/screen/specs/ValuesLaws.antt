-- The laws of answers with floats. To cite:
--   float-err, float-ok             what a call answers where its check refuses, and where it does not
--   float-from                      what it answers where `?` hands on a refusal
--   as_many, as-many-wholes         what says the same says as many floats, and as many whole numbers
--   float-one                       no two answers say the same, where no two of those that do not refuse do, and these say floats
-- Assumes nothing.
use Rattle.std.specs.Prelude.{◌≡◌, Bool, cond, ℤ, pos, ◌<◌, length, Result, Ok, Err, IsErrAnd}
use Rattle.std.proofs.Common.{sym, ◌∙◌, ap, arith}
use Rattle.whole.specs.Tests.{eq-eq_z, ne-eq_z}
use Rattle.sheet.specs.declared.refusal.Refusal.{Refusal}
use Rattle.sheet.specs.Refused.{no_of}
use Rattle.sheet.specs.RefusedLaws.{no-zero, no-one}
use Rattle.screen.specs.Values.{Values, refusal, float_says, float_answer}

pub as_many : {s t : Values} → s ≡ t → length s.floats ≡ length t.floats
as_many e = ap (λ (t : Values). length t.floats) e

pub as-many-wholes : {s t : Values} → s ≡ t → length s.wholes ≡ length t.wholes
as-many-wholes e = ap (λ (t : Values). length t.wholes) e

module _ {n : ℤ} (t : Values) where
  pub float-err : (r : Refusal) → no_of r ≡ n → refusal (no_of r) ≡ float_answer n t
  float-err r e =
      let other = ne-eq_z {a = n} {b = pos 0} (λ z. no-zero r (e ∙ z)) in
      ap refusal e ∙ sym (ap (λ (b : Bool). cond b t (refusal n)) other)

  pub float-ok : pos 0 ≡ n → t ≡ float_answer n t
  float-ok e = sym (ap (λ (b : Bool). cond b t (refusal n)) (eq-eq_z (sym e)))

module _ {A : Type 0} (told : A → Values) where
  pub float-from : (e : Refusal) (r : Result A Refusal) → IsErrAnd r (λ y. y ≡ e) → float_says told r ≡ refusal (no_of e)
  float-from e (Ok a) h = absurd h
  float-from e (Err y) h = ap (λ (r : Refusal). refusal (no_of r)) h

  pub float-one : ((a b : A) → told a ≡ told b → a ≡ b) → ((a : A) → 0 < length (told a).floats) → (r s : Result A Refusal)
      → float_says told r ≡ float_says told s → r ≡ s
  float-one one some (Ok a) (Ok b) e = ap Ok (one a b e)
  float-one one some (Ok a) (Err s) e = absurd (omega (arith, some a, as_many e))
  float-one one some (Err r) (Ok b) e = absurd (omega (arith, some b, as_many e))
  float-one one some (Err r) (Err s) e =
      let f = ap (λ (t : Values). t.wholes) e in
      let same : no_of r ≡ no_of s = cc in
      ap Err (no-one r s same)

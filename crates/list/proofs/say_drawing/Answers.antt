-- `say_drawing` answers the status of what was read, or that something did not go.
use Rattle.std.specs.Prelude.{◌≡◌, ℤ, pos, Option, MatchOption, Result, Ok, Err}
use Rattle.std.specs.Result.{result_err}
use Rattle.std.proofs.Common.{rules, refl, ap, ◌∙◌}
use Rattle.whole.specs.Tests.{Fit, out-ok}
use Rattle.sheet.specs.declared.refusal.Unfilled.{Unfilled}
use Rattle.sheet.specs.Refused.{unfilled_no}
use Rattle.store.specs.declared.Read.{Read}
use Rattle.store.specs.Answers.{ReadSays}
use Rattle.store.specs.Told.{read_told}
use Rattle.list.specs.ReadingLaws.{refusal_is, status-is, told-of-all}
use Rattle.list.proofs.say_drawing.Goals as goal

-- the number of what was not read, 0 for what was
number-told : (r : Result Read Unfilled) (o : Option Unfilled) (n : ℤ) → o ≡ result_err r → MatchOption o (n ≡ pos 0) (λ u. n ≡ unfilled_no u) → n ≡ (read_told r).refusal
number-told (Ok a) o n e h = rw e at h
number-told (Err u) o n e h = rw e at h

pub returns-clause-whole : goal.returns-clause-whole
returns-clause-whole g c = told-of-all c.say_read-sent.result _ _ c.status_of.ensures c.say_read-sent.ensures

pub returns-clause-tells : goal.returns-clause-tells
returns-clause-tells g c =
    let read = ap (λ (r : ReadSays). r.refusal) c.read_drawing-read.ensures.answer ∙ refusal_is _ _ refl in
    let number = number-told c.read_drawing-read.result c.err.result c.map_or-refusal.result c.err.ensures.value c.map_or-refusal.ensures in
    let fit : Fit c.map_or-refusal.result = search rules in
    status-is c.say_read-sent.result _ _ _ (out-ok _ fit ∙ number ∙ read) c.status_of.ensures

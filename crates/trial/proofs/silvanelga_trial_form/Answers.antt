-- `silvanelga_trial_form` meets its contract: the number of the form that is told, or 100 plus the refusal.
use mathlib.Core.Path.{◌≡◌, sym, ap, ◌∙◌}
use lib.IntN.{ℤ, pos, ◌+ℤ◌}
use mir.Syntax.{w64}
use mir.Val.{SFits}
use Rattle.std.proofs.Common.{rules}
use Rattle.whole.specs.Tests.{out, out-is, out-ok, eq-eq_z, ne-eq_z}
use Rattle.store.specs.Stored.{read_drawing}
use Rattle.store.specs.Answers.{form_number}
use Rattle.store.specs.AnswersLaws.{has-form, refused-form}
use Rattle.trial.proofs.silvanelga_trial_form.Goals as goal

pub returns-in-Ok : goal.returns-in-Ok
returns-in-Ok c =
    let n = c.form_number in
    let told = has-form c.args.bytes.now c.in-Ok.form c.in-Ok.ensures in
    out-ok n.result n.type_inv ∙ n.ensures ∙ sym (simp (eq-eq_z told.0) (ap form_number told.1))

pub returns-in-Err : goal.returns-in-Err
returns-in-Err c =
    let bs = c.args.bytes.now in
    let no = refused-form bs c.in-Err.refusal c.in-Err.ensures in
    let number : out c.from.result ≡ (read_drawing bs).refusal = out-ok c.from.result c.from.type_inv ∙ c.from.ensures ∙ no.1 in
    let fits : SFits w64 (pos 100 +ℤ out c.from.result) = search rules in
    out-is fits ∙ ap (λ (n : ℤ). pos 100 +ℤ n) number ∙ sym (simp (ne-eq_z no.0))

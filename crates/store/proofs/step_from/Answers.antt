-- `step_from` meets its contract: after the last object, or the object that stands at the place.
use mathlib.Core.Path.{sym, ap, ◌∙◌}
use native.Mathlib.Omega.{arith}
use lib.ListN.{length-drop}
use Rattle.store.specs.Stored.{read_object}
use Rattle.store.specs.StepLaws.{rest-is, step-over, step_end, step-refused, step-one}
use Rattle.store.proofs.SureLaws.{rest-within, sure-object}
use Rattle.store.proofs.step_from.Goals as goal

pub returns-then-at-bytes : goal.returns-then-at-bytes
returns-then-at-bytes c =
    let a = c.args in
    sym (step-over a.bytes.now a.place a.form a.left a.at c.if-left-eq0.true c.if-at-bytes.true)

pub returns-then-left-eq0 : goal.returns-then-left-eq0
returns-then-left-eq0 c =
    let a = c.args in
    sym (step_end a.bytes.now a.place a.form a.left a.at c.if-left-eq0.true c.if-at-bytes.false)

pub overflow_sub-result-in-Ok : goal.overflow_sub-result-in-Ok
overflow_sub-result-in-Ok c =
    let start = c.min-start.result in
    let told = c.in-Ok.ensures ∙ ap (read_object c.args.form) (rest-is start c.args.bytes.now) in
    omega (arith, rest-within (sure-object c.args.form _) told, length-drop start c.args.bytes.now)

pub returns-in-Err : goal.returns-in-Err
returns-in-Err c =
    let a = c.args in
    let told = c.in-Err.ensures ∙ ap (read_object a.form) (rest-is c.min-start.result a.bytes.now) in
    sym (step-refused a.bytes.now a.place a.form a.left a.at (omega arith) c.min-start.ensures told)

pub returns-in-Ok : goal.returns-in-Ok
returns-in-Ok c =
    let a = c.args in
    let told = c.in-Ok.ensures ∙ ap (read_object a.form) (rest-is c.min-start.result a.bytes.now) in
    sym (step-one a.bytes.now a.place a.form a.left a.at (omega arith) c.min-start.ensures told)

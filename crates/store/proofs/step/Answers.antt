-- `step` meets its contract: a reader that has begun goes on; else the form and the count are read first.
use mathlib.Core.Path.{sym, ap, ◌∙◌}
use Rattle.store.specs.declared.Bookmark.{Bookmark}
use Rattle.store.specs.Reader.{step_from}
use Rattle.store.specs.StepLaws.{step-in, head-refused, head-taken}
use Rattle.store.proofs.SureLaws.{rest-within, sure-head}
use Rattle.store.proofs.step.Goals as goal
use Rattle.store.proofs.step.Goals.{then-place, else-place+in-Ok}

pub overflow_sub-from : goal.overflow_sub-from
overflow_sub-from c = rest-within (sure-head c.args.bytes.now) c.in-Ok.ensures.told

pub returns-in-Err : goal.returns-in-Err
returns-in-Err c = sym (head-refused c.args.bytes.now c.args.place c.if-place.false c.in-Err.ensures.told)

pub returns : goal.returns
returns c =
    let a = c.args in
    let on = λ (q : Bookmark). step_from a.bytes.now a.place q.form q.left q.at in
    elim c.if-place.branch [
      | else-place+in-Ok w ↦
          c.step_from.ensures ∙ ap on w.from-is ∙ sym (head-taken a.bytes.now a.place w.if-place.false w.in-Ok.ensures.told)
      | then-place w ↦ c.step_from.ensures ∙ ap on w.from-is ∙ sym (step-in a.bytes.now a.place w.if-place.true)
    ]

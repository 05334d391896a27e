-- `check_writing` meets its contract: the list's own refusal, where there is one; else the form's, by its tags.
use mathlib.Core.Path.{sym, ◌∙◌}
use Rattle.sheet.specs.RefusedLaws.{refused-from, err-first, ok-next}
use Rattle.store.specs.Stored.{write_refusal}
use Rattle.store.proofs.writing.check_writing.Goals as goal

pub returns-in_err-check_list : goal.returns-in_err-check_list
unfolding write_refusal
returns-in_err-check_list c = refused-from _ _ c.from_residual.ensures.1 ∙ err-first _ _ c.in_err-check_list.ensures

pub returns : goal.returns
unfolding write_refusal
returns c = c.check_tags.ensures ∙ sym (ok-next _ c.in_ok-check_list.ensures)

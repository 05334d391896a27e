-- `check_turn` meets its contract: its checks in turn are the definition's, of the three points and then by 6.
use mathlib.Core.Path.{sym, ◌∙◌}
use Rattle.sheet.specs.RefusedLaws.{err-first, ok-next, refused-from}
use Rattle.sheet.specs.Signs.{turn_refusal}
use Rattle.kernel.proofs.signs.check_turn.Goals as goal

pub returns-in_err-check_point : goal.returns-in_err-check_point
unfolding turn_refusal
returns-in_err-check_point c = refused-from _ _ c.from_residual.ensures.1 ∙ err-first _ _ c.in_err-check_point.ensures

pub returns-in_err-check_point-2 : goal.returns-in_err-check_point-2
unfolding turn_refusal
returns-in_err-check_point-2 c =
    refused-from _ _ c.from_residual-in_err-check_point-2.ensures.1 ∙ err-first _ _ c.in_err-check_point-2.ensures
    ∙ sym (ok-next _ c.in_ok-check_point.ensures)

pub returns-in_err-check_point-3 : goal.returns-in_err-check_point-3
unfolding turn_refusal
returns-in_err-check_point-3 c =
    refused-from _ _ c.from_residual-in_err-check_point-3.ensures.1 ∙ err-first _ _ c.in_err-check_point-3.ensures
    ∙ sym (ok-next _ c.in_ok-check_point.ensures ∙ ok-next _ c.in_ok-check_point-2.ensures)

pub returns : goal.returns
unfolding turn_refusal
returns c =
    c.check_wide.ensures
    ∙ sym (ok-next _ c.in_ok-check_point.ensures
    ∙ ok-next _ c.in_ok-check_point-2.ensures
    ∙ ok-next _ c.in_ok-check_point-3.ensures)

-- `side_of` meets its contract: its checks in turn are the definition's; `side_sign` takes the object and the point that are not refused.
use mathlib.Core.Path.{sym, ◌∙◌}
use mathlib.Core.List.{[], ◌∷◌}
use lib.IntN.{pos}
use Rattle.whole.specs.Tests.{gave}
use Rattle.sheet.specs.RefusedLaws.{err-first, err-says, ok-next, ok-says, says-from}
use Rattle.sheet.specs.Signs.{side_sign_refusal}
use Rattle.kernel.specs.Accepts.{side-accepts}
use Rattle.kernel.proofs.signs.side_of.Goals as goal

pub returns-in_err-check_object : goal.returns-in_err-check_object
unfolding side_sign_refusal
returns-in_err-check_object c = says-from _ _ _ c.from_residual.ensures.1 ∙ err-says _ _ (err-first _ _ c.in_err-check_object.ensures.value)

pub returns-in_err-check_point : goal.returns-in_err-check_point
unfolding side_sign_refusal
returns-in_err-check_point c =
    says-from _ _ _ c.from_residual-in_err-check_point.ensures.1
    ∙ err-says _ _ (c.in_err-check_point.ensures ∙ sym (ok-next _ c.in_ok-check_object.ensures.value))

pub side_sign-requires : goal.side_sign-requires
unfolding side_sign_refusal
side_sign-requires c =
    side-accepts c.args.o c.args.s (ok-next _ c.in_ok-check_object.ensures.value ∙ sym c.in_ok-check_point.ensures)

pub returns : goal.returns
unfolding side_sign_refusal
returns c =
    (λ i. pos 0 ∷ gave c.side_sign.type_inv c.side_sign.ensures i ∷ [])
    ∙ ok-says _ (c.in_ok-check_point.ensures ∙ sym (ok-next _ c.in_ok-check_object.ensures.value))

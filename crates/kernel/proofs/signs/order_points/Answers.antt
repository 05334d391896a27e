-- `order_points` meets its contract: its checks in turn are the definition's; both that are not refused are points, as `order_of` asks.
use mathlib.Core.Path.{sym, ◌∙◌}
use mathlib.Core.List.{[], ◌∷◌}
use lib.IntN.{pos}
use Rattle.whole.specs.Tests.{gave}
use Rattle.sheet.specs.RefusedLaws.{err-first, err-says, ok-next, ok-says, says-from}
use Rattle.sheet.specs.Signs.{order_refusal}
use Rattle.kernel.specs.Accepts.{order-accepts}
use Rattle.kernel.proofs.signs.order_points.Goals as goal

pub returns-in_err-check_point : goal.returns-in_err-check_point
unfolding order_refusal
returns-in_err-check_point c = says-from _ _ _ c.from_residual.ensures.1 ∙ err-says _ _ (err-first _ _ c.in_err-check_point.ensures)

pub returns-in_err-check_point-2 : goal.returns-in_err-check_point-2
unfolding order_refusal
returns-in_err-check_point-2 c =
    says-from _ _ _ c.from_residual-in_err-check_point-2.ensures.1
    ∙ err-says _ _ (c.in_err-check_point-2.ensures ∙ sym (ok-next _ c.in_ok-check_point.ensures))

pub order_of-requires : goal.order_of-requires
unfolding order_refusal
order_of-requires c =
    order-accepts c.args.p c.args.q (ok-next _ c.in_ok-check_point.ensures ∙ sym c.in_ok-check_point-2.ensures)

pub returns : goal.returns
unfolding order_refusal
returns c =
    (λ i. pos 0 ∷ gave c.order_of.type_inv c.order_of.ensures i ∷ [])
    ∙ ok-says _ (c.in_ok-check_point-2.ensures ∙ sym (ok-next _ c.in_ok-check_point.ensures))

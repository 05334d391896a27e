-- `check_circle` meets its contract: its checks in turn are the definition's, of the four points and then by 21.
use mathlib.Core.Path.{◌≡◌, sym, ◌∙◌}
use lib.IntN.{pos}
use Rattle.sheet.specs.Flags.{both}
use Rattle.sheet.specs.RefusedLaws.{err-first, ok-next, refused-from}
use Rattle.sheet.specs.Circle.{given_refusal, circle_refusal}
use Rattle.sheet.proofs.CircleLaws.{given-taken}
use Rattle.kernel.proofs.circle.check_circle.Goals as goal

pub returns-then-is_given : goal.returns-then-is_given
unfolding circle_refusal given_refusal
returns-then-is_given c =
    let a = c.args in
    let z = simp both at c.if-is_given.true in
    let p = sym c.is_given.ensures ∙ z.0.0.0 in
    let q = sym c.is_given-2.ensures ∙ z.0.0.1 in
    let s = sym c.is_given-3.ensures ∙ z.0.1 in
    let u = sym c.is_given-4.ensures ∙ z.1 in
    let all : given_refusal a.p a.q a.s a.u ≡ pos 0 = simp (p, q, s, u) in
    sym (ok-next _ (sym (given-taken a.p p))
    ∙ ok-next _ (sym (given-taken a.q q))
    ∙ ok-next _ (sym (given-taken a.s s))
    ∙ ok-next _ (sym (given-taken a.u u)) ∙ all)

pub returns-in_err-check_one : goal.returns-in_err-check_one
unfolding circle_refusal
returns-in_err-check_one c = refused-from _ _ c.from_residual.ensures.1 ∙ err-first _ _ c.in_err-check_one.ensures

pub returns-in_err-check_one-2 : goal.returns-in_err-check_one-2
unfolding circle_refusal
returns-in_err-check_one-2 c =
    refused-from _ _ c.from_residual-in_err-check_one-2.ensures.1 ∙ err-first _ _ c.in_err-check_one-2.ensures
    ∙ sym (ok-next _ c.in_ok-check_one.ensures)

pub returns-in_err-check_one-3 : goal.returns-in_err-check_one-3
unfolding circle_refusal
returns-in_err-check_one-3 c =
    refused-from _ _ c.from_residual-in_err-check_one-3.ensures.1 ∙ err-first _ _ c.in_err-check_one-3.ensures
    ∙ sym (ok-next _ c.in_ok-check_one.ensures ∙ ok-next _ c.in_ok-check_one-2.ensures)

pub returns-in_err-check_one-4 : goal.returns-in_err-check_one-4
unfolding circle_refusal
returns-in_err-check_one-4 c =
    refused-from _ _ c.from_residual-in_err-check_one-4.ensures.1 ∙ err-first _ _ c.in_err-check_one-4.ensures
    ∙ sym (ok-next _ c.in_ok-check_one.ensures ∙ ok-next _ c.in_ok-check_one-2.ensures ∙ ok-next _ c.in_ok-check_one-3.ensures)

pub returns : goal.returns
unfolding circle_refusal
returns c =
    c.check_given.ensures
    ∙ sym (ok-next _ c.in_ok-check_one.ensures
    ∙ ok-next _ c.in_ok-check_one-2.ensures
    ∙ ok-next _ c.in_ok-check_one-3.ensures
    ∙ ok-next _ c.in_ok-check_one-4.ensures)

-- `cross_kept` meets its contract: its checks in turn are the definition's; two objects that are not refused have the figures that `meet` crosses.
use mathlib.Core.Path.{sym, ◌∙◌, ap}
use mathlib.Core.List.{List, ◌∷◌}
use lib.IntN.{ℤ, pos}
use Rattle.sheet.specs.Answers.{meeting_numbers}
use Rattle.sheet.specs.RefusedLaws.{err-first, err-says, ok-next, ok-says, says-from}
use Rattle.sheet.specs.Crossing.{crossing_refusal}
use Rattle.kernel.specs.Joints.{figures_kept}
use Rattle.kernel.specs.JointsLaws.{kept-figures}
use Rattle.kernel.proofs.Handed.{figure-told, numbers-told}
use Rattle.kernel.proofs.crossing.cross_kept.Goals as goal

pub returns-in_err-check_object : goal.returns-in_err-check_object
unfolding crossing_refusal
returns-in_err-check_object c = says-from _ _ _ c.from_residual.ensures.1 ∙ err-says _ _ (err-first _ _ c.in_err-check_object.ensures.value)

pub returns-in_err-check_object-2 : goal.returns-in_err-check_object-2
unfolding crossing_refusal
returns-in_err-check_object-2 c =
    says-from _ _ _ c.from_residual-in_err-check_object-2.ensures.1
    ∙ err-says _ _ (c.in_err-check_object-2.ensures.value ∙ sym (ok-next _ c.in_ok-check_object.ensures.value))

pub meet-shared-requires : goal.meet-shared-requires
meet-shared-requires c = record {
  numbers = numbers-told c.args.a c.struct_told-1.given (record { accepted = sym c.in_ok-check_object.ensures.value });
  numbers_2 = numbers-told c.args.b c.struct_told-6-1.given (record { accepted = sym c.in_ok-check_object-2.ensures.value });
}

pub returns : goal.returns
unfolding crossing_refusal
returns c =
    let f = figure-told c.args.a c.struct_told-1.given in
    let g = figure-told c.args.b c.struct_told-6-1.given in
    let joints = c.args.joints in
    ap (λ (l : List ℤ). pos 0 ∷ l)
    (c.meet-shared.ensures ∙ (λ i. meeting_numbers (figures_kept joints (f i) (g i))) ∙ ap meeting_numbers (sym (kept-figures joints c.args.a c.args.b)))
    ∙ ok-says _ (c.in_ok-check_object-2.ensures.value ∙ sym (ok-next _ c.in_ok-check_object.ensures.value))

-- `side_for` meets its contract: the kernel refuses neither an accepted object nor a point within 2,000. Assumes nothing.
use mathlib.Core.Path.{◌≡◌, sym, ap, ◌∙◌}
use mathlib.Core.Bool.{true, false, ◌||◌}
use mathlib.Core.List.{[], ◌∷◌}
use Rattle.whole.specs.Tests.{out-is}
use Rattle.sheet.specs.declared.Point.{Point}
use Rattle.sheet.specs.Refusal.{beyond}
use Rattle.sheet.specs.Signs.{side_sign, side_sign_refusal}
use Rattle.sheet.specs.Answers.{answer}
use Rattle.sheet.specs.AnswersLaws.{accepted}
use Rattle.viewer.specs.Calls.{whole, place_refusal}
use Rattle.viewer.specs.CallsLaws.{side-taken}
use Rattle.viewer.proofs.side_for.Goals as goal

pub returns-then-is_beyond : goal.returns-then-is_beyond
returns-then-is_beyond c =
    let tested : (beyond c.args.x || beyond c.args.y) ≡ (c.is_beyond.result || c.is_beyond-2.result) = simp (c.is_beyond.ensures, c.is_beyond-2.ensures, out-is, c.ranges.x, c.ranges.y) in
    let far : (beyond c.args.x || beyond c.args.y) ≡ true = tested ∙ c.if-is_beyond.true in
    simp far

pub returns : goal.returns
returns c =
    let a = c.args in
    let tested : (beyond a.x || beyond a.y) ≡ (c.is_beyond.result || c.is_beyond-2.result) = simp (c.is_beyond.ensures, c.is_beyond-2.ensures, out-is, c.ranges.x, c.ranges.y) in
    let near : (beyond a.x || beyond a.y) ≡ false = tested ∙ c.if-is_beyond.false in
    c.side_of.ensures
    ∙ ap (λ (q : Point). answer (side_sign_refusal a.o q) (side_sign a.o q ∷ [])) (c.given.ensures ∙ (λ i. whole (out-is c.ranges.x i) (out-is c.ranges.y i)))
    ∙ accepted _ (side-taken a.x a.y near a.o c.requires.accepted)
    ∙ sym (accepted {n = place_refusal a.x a.y} _ (simp near))

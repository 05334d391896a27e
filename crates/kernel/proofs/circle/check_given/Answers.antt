-- `check_given` meets its contract: the flag that it tests is the definition's, call by call.
use mathlib.Core.Path.{◌≡◌, sym, ◌∙◌}
use mathlib.Core.Bool.{not, ◌&&◌, ◌||◌}
use Rattle.sheet.specs.Points.{standard}
use Rattle.sheet.specs.Circle.{is_given, given_refusal}
use Rattle.kernel.proofs.circle.check_given.Goals as goal

pub returns-then-is_given-fourth : goal.returns-then-is_given-fourth
unfolding given_refusal
returns-then-is_given-fourth c =
    let test : let a = c.args in
    c.is_given-2.result && c.is_given-3.result && c.is_given-4.result
    && (c.is_given.result || not c.is_standard.result)
    ≡ is_given a.p && is_given a.q && is_given a.s && (is_given a.u || not (standard a.u)) = simp (c.is_given-2.ensures, c.is_given-3.ensures, c.is_given-4.ensures, c.is_given.ensures, c.is_standard.ensures) in
    simp (sym test ∙ c.if-is_given-fourth.true)

pub returns : goal.returns
unfolding given_refusal
returns c =
    let test : let a = c.args in
    c.is_given-2.result && c.is_given-3.result && c.is_given-4.result
    && (c.is_given.result || not c.is_standard.result)
    ≡ is_given a.p && is_given a.q && is_given a.s && (is_given a.u || not (standard a.u)) = simp (c.is_given-2.ensures, c.is_given-3.ensures, c.is_given-4.ensures, c.is_given.ensures, c.is_standard.ensures) in
    simp (sym test ∙ c.if-is_given-fourth.false)

-- `silvanelga_side` meets its contract: the sign that `side_at` answers, or 100 plus its refusal. Assumes nothing.
use mathlib.Core.Path.{◌≡◌, ap, ◌∙◌}
use lib.IntN.{ℤ, pos, ◌+ℤ◌}
use mir.Syntax.{w64}
use mir.Val.{SFits}
use Rattle.std.proofs.Common.{rules}
use Rattle.whole.specs.Bound.{fits64, w-is}
use Rattle.whole.specs.Tests.{out, out-is, out-ok}
use Rattle.sheet.specs.Refused.{no_of}
use Rattle.sheet.specs.Signs.{side_sign}
use Rattle.sheet.proofs.SignsLaws.{side-sign-within}
use Rattle.store.specs.Stored.{read_drawing}
use Rattle.viewer.specs.Calls.{object, whole, call_refusal, side_in}
use Rattle.viewer.specs.CallsLaws.{told-sign, told-refusal}
use Rattle.viewer.proofs.silvanelga_side.Goals as goal

pub returns-in-Ok : goal.returns-in-Ok
unfolding side_in
returns-in-Ok c =
    let a = c.args in
    let d = read_drawing a.bytes.now in
    let o = object d (out a.i) in
    let p = whole (out a.x) (out a.y) in
    let told = told-sign (call_refusal d (out a.i) (out a.x) (out a.y)) (side_sign o p) c.in-Ok.ensures in
    out-is (fits64 (w-is told.0 (side-sign-within o p)) tt)
    ∙ told.0
    ∙ told.1
    ∙ (λ j. side_in d (out-is c.ranges.i j) (out-is c.ranges.x j) (out-is c.ranges.y j))

pub returns-in-Err : goal.returns-in-Err
unfolding side_in
returns-in-Err c =
    let a = c.args in
    let d = read_drawing a.bytes.now in
    let number : out c.from.result ≡ no_of c.in-Err.refusal = out-ok c.from.result c.from.type_inv ∙ c.from.ensures in
    let fits : SFits w64 (pos 100 +ℤ out c.from.result) = search rules in
    let sign = side_sign (object d (out a.i)) (whole (out a.x) (out a.y)) in
    out-is fits
    ∙ ap (λ (n : ℤ). pos 100 +ℤ n) number
    ∙ told-refusal (call_refusal d (out a.i) (out a.x) (out a.y)) sign c.in-Err.refusal c.in-Err.ensures
    ∙ (λ j. side_in d (out-is c.ranges.i j) (out-is c.ranges.x j) (out-is c.ranges.y j))

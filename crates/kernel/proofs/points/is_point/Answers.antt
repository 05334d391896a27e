-- `is_point` meets its contract: numbers of neither sort are no point; of the others the divisor decides.
use mathlib.Core.Path.{◌≡◌, sym, ◌∙◌, ap}
use mathlib.Core.Bool.{◌||◌}
use lib.Dec.{eqb}
use Rattle.std.proofs.Common.{rules}
use Rattle.whole.specs.Tests.{Fit}
use Rattle.sheet.specs.Points.{standard, frame, divisor, is_point}
use Rattle.kernel.proofs.Handed as handed
use Rattle.kernel.proofs.points.is_point.Goals as goal

pub returns-then-not-placed : goal.returns-then-not-placed
unfolding is_point
returns-then-not-placed c =
    let placed : c.is_standard.result || c.is_frame.result ≡ standard c.args.p || frame c.args.p =
    λ i. c.is_standard.ensures i || c.is_frame.ensures i in
    simp (sym placed ∙ c.if-not-placed.true)

pub returns : goal.returns
unfolding is_point
returns c =
    let p = c.args.p in
    let mx : Fit p.mx = search rules in
    let nx : Fit p.nx = search rules in
    let my : Fit p.my = search rules in
    let ny : Fit p.ny = search rules in
    let w : Fit p.w = search rules in
    let same = handed.point p mx nx my ny w in
    let placed : c.is_standard.result || c.is_frame.result ≡ standard c.args.p || frame c.args.p =
    λ i. c.is_standard.ensures i || c.is_frame.ensures i in
    ap (λ n. eqb n 1) (c.divisor.ensures ∙ ap divisor same) ∙ sym (simp (sym placed ∙ c.if-not-placed.false))

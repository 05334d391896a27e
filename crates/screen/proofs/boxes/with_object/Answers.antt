-- `with_object` meets its contract: a segment adds p and q, a ray p, and the others nothing.
use Rattle.std.proofs.Common.{◌≡◌, ◌∙◌, ap, rules}
use lib.IntN.{pos}
use Rattle.whole.specs.Tests.{out}
use Rattle.sheet.specs.Figure.{vec, first, second}
use Rattle.screen.specs.Extremes.{with_end}
use Rattle.screen.specs.BoxesLaws.{with_segment, with_ray, with_none}
use Rattle.screen.proofs.boxes.with_object.Goals as goal

pub returns-in-1 : goal.returns-in-1
returns-in-1 c =
    let o = c.args.o in
    let e = c.args.extremes in
    let p : vec (out o.px) (out o.py) ≡ first o = search rules in
    let q : vec (out o.qx) (out o.qy) ≡ second o = search rules in
    let kind : o.kind ≡ pos 1 = search rules in
    c.with_end-in-1.ensures
    ∙ (λ i. with_end ((c.with_end.ensures ∙ ap (with_end e) p) i) (q i))
    ∙ with_segment e o.px o.py o.qx o.qy kind

pub returns-in-2 : goal.returns-in-2
returns-in-2 c =
    let o = c.args.o in
    let e = c.args.extremes in
    let p : vec (out o.px) (out o.py) ≡ first o = search rules in
    let kind : o.kind ≡ pos 2 = search rules in
    c.with_end-in-2.ensures ∙ ap (with_end e) p ∙ with_ray e o.px o.py o.qx o.qy kind

pub returns-in_default : goal.returns-in_default
returns-in_default c =
    let o = c.args.o in
    with_none c.args.extremes o.px o.py o.qx o.qy (λ k. search rules) (λ k. search rules)

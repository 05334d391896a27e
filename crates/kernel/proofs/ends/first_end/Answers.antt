-- `first_end` meets its contract: a side begins at its corner, a line at the far end from q to p, and what is neither, at p.
use mathlib.Core.Path.{sym, ◌∙◌, ap}
use lib.IntN.{ℤ}
use Rattle.whole.specs.Flat.{need}
use Rattle.whole.specs.Tests.{out-is, eq-left, lit-taken}
use Rattle.sheet.specs.Figure.{Vec, vec, side_of}
use Rattle.sheet.proofs.RefusalLaws.{Proper}
use Rattle.sheet.specs.Points.{given}
use Rattle.sheet.specs.Ends.{far_end, begins}
use Rattle.kernel.specs.Kinds.{a_pair, first-side, first-line, first-given}
use Rattle.kernel.proofs.Eight.{dx_e, dy_e}
use Rattle.kernel.proofs.Ahead.{swapped, reversed, place, pair, way, ahead}
use Rattle.kernel.proofs.ends.first_end.Goals as goal

pub returns-then-kind-eq-SIDE : goal.returns-then-kind-eq-SIDE
returns-then-kind-eq-SIDE c =
    let four = lit-taken 4 tt c.ranges.kind c.if-kind-eq-SIDE.true in
    c.side_begins.ensures ∙ ap (λ (n : ℤ). begins (side_of n)) (out-is c.ranges.px) ∙ sym (first-side c.requires four)

-- from q to p
pub overflow_sub-back : goal.overflow_sub-back
overflow_sub-back c =
    let p : Vec = vec c.args.px c.args.py in
    let q : Vec = vec c.args.qx c.args.qy in
    let proper : Proper p q = a_pair c.requires (eq-left c.if-kind-eq-SIDE.false) in
    need (pair (swapped proper)) dx_e tt

pub overflow_sub-down : goal.overflow_sub-down
overflow_sub-down c =
    let p : Vec = vec c.args.px c.args.py in
    let q : Vec = vec c.args.qx c.args.qy in
    let proper : Proper p q = a_pair c.requires (eq-left c.if-kind-eq-SIDE.false) in
    need (pair (swapped proper)) dy_e tt

pub far_end-requires : goal.far_end-requires
far_end-requires c =
    let p : Vec = vec c.args.px c.args.py in
    let q : Vec = vec c.args.qx c.args.qy in
    let proper : Proper p q = a_pair c.requires (eq-left c.if-kind-eq-SIDE.false) in
    let h = proper in ahead (swapped h) h.small_p

pub returns-then-kind-eq-LINE : goal.returns-then-kind-eq-LINE
returns-then-kind-eq-LINE c =
    let p : Vec = vec c.args.px c.args.py in
    let q : Vec = vec c.args.qx c.args.qy in
    let proper : Proper p q = a_pair c.requires (eq-left c.if-kind-eq-SIDE.false) in
    let h = proper in
    let three = lit-taken 3 tt c.ranges.kind c.if-kind-eq-LINE.true in
    c.far_end.ensures
    ∙ (λ i. far_end (place h.small_p i) ((way (swapped h) ∙ reversed p q) i))
    ∙ sym (first-line c.requires three)

pub returns : goal.returns
returns c =
    c.given.ensures
    ∙ (λ i. given (record { x = out-is c.ranges.px i; y = out-is c.ranges.py i }))
    ∙ sym (first-given c.requires (eq-left c.if-kind-eq-SIDE.false) (eq-left c.if-kind-eq-LINE.false))

-- `meet` meets its contract: what a side or two stretches share of numbers that are handed on is what the two figures share.
use mathlib.Core.Path.{◌∙◌, ap}
use Rattle.whole.specs.Flat.{none, ◌also◌}
use Rattle.whole.specs.Tests.{out-is, eq-left, lit-taken}
use Rattle.sheet.specs.Figure.{side_of, figure_of}
use Rattle.sheet.specs.Crossing.{with_side}
use Rattle.sheet.specs.Answers.{meeting_numbers}
use Rattle.kernel.specs.Kinds.{a_pair}
use Rattle.kernel.specs.Joints.{corners_left, stretches_kept}
use Rattle.kernel.specs.JointsLaws.{stretches-kept}
use Rattle.kernel.specs.CornerLaws.{first-side-kept, second-side-kept}
use Rattle.kernel.proofs.Handed.{by-five, by_ten, numbers-out}
use Rattle.kernel.proofs.Eight.{near-out}
use Rattle.kernel.proofs.crossing.meet.Goals as goal

pub with_side_kept-found-requires : goal.with_side_kept-found-requires
with_side_kept-found-requires c = numbers-out c.ranges.kb c.ranges.rx c.ranges.ry c.ranges.sx c.ranges.sy c.requires.numbers_2

pub returns-then-ka-eq-SIDE : goal.returns-then-ka-eq-SIDE
returns-then-ka-eq-SIDE c =
    let joints = c.args.joints in
    let b = by-five c.ranges.kb c.ranges.rx c.ranges.ry c.ranges.sx c.ranges.sy figure_of in
    c.with_side_kept-found.ensures ∙ (λ i. meeting_numbers (corners_left joints (with_side (side_of (out-is c.ranges.px i)) (b i))))
    ∙ ap meeting_numbers (first-side-kept joints c.requires.numbers c.requires.numbers_2 (lit-taken 4 tt c.ranges.ka c.if-ka-eq-SIDE.true))

pub with_side_kept-found-requires-then-kb-eq-SIDE : goal.with_side_kept-found-requires-then-kb-eq-SIDE
with_side_kept-found-requires-then-kb-eq-SIDE c = numbers-out c.ranges.ka c.ranges.px c.ranges.py c.ranges.qx c.ranges.qy c.requires.numbers

pub returns-then-kb-eq-SIDE : goal.returns-then-kb-eq-SIDE
returns-then-kb-eq-SIDE c =
    let joints = c.args.joints in
    let a = by-five c.ranges.ka c.ranges.px c.ranges.py c.ranges.qx c.ranges.qy figure_of in
    c.with_side_kept-found-then-kb-eq-SIDE.ensures ∙ (λ i. meeting_numbers (corners_left joints (with_side (side_of (out-is c.ranges.rx i)) (a i))))
    ∙ ap meeting_numbers (second-side-kept joints c.requires.numbers c.requires.numbers_2 (eq-left c.if-ka-eq-SIDE.false) (lit-taken 4 tt c.ranges.kb c.if-kb-eq-SIDE.true))

pub cross_stretches-requires : goal.cross_stretches-requires
cross_stretches-requires c =
    let one = a_pair c.requires.numbers (eq-left c.if-ka-eq-SIDE.false) in
    let two = a_pair c.requires.numbers_2 (eq-left c.if-kb-eq-SIDE.false) in
    near-out (record {
      near =
          one.small_p.in_x also one.small_p.in_y also one.small_q.in_x also one.small_q.in_y
          also two.small_p.in_x also two.small_p.in_y also two.small_q.in_x also two.small_q.in_y also none;
    })

pub returns : goal.returns
returns c =
    let f = c.ranges in
    c.cross_stretches.ensures
    ∙ ap meeting_numbers
    (by_ten f.ka f.px f.py f.qx f.qy f.kb f.rx f.ry f.sx f.sy (stretches_kept c.args.joints)
    ∙ stretches-kept c.args.joints c.requires.numbers c.requires.numbers_2 (eq-left c.if-ka-eq-SIDE.false) (eq-left c.if-kb-eq-SIDE.false))

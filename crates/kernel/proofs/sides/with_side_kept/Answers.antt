-- `with_side_kept` meets its contract: what the side shares, of numbers that are handed on, but for corners.
use mathlib.Core.Path.{◌∙◌, ap}
use Rattle.whole.specs.Tests.{out, out-is}
use Rattle.sheet.specs.Figure.{side_of, figure_of}
use Rattle.sheet.specs.Crossing.{Meeting, with_side}
use Rattle.sheet.specs.Answers.{meeting_numbers, crossing_numbers}
use Rattle.kernel.specs.Joints.{corners_left}
use Rattle.kernel.specs.JointsLaws.{corner-said}
use Rattle.kernel.proofs.Handed.{by-five, numbers-out}
use Rattle.kernel.proofs.sides.with_side_kept.Goals as goal

pub with_side-found-requires : goal.with_side-found-requires
with_side-found-requires c = let f = c.ranges in numbers-out f.kind f.px f.py f.qx f.qy c.requires

pub returns : goal.returns
returns c =
    let shared : Meeting = with_side (side_of (out c.args.n)) (figure_of (out c.args.kind) (out c.args.px) (out c.args.py) (out c.args.qx) (out c.args.qy)) in
    let f = c.ranges in
    let g = by-five f.kind f.px f.py f.qx f.qy figure_of in
    ap crossing_numbers c.unless_corner.ensures ∙ corner-said c.args.joints shared c.with_side-found.result c.with_side-found.ensures
    ∙ (λ i. meeting_numbers (corners_left c.args.joints (with_side (side_of (out-is f.n i)) (g i))))

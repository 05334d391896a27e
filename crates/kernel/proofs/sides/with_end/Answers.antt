-- `with_end` meets its contract: the far end is what they share where it is on the side.
use mathlib.Core.Path.{ap}
use Rattle.sheet.specs.Crossing.{none}
use Rattle.sheet.specs.Answers.{meeting_numbers}
use Rattle.kernel.proofs.Ahead.{ahead-out, outward, on-end, off-end}
use Rattle.kernel.proofs.sides.with_end.Goals as goal

pub is_on-requires : goal.is_on-requires
is_on-requires c = record { out = outward c.requires.out; ahead = ahead-out c.requires.ahead }

pub far_end-e-requires : goal.far_end-e-requires
far_end-e-requires c = ahead-out c.requires.ahead

pub returns-then-is_on : goal.returns-then-is_on
returns-then-is_on c =
    let h = c.requires in
    ap meeting_numbers (on-end h.out h.ahead c.is_on.ensures none c.far_end-e.ensures c.if-is_on.true)

pub returns : goal.returns
returns c =
    let h = c.requires in
    ap meeting_numbers (off-end h.out h.ahead c.is_on.ensures none c.if-is_on.false)

-- `cross` meets its contract: where joints are asked for, all that is shared is kept.
use mathlib.Core.Path.{◌∙◌, ap}
use Rattle.sheet.specs.Crossing.{Meeting, crossing_refusal}
use Rattle.sheet.proofs.JointLaws.{kept-asked}
use Rattle.sheet.specs.Answers.{answer, meeting_numbers}
use Rattle.kernel.proofs.crossing.cross.Goals as goal

pub returns : goal.returns
returns c =
    let a = c.args in
    c.cross_kept.ensures ∙ ap (λ (m : Meeting). answer (crossing_refusal a.a a.b) (meeting_numbers m)) (kept-asked a.a a.b)

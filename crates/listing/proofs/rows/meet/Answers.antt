-- `meet` meets its contract: both objects are accepted, so the kernel refuses nothing, and its answer says what is kept of them.
use mathlib.Core.Path.{◌∙◌}
use Rattle.sheet.specs.Answers.{crossing_numbers}
use Rattle.sheet.specs.AnswersLaws.{accepted, met_by}
use Rattle.sheet.specs.Joint.{kept}
use Rattle.sheet.specs.AcceptsLaws.{taken-cross}
use Rattle.listing.proofs.Taken.{says-taken, taken-says}
use Rattle.listing.proofs.rows.meet.Goals as goal

pub unwrap-requires : goal.unwrap-requires
unwrap-requires c = says-taken crossing_numbers c.cross_kept.result (c.cross_kept.ensures ∙ accepted _ (taken-cross c.requires.0 c.requires.1))

pub returns : goal.returns
returns c =
    let says = c.cross_kept.ensures ∙ accepted _ (taken-cross c.requires.0 c.requires.1) in
    met_by c.unwrap.result (kept c.args.joints c.args.a c.args.b) (taken-says crossing_numbers says c.unwrap.ensures)

-- `put_rows_with` meets its contract: of those that an object is not compared with none makes a row.
use mathlib.Core.Path.{◌∙◌}
use Rattle.sheet.specs.LentLaws.{wrote_as}
use Rattle.listing.specs.Rows.{row_of}
use Rattle.listing.specs.RunsLaws.{runs-taken, near-chosen}
use Rattle.listing.proofs.NearLaws.{chosen-rows}
use Rattle.listing.proofs.near_pairs.NearLater.put_rows_with.Goals as goal

pub returns-clause-rows : goal.returns-clause-rows
returns-clause-rows c =
    let e = c.find_runs-count.ensures.runs in
    wrote_as c.put_runs.ensures
    ((runs-taken e.runs_of).1 (row_of c.args.joints c.args.list.now c.args.i) ∙ chosen-rows c.args.joints c.requires.listable.0 c.requires.listable.1 (near-chosen e))

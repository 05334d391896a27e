-- `list_near` meets its contract: it is refused as the list is, or it ends as the rows of all its objects do, each compared with those that are
-- near.
use mathlib.Core.Path.{sym}
use Rattle.listing.specs.ListingLaws.{all-section, all_listed, all-refused}
use Rattle.listing.proofs.list_near.Goals as goal

pub know-requires : goal.know-requires
know-requires c = (all-section (sym c.in_ok-check_list.ensures)).list

pub list_pairs-requires-clause-section : goal.list_pairs-requires-clause-section
list_pairs-requires-clause-section c = all-section (sym c.in_ok-check_list.ensures)

pub returns : goal.returns
returns c =
    let all = all_listed c.args.joints c.args.list.now (sym c.in_ok-check_list.ensures) c.list_pairs.ensures in
    record { answer = all.0; rows = all.1 }

pub returns-in_err-check_list : goal.returns-in_err-check_list
returns-in_err-check_list c =
    let all = all-refused c.args.joints c.args.list.now _ _ c.from_residual.ensures.1 c.in_err-check_list.ensures in
    record { answer = all.0; rows = all.1 }

-- `list_one` meets its contract: it is refused as the list and the index are, or it ends as the rows of that object do.
use mathlib.Core.Path.{sym}
use native.Mathlib.Omega.{arith}
use Rattle.listing.specs.ListingLaws.{one-section, one_listed, one-refused}
use Rattle.listing.proofs.list_one.Goals as goal

pub overflow_add-i : goal.overflow_add-i
overflow_add-i c = omega (arith, (one-section (sym c.in_ok-check_index.ensures)).end)

pub list_pairs-requires-clause-section : goal.list_pairs-requires-clause-section
list_pairs-requires-clause-section c = one-section (sym c.in_ok-check_index.ensures)

pub returns : goal.returns
returns c =
    let all = one_listed c.args.joints c.args.list.now c.args.i (sym c.in_ok-check_index.ensures) c.list_pairs.ensures in
    record { answer = all.0; rows = all.1 }

pub returns-in_err-check_index : goal.returns-in_err-check_index
returns-in_err-check_index c =
    let all = one-refused c.args.joints c.args.list.now c.args.i _ _ c.from_residual.ensures.1 c.in_err-check_index.ensures in
    record { answer = all.0; rows = all.1 }

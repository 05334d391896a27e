-- `put_rows_with` meets its contract: before j are the rows with the later ones before j.
use native.Mathlib.Omega.{arith}
use Rattle.listing.specs.Rows.{row_of}
use Rattle.listing.proofs.Turns.{wrote-first, wrote-next}
use Rattle.listing.proofs.pairs.AllLater.put_rows_with.Goals as goal

pub loop-j-init : goal.loop-j-init
loop-j-init c = wrote-first (row_of c.args.joints c.args.list.now c.args.i) _ (omega arith) (omega arith)

pub loop-j-preserved : goal.loop-j-preserved
loop-j-preserved c = wrote-next (row_of c.args.joints c.args.list.now c.args.i) _ (omega arith) c.loop-j.invariant c.put_row-next.ensures

-- `put_rows` meets its contract: before i are the rows of the objects before i.
use native.Mathlib.Omega.{arith}
use Rattle.listing.specs.Rows.{rows_with}
use Rattle.listing.proofs.Turns.{wrote-first, wrote-next}
use Rattle.listing.proofs.pairs.put_rows.Goals as goal

pub loop-i-init : goal.loop-i-init
loop-i-init g c = (wrote-first (rows_with c.args.joints c.args.list.now) _ (omega arith) (omega arith), c.requires.known)

pub loop-i-preserved : goal.loop-i-preserved
loop-i-preserved g c =
    let e = c.put_rows_with-next.ensures in
    (wrote-next (rows_with c.args.joints c.args.list.now) _ (omega arith) c.loop-i.invariant.0 e.rows, e.known)

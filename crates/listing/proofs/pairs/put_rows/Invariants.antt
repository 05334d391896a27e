-- `put_rows` meets its contract: before i are the rows of the objects before i.
use Rattle.sheet.specs.Lent.{Wrote}
use Rattle.listing.specs.Pairs.{rows_between}
use Rattle.listing.proofs.pairs.put_rows.Given as goal

abbrev pub invariant-loop-i : goal.invariant-loop-i
invariant-loop-i g l = Wrote l.initial.out l.out 0 l.next (rows_between l.joints l.list l.fn.run.from l.i) × g.L.Later.knows l.later l.list

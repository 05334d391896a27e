-- `put_runs` meets its contract: the rows with the objects of the runs before one, and of that one before j.
use Rattle.whole.specs.InTurn.{all_between}
use Rattle.sheet.specs.Lent.{Wrote}
use Rattle.listing.specs.Rows.{row_of}
use Rattle.listing.specs.Runs.{run_at, in_runs}
use Rattle.listing.proofs.near_pairs.put_runs.Given as goal

abbrev pub invariant-loop-j : goal.invariant-loop-j
invariant-loop-j l = Wrote l.initial.out l.out l.initial.next l.next (all_between (row_of l.joints l.list l.i) (run_at l.runs l.run-index).from l.j)

abbrev pub invariant-loop-run : goal.invariant-loop-run
invariant-loop-run l = Wrote l.initial.out l.out l.at l.next (in_runs (row_of l.joints l.list l.i) l.runs l.run-index)

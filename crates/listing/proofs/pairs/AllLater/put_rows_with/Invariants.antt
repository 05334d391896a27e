-- `put_rows_with` meets its contract: before j are the rows with the later ones before j.
use Prim.Native.Nat.{◌+◌}
use Rattle.whole.specs.InTurn.{all_between}
use Rattle.sheet.specs.Lent.{Wrote}
use Rattle.listing.specs.Rows.{row_of}
use Rattle.listing.proofs.pairs.AllLater.put_rows_with.Given as goal

abbrev pub invariant-loop-j : goal.invariant-loop-j
invariant-loop-j l =
    Wrote l.initial.out l.out l.at l.next (all_between (λ k. row_of l.joints l.list l.i k) (l.i + 1) l.j)

-- `write_objects` meets its contract: after i turns the first i objects stand there.
use Prim.Native.Nat.{◌≤◌}
use Rattle.sheet.specs.Lent.{Wrote}
use Rattle.store.specs.Stored.{write_objects}
use Rattle.store.proofs.writing.write_objects.Given as goal

abbrev pub invariant-loop-i : goal.invariant-loop-i
invariant-loop-i l = (l.i ≤ l.count) × Wrote l.initial.out l.out l.at l.to (write_objects l.form l.i l.list)

-- `item_at` meets its contract: after some calls at the start, what is left are the calls at the place reached. Assumes nothing.
use mathlib.Core.Path.{◌≡◌}
use Prim.Native.Nat.{◌-◌}
use Rattle.store.specs.Reader.{start_place, call_from}
use Rattle.viewer.proofs.item_at.Given as goal

abbrev pub invariant-loop : goal.invariant-loop
invariant-loop l = call_from l.bytes l.place (l.i - l.counter) ≡ call_from l.bytes start_place l.i

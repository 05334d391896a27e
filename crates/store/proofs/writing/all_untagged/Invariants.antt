-- `all_untagged` meets its contract: after i turns the flag is that of the first i objects.
use Prim.Native.Nat.{◌≤◌}
use mathlib.Core.Path.{◌≡◌}
use Rattle.sheet.specs.Lists.{count_of}
use Rattle.store.specs.Stored.{all_untagged}
use Rattle.store.proofs.writing.all_untagged.Given as goal

abbrev pub invariant-loop-i : goal.invariant-loop-i
invariant-loop-i l = (l.i ≤ count_of l.list) × (l.all ≡ all_untagged l.list l.i)

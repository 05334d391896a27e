-- `check_objects` meets its contract: after i turns none of the first i objects is refused; the first that is refused ends it.
use mathlib.Core.Path.{◌≡◌}
use lib.IntN.{pos}
use Rattle.sheet.specs.Lists.{objects_refusal}
use Rattle.sheet.proofs.lists.check_objects.Given as goal

abbrev pub invariant-loop-i : goal.invariant-loop-i
invariant-loop-i l = objects_refusal l.list l.i ≡ pos 0

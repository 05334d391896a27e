-- `extremes_of` meets its contract: they are those of the ends of the objects before i.
use Rattle.std.proofs.Common.{◌≡◌, None}
use Rattle.whole.specs.InTurn.{all_of}
use Rattle.screen.specs.Boxes.{ends_at}
use Rattle.screen.specs.Extremes.{with_ends}
use Rattle.screen.proofs.boxes.extremes_of.Given as goal

abbrev pub invariant-loop-i : goal.invariant-loop-i
invariant-loop-i l = l.extremes ≡ with_ends None (all_of (λ i. ends_at l.list i) l.i)

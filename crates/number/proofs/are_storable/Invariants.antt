-- `are_storable` meets its contract: it is known of the numbers before the next one.
use Rattle.std.specs.Prelude.{◌≡◌, take}
use Rattle.number.specs.Storable.{all_storable}
use Rattle.number.proofs.are_storable.Given as goal

abbrev pub invariant-loop-n : goal.invariant-loop-n
invariant-loop-n l = l.small ≡ all_storable (take l.n-index l.numbers)

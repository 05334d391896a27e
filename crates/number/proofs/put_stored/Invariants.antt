-- `put_stored` meets its contract. The invariant: the numbers before the next one are put, each as it is or as far as there are cells.
use lib.ListN.{take}
use Rattle.sheet.specs.Lent.{Wrote}
use Rattle.number.specs.Number.{write_numbers}
use Rattle.number.proofs.put_stored.Given as goal

abbrev pub invariant-loop-n : goal.invariant-loop-n
invariant-loop-n l = Wrote l.initial.out l.out l.at l.to (write_numbers (take l.n-index l.numbers))

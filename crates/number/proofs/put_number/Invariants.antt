-- `put_number` meets its contract: the number's bytes are in cells of their own. The invariant: those before the next one are put.
use lib.ListN.{take}
use Rattle.sheet.specs.Lent.{Wrote}
use Rattle.number.specs.Number.{write_number}
use Rattle.number.proofs.put_number.Given as goal

abbrev pub invariant-loop-b : goal.invariant-loop-b
invariant-loop-b l = Wrote l.initial.out l.out l.at l.next (take l.b-index (write_number l.n))

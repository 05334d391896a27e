-- `put_fields` meets its contract. The invariant: the numbers before the next one are written.
use lib.ListN.{take}
use Rattle.sheet.specs.Lent.{Wrote}
use Rattle.decimal.specs.Decimal.{numbers}
use Rattle.decimal.proofs.put_fields.Given as goal

abbrev pub invariant-loop-n : goal.invariant-loop-n
invariant-loop-n l = Wrote l.initial.out l.out l.at l.next (numbers (take l.n-index l.list))

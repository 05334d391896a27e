-- `put_text` meets its contract. The invariant: the bytes before the next one stand at their place.
use lib.ListN.{take}
use Rattle.sheet.specs.Lent.{Wrote}
use Rattle.decimal.proofs.put_text.Given as goal

abbrev pub invariant-loop-b : goal.invariant-loop-b
invariant-loop-b l = Wrote l.initial.out l.out l.at l.next (take l.b-index l.text)

-- `fill` meets its contract: of the first i numbers those are put for which there is a cell.
use Rattle.std.specs.Prelude.{◌≡◌, take}
use Rattle.std.proofs.lemmas.List.Edits.{sets}
use Rattle.sheet.proofs.lent.fill.Given as goal

abbrev pub invariant-loop-i : goal.invariant-loop-i
invariant-loop-i l = l.cells ≡ sets l.initial.cells 0 (take l.i l.numbers)

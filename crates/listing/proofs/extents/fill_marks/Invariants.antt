-- `fill_marks` meets its contract: before i both lists hold the marks of the objects before i.
use Rattle.listing.specs.Marks.{left_mark, right_mark, Held}
use Rattle.listing.proofs.extents.fill_marks.Given as goal

abbrev pub invariant-loop-i : goal.invariant-loop-i
invariant-loop-i l =
    Held (left_mark l.list) l.lefts l.i × Held (right_mark l.list) l.rights l.i

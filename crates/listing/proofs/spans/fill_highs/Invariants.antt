-- `fill_highs` meets its contract: the second numbers before i are written, and the first ones stay.
use Rattle.listing.specs.Order.{Lows, Highs}
use Rattle.listing.proofs.spans.fill_highs.Given as goal

abbrev pub invariant-loop-i : goal.invariant-loop-i
invariant-loop-i l =
    Lows l.lefts l.order l.n l.spans 0 × Highs l.lefts l.rights l.order l.n l.spans l.i

-- `fill_lows` meets its contract: the first numbers of what stands at t or behind it are written, and the rank is that of t.
use Rattle.listing.specs.Order.{RankedNext, Lows}
use Rattle.listing.proofs.spans.fill_lows.Given as goal

abbrev pub invariant-loop-t : goal.invariant-loop-t
invariant-loop-t l =
    RankedNext l.lefts l.order l.n l.t l.rank × Lows l.lefts l.order l.n l.spans l.t

abbrev pub decreases-loop-t : goal.decreases-loop-t
decreases-loop-t l = l.t

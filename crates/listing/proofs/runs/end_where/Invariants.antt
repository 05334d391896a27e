-- `end_where` meets its contract: all before j are so, by a scan to the end of a block and one of the blocks behind it.
use mathlib.Core.Path.{◌≡◌}
use Prim.Native.Nat.{ℕ, ◌-◌, ◌≤◌, ◌<◌}
use Rattle.listing.specs.Order.{span_at}
use Rattle.listing.specs.Spans.{near_span}
use Rattle.listing.proofs.runs.end_where.Given as goal

abbrev pub invariant-loop-j : goal.invariant-loop-j
invariant-loop-j l =
    (l.from ≤ l.j) × ((k : ℕ) → l.from ≤ k → k < l.j → k < l.n → near_span l.span (span_at l.spans k) ≡ l.near)

abbrev pub decreases-loop-j : goal.decreases-loop-j
decreases-loop-j l = l.n - l.j

-- `scan` meets its contract: all before k are so.
use mathlib.Core.Path.{◌≡◌}
use Prim.Native.Nat.{ℕ, ◌≤◌, ◌<◌}
use Rattle.listing.specs.Order.{span_at}
use Rattle.listing.specs.Spans.{near_span}
use Rattle.listing.proofs.runs.scan.Given as goal

abbrev pub invariant-loop-k : goal.invariant-loop-k
invariant-loop-k l = (j : ℕ) → l.run.from ≤ j → j < l.k → near_span l.span (span_at l.spans j) ≡ l.near

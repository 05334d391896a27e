-- `find_runs` meets its contract: the runs so far are those of the near ones before j.
use mathlib.Core.Path.{◌≡◌}
use mathlib.Core.List.{List}
use Prim.Native.Nat.{ℕ, ◌+◌, ◌-◌, ◌≤◌}
use lib.IntN.{ℤ}
use lib.ListN.{length}
use Rattle.sheet.specs.Limits.{most}
use Rattle.sheet.specs.Lists.{count_of}
use Rattle.listing.specs.Order.{span_at}
use Rattle.listing.specs.Runs.{in_runs, Runs, Known}
use Rattle.listing.specs.RunsLaws.{near_before}
use Rattle.listing.proofs.near_pairs.Near.find_runs.Given as goal

abbrev pub invariant-loop-j : goal.invariant-loop-j
invariant-loop-j l = record {
  known : Known l.list l.self.spans l.self.outer l.self.inner;
  span : l.span ≡ span_at l.self.spans l.i;
  cells : length l.self.runs ≡ most;
  few : l.count + l.i + 1 ≤ l.j;
  end : l.j ≤ count_of l.list;
  runs : Runs (count_of l.list) l.self.runs l.count;
  so_far : (f : ℕ → List ℤ) → in_runs f l.self.runs l.count ≡ near_before l.list l.i l.j f;
}

abbrev pub decreases-loop-j : goal.decreases-loop-j
decreases-loop-j l = count_of l.list - l.j

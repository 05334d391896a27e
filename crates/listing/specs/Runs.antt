-- What the inner functions of the code say of runs: which later objects an object is compared with, as parts of the list: from
-- its first object to the one behind its last.
use Rattle.std.specs.Prelude.{◌≡◌, true, false, List, [], ℕ, ◌+◌, ◌<◌, ◌≤◌, ℤ, length, get_or}
use Rattle.whole.specs.InTurn.{all_of, all_between}
use Rattle.sheet.specs.Lists.{count_of}
use Rattle.listing.specs.declared.runs.Run.{Run}
use Rattle.listing.specs.declared.spans.Span.{Span}
use Rattle.listing.specs.Near.{near_of, near_later}
use Rattle.listing.specs.Spans.{Spans, Blocks}

abbrev pub run_at : List Run → ℕ → Run
run_at runs k = get_or runs k (record { from = 0; to = 0 })

-- what f gives for the objects of the first m runs, in turn
abbrev pub in_runs : (ℕ → List ℤ) → List Run → ℕ → List ℤ
in_runs f runs m = all_of (λ k. all_between f (run_at runs k).from (run_at runs k).to) m

-- m runs of objects of a list
pub record Runs (n : ℕ) (runs : List Run) (m : ℕ) : Type 0 where
  pub long : m ≤ length runs
  pub rising : (k : ℕ) → k < m → (run_at runs k).from ≤ (run_at runs k).to
  pub end : (k : ℕ) → k < m → (run_at runs k).to ≤ n

-- they are exactly the later objects whose extents overlap or touch that of object i
pub record NearRuns (l : List ℤ) (i : ℕ) (runs : List Run) (m : ℕ) : Type 0 where
  pub runs_of : Runs (count_of l) runs m
  pub exactly : (f : ℕ → List ℤ) → in_runs f runs m ≡ near_later l i f

-- they are later objects, and of those that they pass over none is near
pub record Chosen (l : List ℤ) (i : ℕ) (runs : List Run) (m : ℕ) : Type 0 where
  pub runs_of : Runs (count_of l) runs m
  pub enough : (f : ℕ → List ℤ) → ((j : ℕ) → i < j → j < count_of l → near_of l i j ≡ false → f j ≡ [])
      → in_runs f runs m ≡ all_between f (i + 1) (count_of l)

-- what near objects are known by: their spans, and those of blocks of them
pub record Known (l : List ℤ) (spans outer inner : List Span) : Type 0 where
  pub spans_of : Spans l spans
  pub apart_blocks : Blocks false spans outer (count_of l)
  pub near_blocks : Blocks true spans inner (count_of l)

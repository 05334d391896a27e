-- What the inner functions of the code say of spans: for each object of a list the two numbers that Near has, which tell what stands apart; and
-- of blocks of them.
use Rattle.std.specs.Prelude.{◌≡◌, Bool, true, false, not, ◌&&◌, List, ℕ, ◌+◌, ◌-◌, ◌/◌, ◌<◌, ◌≤◌, ltb, ℤ, length}
use Rattle.sheet.specs.Lists.{count_of}
use Rattle.listing.specs.declared.spans.Span.{Span}
use Rattle.listing.specs.Near.{low_of, high_of}
use Rattle.listing.specs.Order.{span_at}

pub record Spans (l : List ℤ) (spans : List Span) : Type 0 where
  pub long : count_of l ≤ length spans
  pub low_is : (i : ℕ) → i < count_of l → (span_at spans i).low ≡ low_of l i
  pub high_is : (i : ℕ) → i < count_of l → (span_at spans i).high ≡ high_of l i

-- two spans overlap or touch: neither ends before the other begins
abbrev pub near_span : Span → Span → Bool
near_span a b = not (ltb a.high b.low) && not (ltb b.high a.low)

-- r is the first span from one on before another of which this is not so: that a is near it; the other where there is none
pub record Scan (a : Span) (is : Bool) (spans : List Span) (from to r : ℕ) : Type 0 where
  pub from_on : from ≤ r
  pub before : r ≤ to
  pub so : (k : ℕ) → from ≤ k → k < r → near_span a (span_at spans k) ≡ is
  pub not_so : r < to → near_span a (span_at spans r) ≡ not is

-- ---- blocks: the spans of so many objects together, as one

abbrev pub block_size : ℕ
block_size = 32

-- what is so of a block is so of each of its objects
pub record Blocks (is : Bool) (spans blocks : List Span) (n : ℕ) : Type 0 where
  pub long : (j : ℕ) → j < n → j / block_size < length blocks
  pub each : (a : Span) (j : ℕ) → j < n → near_span a (span_at blocks (j / block_size)) ≡ is → near_span a (span_at spans j) ≡ is

-- r is not passed by a: it is not less where larger numbers are kept, and not more where smaller ones are
pub data Beyond : Bool → ℕ → ℕ → Type 0 where
  up : {a r : ℕ} → a ≤ r → Beyond true a r
  down : {a r : ℕ} → r ≤ a → Beyond false a r

pub record Widened (larger first : Bool) (old new r : ℕ) : Type 0 where
  pub has_new : Beyond larger new r
  pub has_old : first ≡ false → Beyond larger old r

-- where the block that object j is in ends, of n objects: at n, or where the next one begins
pub record BlockEnd (j n r : ℕ) : Type 0 where
  pub on : j < r
  pub most : r ≤ n
  pub next : (k : ℕ) → r ≤ k → k < n → (r + (block_size - 1)) / block_size ≤ k / block_size

-- The laws of runs. To cite:
--   in-runs-none, runs_none, runs-more, in-runs-more   no run; one run more
--   near_before, near_none, near-more   the near ones before j, as their runs are found
--   run_on                     a run ends behind where it was looked for
--   near-chosen                the runs of the near ones are enough to list
--   runs-taken                 so many runs in front of others are all of those
-- Assumes nothing.
use Rattle.std.specs.Prelude.{◌≡◌, refl, Bool, true, false, cond, List, [], ◌++◌, ℕ, ◌+◌, ◌<◌, ◌≤◌, ℤ, length, set, take}
use Rattle.std.proofs.lemmas.List.{get_or-take, length-take-le}
use Rattle.std.proofs.Common.{sym, ap, subst, ◌∙◌, true≢false, append-nil, arith, lt_of_not-le, length-set, get_or-set_same, get_or-set_other}
use Rattle.std.proofs.Math.Decide.{dec_le}
use Rattle.whole.specs.InTurn.{in_turn, all_between}
use Rattle.whole.specs.InTurnLaws.{turn_more, turn-same, between_none, between-two, between-same, between-gone}
use Rattle.sheet.specs.Lists.{count_of}
use Rattle.sheet.specs.Listable.{Listable}
use Rattle.listing.specs.Near.{near_of}
use Rattle.listing.specs.declared.runs.Run.{Run}
use Rattle.listing.specs.declared.spans.Span.{Span}
use Rattle.listing.specs.Order.{span_at}
use Rattle.listing.specs.Spans.{Spans, near_span, Scan}
use Rattle.listing.specs.SpansLaws.{spans-near}
use Rattle.listing.specs.BlocksLaws.{before_more}
use Rattle.listing.specs.Runs.{run_at, in_runs, Runs, NearRuns, Chosen}

-- ---- one run more

pub in-runs-none : (f : ℕ → List ℤ) (runs : List Run) → in_runs f runs 0 ≡ []
unfolding in_turn
in-runs-none f runs = refl

pub runs_none : {n : ℕ} {runs : List Run} → Runs n runs 0
runs_none = record { long = omega arith; rising = λ k h. absurd (omega arith); end = λ k h. absurd (omega arith) }

-- what f gives for the objects of a run
abbrev rows_of : (ℕ → List ℤ) → Run → List ℤ
rows_of f r = all_between f r.from r.to

module _ (runs : List Run) (m : ℕ) (run : Run) (room : m < length runs) where
  abbrev more : List Run
  more = set runs m run

  new-is : run_at more m ≡ run
  new-is = get_or-set_same runs m run _ room

  old-is : (k : ℕ) → k < m → run_at more k ≡ run_at runs k
  old-is k h = get_or-set_other runs m k run _ (λ e. absurd (omega arith))

  pub runs-more : {n : ℕ} → Runs n runs m → run.from ≤ run.to → run.to ≤ n → Runs n more (m + 1)
  runs-more {n} r h e = record {
    long = omega (arith, length-set runs m run);
    rising = before_more (λ k. Rises (run_at more k)) (λ k b. subst Rises (sym (old-is k b)) (r.rising k b)) (subst Rises (sym new-is) h);
    end = before_more (λ k. Ends (run_at more k)) (λ k b. subst Ends (sym (old-is k b)) (r.end k b)) (subst Ends (sym new-is) e);
  }
    where
      Rises : Run → Type 0
      Rises r = r.from ≤ r.to

      Ends : Run → Type 0
      Ends r = r.to ≤ n

  pub in-runs-more : (f : ℕ → List ℤ) → in_runs f more (m + 1) ≡ in_runs f runs m ++ all_between f run.from run.to
  in-runs-more f =
      turn_more ◌++◌ [] (λ k. rows_of f (run_at more k)) m
      ∙ (λ i. turn-same ◌++◌ [] m (λ k h. ap (rows_of f) (old-is k h)) i ++ rows_of f (new-is i))

-- ---- the near ones

-- what f gives for a later object that is near
abbrev near_only : List ℤ → ℕ → (ℕ → List ℤ) → ℕ → List ℤ
near_only l i f k = cond (near_of l i k) (f k) []

-- and for those before j
abbrev pub near_before : List ℤ → ℕ → ℕ → (ℕ → List ℤ) → List ℤ
near_before l i j f = all_between (near_only l i f) (i + 1) j

pub near_none : (l : List ℤ) (i : ℕ) (runs : List Run) (f : ℕ → List ℤ) → in_runs f runs 0 ≡ near_before l i (i + 1) f
near_none l i runs f = in-runs-none f runs ∙ sym (between_none (near_only l i f) (i + 1))

module _ {l : List ℤ} {spans : List Span} (L : Listable l) (s : Spans l spans) (i : ℕ) (one : i < count_of l) where
  -- how far a scan goes, by the extents of the objects
  scan-near : {is : Bool} {from r : ℕ} → Scan (span_at spans i) is spans from (count_of l) r
      → (f : ℕ → List ℤ) (k : ℕ) → from ≤ k → k < r → near_only l i f k ≡ cond is (f k) []
  scan-near x f k a b =
      ap (λ (t : Bool). cond t (f k) []) (sym (spans-near L s i k one (omega (arith, x.before))) ∙ x.so k a b)

  pub near-more : {j from to : ℕ} (f : ℕ → List ℤ) → i < j
      → Scan (span_at spans i) false spans j (count_of l) from
      → Scan (span_at spans i) true spans from (count_of l) to
      → near_before l i j f ++ all_between f from to ≡ near_before l i to f
  near-more {j} {from} {to} f h x y =
      (λ t. passed t ++ sym (between-same from to (scan-near y f)) t) ∙ between-two (near_only l i f) (i + 1) from to (omega (arith, x.from_on)) y.from_on
    where
      passed : near_before l i j f ≡ near_before l i from f
      passed =
          sym (append-nil (near_before l i j f))
          ∙ ap (λ (e : List ℤ). near_before l i j f ++ e) (sym (between-gone j from (scan-near x f)))
          ∙ between-two (near_only l i f) (i + 1) j from (omega arith) x.from_on

-- a run that is looked for from j on ends behind j
pub run_on : {a : Span} {spans : List Span} {j n from to : ℕ} → Scan a false spans j n from → Scan a true spans from n to → j < n → j < to
run_on {a} {spans} {j} {n} {from} {to} x y h = go (dec_le to from)
  where
    go : Dec (to ≤ from) → j < to
    go (no m) = let less = lt_of_not-le m in omega (arith, x.from_on)
    go (yes m) = by (dec_le n from)
      where
        same : to ≡ from
        same = omega (arith, y.from_on)

        by : Dec (n ≤ from) → j < to
        by (yes e) = omega (arith, y.from_on)
        by (no e) =
            let less = lt_of_not-le e in
            absurd (true≢false (sym (x.not_so less) ∙ sym (ap (λ (k : ℕ). near_span a (span_at spans k)) same) ∙ y.not_so (omega (arith, y.from_on))))

-- ---- enough to list

-- the runs in front
pub runs-taken : {n : ℕ} {runs : List Run} {m : ℕ} → Runs n runs m → Runs n (take m runs) (length (take m runs)) × ((f : ℕ → List ℤ) → in_runs f (take m runs) (length (take m runs)) ≡ in_runs f runs m)
runs-taken {n} {runs} {m} r = (
  record {
    long = omega arith;
    rising = λ k h. subst (λ (r : Run). r.from ≤ r.to) (sym (same k (omega (arith, count)))) (r.rising k (omega (arith, count)));
    end = λ k h. subst (λ (r : Run). r.to ≤ n) (sym (same k (omega (arith, count)))) (r.end k (omega (arith, count)));
  },
  λ f. ap (in_runs f (take m runs)) count ∙ turn-same ◌++◌ [] m (λ k h. ap (rows_of f) (same k h)),
)
  where
    count : length (take m runs) ≡ m
    count = length-take-le m runs r.long

    same : (k : ℕ) → k < m → run_at (take m runs) k ≡ run_at runs k
    same k h = get_or-take m runs k _ h

pub near-chosen : {l : List ℤ} {i : ℕ} {runs : List Run} {m : ℕ} → NearRuns l i runs m → Chosen l i runs m
near-chosen {l} {i} r = record {
  runs_of = r.runs_of;
  enough = λ f e. r.exactly f ∙ between-same (i + 1) (count_of l) (λ k a b. go f k (near_of l i k) (e k (omega arith) b));
}
  where
    go : (f : ℕ → List ℤ) (k : ℕ) (t : Bool) → (t ≡ false → f k ≡ []) → cond t (f k) [] ≡ f k
    go f k true e = refl
    go f k false e = sym (e refl)

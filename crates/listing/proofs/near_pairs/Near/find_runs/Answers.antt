-- `find_runs` meets its contract: the runs so far are those of the near ones before j.
use mathlib.Core.Bool.{true, false}
use mathlib.Core.Path.{◌≡◌, refl, ap, subst, ◌∙◌}
use mathlib.Core.List.{List, ◌++◌}
use Prim.Native.Nat.{ℕ, ◌<◌}
use native.Mathlib.Omega.{arith}
use lib.IntN.{ℤ}
use lib.ListN.{length, length-set}
use Rattle.whole.specs.InTurn.{all_between}
use Rattle.sheet.specs.Lists.{count_of}
use Rattle.listing.specs.declared.spans.Span.{Span}
use Rattle.listing.specs.Order.{span_at}
use Rattle.listing.specs.Spans.{Scan}
use Rattle.listing.specs.RunsLaws.{runs_none, runs-more, in-runs-more, near_before, near_none, near-more, run_on}
use Rattle.listing.proofs.near_pairs.Near.find_runs.Goals as goal

pub loop-j-init : goal.loop-j-init
loop-j-init c = record {
  known = c.requires.known;
  span = refl;
  cells = omega (arith, c.type_inv.self);
  few = omega arith;
  end = omega (arith, c.requires.listable.1);
  runs = runs_none;
  so_far = near_none c.args.list.now c.args.i c.args.self.now.runs;
}

pub loop-j-preserved : goal.loop-j-preserved
loop-j-preserved c =
    let inv = c.loop-j.invariant in
    let l = c.args.list.now in
    let i = c.args.i in
    let one = c.requires.listable.1 in
    let x = c.end_where-from in
    let y = c.end_where-to in
    let spans = c.loop-j.self.spans in
    let from : Scan (span_at spans i) false spans c.loop-j.j (count_of l) x.result = subst (λ (s : Span). Scan s false spans c.loop-j.j (count_of l) x.result) inv.span x.ensures in
    let to : Scan (span_at spans i) true spans x.result (count_of l) y.result = subst (λ (s : Span). Scan s true spans x.result (count_of l) y.result) inv.span y.ensures in
    let h : c.loop-j.j < y.result = run_on from to c.loop-j-test.true in
    let runs = c.loop-j.self.runs in
    let room : c.loop-j.count < length runs = omega (arith, inv.few, c.requires.listable.0.few, c.loop-j-test.true, inv.cells) in
    record {
      known = inv.known;
      span = inv.span;
      cells = length-set runs c.loop-j.count _ ∙ inv.cells;
      few = omega (arith, inv.few);
      end = y.ensures.before;
      runs = runs-more runs c.loop-j.count _ room inv.runs y.ensures.from_on y.ensures.before;
      so_far = λ f. in-runs-more runs c.loop-j.count _ room f
          ∙ ap (λ (e : List ℤ). e ++ all_between f x.result y.result) (inv.so_far f)
          ∙ near-more c.requires.listable.0 inv.known.spans_of i one f (omega (arith, inv.few)) from to;
    }

pub returns-clause-runs : goal.returns-clause-runs
returns-clause-runs c =
    let inv = c.loop-j.invariant in
    let e : c.loop-j.j ≡ count_of c.args.list.now = omega (arith, inv.end) in
    record { runs_of = inv.runs; exactly = λ f. inv.so_far f ∙ ap (λ (j : ℕ). near_before c.args.list.now c.args.i j f) e }

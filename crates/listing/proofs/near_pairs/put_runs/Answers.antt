-- `put_runs` meets its contract: before k are the rows with the objects of the runs before k, and before j those of run k before j.
use mathlib.Core.Path.{◌≡◌, sym, ap}
use mathlib.Core.List.{[], ◌++◌}
use native.Mathlib.Omega.{arith}
use Rattle.whole.specs.InTurn.{all_between}
use Rattle.whole.specs.InTurnLaws.{turn_more}
use Rattle.sheet.specs.LentLaws.{wrote_none, wrote-two, wrote_as, wrote-length, wrote-place}
use Rattle.listing.specs.Rows.{row_of}
use Rattle.listing.specs.Runs.{run_at}
use Rattle.listing.specs.RunsLaws.{in-runs-none}
use Rattle.listing.proofs.Turns.{wrote-first, wrote-next}
use Rattle.listing.proofs.near_pairs.put_runs.Goals as goal

pub loop-run-init : goal.loop-run-init
loop-run-init c = wrote_as (wrote_none (omega arith) (omega arith)) (sym (in-runs-none (row_of c.args.joints c.args.list.now c.args.i) c.args.runs.now))

pub loop-j-init : goal.loop-j-init
loop-j-init c =
    let w = c.loop-run.invariant in
    wrote-first (row_of c.args.joints c.args.list.now c.args.i) _ (omega (arith, w.lent, wrote-length w)) (wrote-place w)

pub loop-j-preserved : goal.loop-j-preserved
loop-j-preserved c = wrote-next (row_of c.args.joints c.args.list.now c.args.i) _ c.loop-j.auto.j c.loop-j.invariant c.put_row-next.ensures

pub loop-run-preserved : goal.loop-run-preserved
loop-run-preserved c =
    let f = row_of c.args.joints c.args.list.now c.args.i in
    let rs = c.args.runs.now in
    let k = c.loop-run.run-index in
    let rising = c.requires.2.rising k c.loop-run-test.true in
    let end = c.requires.2.end k c.loop-run-test.true in
    let e : c.loop-j.j ≡ (run_at rs k).to = omega arith in
    let whole = wrote_as c.loop-j.invariant (ap (all_between f (run_at rs k).from) e) in
    wrote_as (wrote-two c.loop-run.invariant whole) (sym (turn_more ◌++◌ [] (λ k. all_between f (run_at rs k).from (run_at rs k).to) k))

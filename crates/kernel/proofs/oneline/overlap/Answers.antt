-- `overlap` meets its contract: the later start is picked by the test, with its place, and the sooner stop by `min`.
use mathlib.Core.Path.{◌≡◌, sym, ◌∙◌, ap}
use mathlib.Core.Bool.{Bool, cond}
use mathlib.Core.List.{List}
use lib.IntN.{ℤ}
use lib.Signed.{lt_z}
use Rattle.whole.specs.Tests.{out, out-is, lt-flag, gave}
use Rattle.sheet.specs.Figure.{vec}
use Rattle.sheet.specs.Answers.{meeting_numbers}
use Rattle.kernel.specs.Stretches.{between_by}
use Rattle.kernel.proofs.oneline.overlap.Goals as goal

pub returns-then-lo-low : goal.returns-then-lo-low
returns-then-lo-low c =
    let stop : out c.min-stop.result ≡ cond (lt_z c.args.hi c.args.high) c.args.hi c.args.high =
    gave c.min-stop.type_inv c.min-stop.ensures.value
    ∙ (λ i. cond (lt_z (out-is c.ranges.hi i) (out-is c.ranges.high i)) (out-is c.ranges.hi i) (out-is c.ranges.high i)) in
    let shared : Bool → List ℤ =
    λ t. meeting_numbers (between_by
    (cond t c.args.low c.args.lo)
    (cond (lt_z c.args.hi c.args.high) c.args.hi c.args.high)
    (cond t (vec c.args.u c.args.v) (vec c.args.x c.args.y))) in
    c.between.ensures
    ∙ (λ i. meeting_numbers (between_by (out-is c.ranges.low i) (stop i) (vec (out-is c.ranges.u i) (out-is c.ranges.v i))))
    ∙ sym (ap shared (lt-flag c.ranges.lo c.ranges.low c.if-lo-low.true))

pub returns : goal.returns
returns c =
    let stop : out c.min-stop.result ≡ cond (lt_z c.args.hi c.args.high) c.args.hi c.args.high =
    gave c.min-stop.type_inv c.min-stop.ensures.value
    ∙ (λ i. cond (lt_z (out-is c.ranges.hi i) (out-is c.ranges.high i)) (out-is c.ranges.hi i) (out-is c.ranges.high i)) in
    let shared : Bool → List ℤ =
    λ t. meeting_numbers (between_by
    (cond t c.args.low c.args.lo)
    (cond (lt_z c.args.hi c.args.high) c.args.hi c.args.high)
    (cond t (vec c.args.u c.args.v) (vec c.args.x c.args.y))) in
    c.between-2.ensures
    ∙ (λ i. meeting_numbers (between_by (out-is c.ranges.lo i) (stop i) (vec (out-is c.ranges.x i) (out-is c.ranges.y i))))
    ∙ sym (ap shared (lt-flag c.ranges.lo c.ranges.low c.if-lo-low.false))

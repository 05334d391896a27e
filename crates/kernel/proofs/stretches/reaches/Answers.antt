-- `reaches` meets its contract: of a segment both tests are asked, of the others the first alone, as `reaches_by` has it.
use mathlib.Core.Path.{◌≡◌, refl, sym, ap}
use mathlib.Core.Bool.{Bool, true, false, ◌&&◌}
use lib.IntN.{ℤ, pos}
use Rattle.whole.specs.Tests.{out-is, lit-flag, lit-taken, eq-left, ne-eq_z}
use Rattle.kernel.specs.Stretches.{reaches_by}
use Rattle.kernel.proofs.stretches.reaches.Goals as goal

and-true : (b : Bool) → b ≡ (b && true)
and-true true = refl
and-true false = refl

pub returns-then-kind-eq-SEGMENT : goal.returns-then-kind-eq-SEGMENT
returns-then-kind-eq-SEGMENT c =
    let segment = lit-taken 1 tt c.ranges.kind c.if-kind-eq-SEGMENT.true in
    simp (out-is, c.ranges.h, c.ranges.w) (ap (λ (kind : ℤ). reaches_by kind c.args.h c.args.w) (sym segment))

pub returns : goal.returns
returns c =
    let other = ne-eq_z {a = c.args.kind} {b = pos 1} (eq-left c.if-kind-eq-SEGMENT.false) in
    simp (out-is, lit-flag 3 tt, c.ranges.kind, c.ranges.h, other) (and-true _)

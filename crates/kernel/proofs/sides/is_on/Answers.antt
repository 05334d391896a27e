-- `is_on` meets its contract: the test says which form the far end has, and the common divisor, which is above 0, changes neither flag.
use mathlib.Core.Path.{◌≡◌, sym, ◌∙◌, ap}
use lib.IntN.{ℤ, pos}
use lib.Signed.{◌<ℤ◌}
use Rattle.whole.specs.Ring.{var, ◌⊗◌}
use Rattle.whole.specs.Flat.{need}
use mir.Syntax.{w64}
use mir.Val.{SFits}
use Rattle.whole.specs.Tests.{out, out-is}
use Rattle.sheet.specs.declared.Point.{Point}
use Rattle.sheet.specs.Points.{divided}
use Rattle.sheet.specs.Ends.{flat, steep, far_end}
use Rattle.kernel.specs.Stretches.{on_by, on-by-divided}
use Rattle.kernel.proofs.Ahead.{k_e, four, direction, by-direction, is-flat, is_steep, outward}
use Rattle.kernel.proofs.sides.is_on.Goals as goal

-- on the side before the division, and after it
divided-on : {ox oy : ℤ} {d e f : Point} → SFits w64 ox → SFits w64 oy → e ≡ f → (d ≡ f) × (pos 0 <ℤ f.w)
    → on_by (out ox) (out oy) e ≡ on_by ox oy (divided d)
divided-on {ox} {oy} {f = f} x y q h =
    (λ i. on_by (out-is x i) (out-is y i) (q i))
    ∙ sym (on-by-divided ox oy f h.1) ∙ sym (ap (λ (e : Point). on_by ox oy (divided e)) h.0)

pub overflow_mul-k : goal.overflow_mul-k
overflow_mul-k c = need (four c.requires.ahead) (var 2 ⊗ var 1) tt

pub overflow_mul-k-2 : goal.overflow_mul-k-2
overflow_mul-k-2 c = need (four c.requires.ahead) (var 3 ⊗ var 0) tt

pub overflow_sub-k : goal.overflow_sub-k
overflow_sub-k c = need (four c.requires.ahead) k_e tt

pub is_flat-requires : goal.is_flat-requires
is_flat-requires c = direction c.requires.ahead

pub is_on_flat-requires : goal.is_on_flat-requires
is_on_flat-requires c = record { out = outward c.requires.out; direction = direction c.requires.ahead }

pub returns-then-is_flat : goal.returns-then-is_flat
unfolding far_end
returns-then-is_flat c =
    let h = c.requires.ahead in
    c.is_on_flat.ensures
    ∙ divided-on c.ranges.ox c.ranges.oy (by-direction h flat) (is-flat h c.is_flat.ensures c.if-is_flat.true)

pub is_on_steep-requires : goal.is_on_steep-requires
is_on_steep-requires c = record { out = outward c.requires.out; direction = direction c.requires.ahead }

pub returns : goal.returns
unfolding far_end
returns c =
    let h = c.requires.ahead in
    c.is_on_steep.ensures
    ∙ divided-on c.ranges.ox c.ranges.oy (by-direction h steep) (is_steep h c.is_flat.ensures c.if-is_flat.false)

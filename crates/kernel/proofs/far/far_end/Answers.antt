-- `far_end` meets its contract: k is the moment; the test says which form the far end has and that its w is above 0, and that form is divided.
use mathlib.Core.Path.{sym, ◌∙◌, ap, subst}
use lib.IntN.{ℤ, pos}
use lib.Signed.{◌<ℤ◌}
use Rattle.whole.specs.Ring.{var, ◌⊗◌}
use Rattle.whole.specs.Flat.{need, back}
use Rattle.sheet.specs.Points.{size, divided}
use Rattle.sheet.specs.Ends.{flat, steep, far_end}
use Rattle.kernel.proofs.Ahead.{k_e, four, direction, by-direction, is-flat, is_steep}
use Rattle.kernel.proofs.far.far_end.Goals as goal

pub overflow_mul-k : goal.overflow_mul-k
overflow_mul-k c = need (four c.requires) (var 2 ⊗ var 1) tt

pub overflow_mul-k-2 : goal.overflow_mul-k-2
overflow_mul-k-2 c = need (four c.requires) (var 3 ⊗ var 0) tt

pub overflow_sub-k : goal.overflow_sub-k
overflow_sub-k c = need (four c.requires) k_e tt

pub is_flat-requires : goal.is_flat-requires
is_flat-requires c = direction c.requires

pub flat_end-requires : goal.flat_end-requires
flat_end-requires c =
    let h = c.requires in
    let f = is-flat h c.is_flat.ensures c.if-is_flat.true in
    record { direction = direction h; pos_bound = subst (λ (z : ℤ). pos 0 <ℤ size z) (sym (back h.bdx tt)) f.1 }

pub returns-then-is_flat : goal.returns-then-is_flat
unfolding far_end
returns-then-is_flat c =
    let h = c.requires in
    let f = is-flat h c.is_flat.ensures c.if-is_flat.true in
    c.flat_end.ensures ∙ ap divided (by-direction h flat ∙ sym f.0)

pub steep_end-requires : goal.steep_end-requires
steep_end-requires c =
    let h = c.requires in
    let f = is_steep h c.is_flat.ensures c.if-is_flat.false in
    record { direction = direction h; pos_bound = subst (λ (z : ℤ). pos 0 <ℤ size z) (sym (back h.bdy tt)) f.1 }

pub returns : goal.returns
unfolding far_end
returns c =
    let h = c.requires in
    let f = is_steep h c.is_flat.ensures c.if-is_flat.false in
    c.steep_end.ensures ∙ ap divided (by-direction h steep ∙ sym f.0)

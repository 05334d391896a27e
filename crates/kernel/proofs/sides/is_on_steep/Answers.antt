-- `is_on_steep` meets its contract: how far the far end goes out over the side, and the rest without R, are those of the second form.
use mathlib.Core.Path.{◌≡◌, sym, ◌∙◌, ap, ap₂}
use mathlib.Core.Bool.{◌&&◌}
use mathlib.Core.List.{[], ◌∷◌}
use lib.IntN.{ℤ, pos, neg_ℤ, ◌+ℤ◌, ◌-ℤ◌, ◌*ℤ◌}
use Rattle.whole.specs.Sign.{sgn}
use Rattle.whole.specs.Ring.{Expr, var, lit, ◌⊕◌, ◌⊖◌, ◌⊗◌, ⊝◌, ring}
use Rattle.whole.specs.Flat.{◌also◌, need, raw-is}
use Rattle.whole.specs.Flag.{eq_z}
use Rattle.whole.specs.Tests.{out-is, fits-ok, lit-flag}
use Rattle.sheet.specs.Points.{size}
use Rattle.kernel.specs.Forms.{steep-is}
use Rattle.kernel.specs.Stretches.{on_by}
use Rattle.kernel.proofs.Ahead.{signed-k, size-fits, m_e, lengths, full-flag}
use Rattle.kernel.proofs.sides.is_on_steep.Goals as goal

abbrev n_e : Expr
n_e = var 0 ⊗ (lit 0 ⊖ var 1 ⊗ var 2)

numbers : (a b t k : ℤ) → a *ℤ (pos 0 -ℤ t *ℤ k) ≡ a *ℤ neg_ℤ (t *ℤ k) +ℤ b *ℤ pos 0
numbers a b t k = ring (a ∷ b ∷ t ∷ k ∷ []) (var 0 ⊗ (lit 0 ⊖ var 2 ⊗ var 3)) (var 0 ⊗ ⊝ (var 2 ⊗ var 3) ⊕ var 1 ⊗ lit 0) tt

pub abs-w-requires : goal.abs-w-requires
abs-w-requires c = size-fits c.requires.direction.bdy

pub overflow_mul-m : goal.overflow_mul-m
overflow_mul-m c = need (lengths (c.requires.out, c.requires.direction)) (var 0 ⊗ var 2) tt

pub overflow_mul-m-2 : goal.overflow_mul-m-2
overflow_mul-m-2 c = need (lengths (c.requires.out, c.requires.direction)) (var 1 ⊗ var 3) tt

pub overflow_add-m : goal.overflow_add-m
overflow_add-m c = need (lengths (c.requires.out, c.requires.direction)) m_e tt

pub overflow_mul-n : goal.overflow_mul-n
overflow_mul-n c = need (c.requires.out.box also signed-k _ c.sign-sy.ensures c.requires.direction.bk) (var 1 ⊗ var 2) tt

pub overflow_sub-n : goal.overflow_sub-n
overflow_sub-n c = need (c.requires.out.box also signed-k _ c.sign-sy.ensures c.requires.direction.bk) (lit 0 ⊖ var 1 ⊗ var 2) tt

pub overflow_mul-n-2 : goal.overflow_mul-n-2
overflow_mul-n-2 c = need (c.requires.out.box also signed-k _ c.sign-sy.ensures c.requires.direction.bk) n_e tt

pub returns : goal.returns
returns c =
    let factors = c.requires.out.box also signed-k _ c.sign-sy.ensures c.requires.direction.bk in
    let ox = c.args.ox in
    let oy = c.args.oy in
    let w = c.abs-w in
    let full = full-flag (c.requires.out, c.requires.direction) (fits-ok w.result w.type_inv) (w.ensures.value ∙ ap size (out-is c.ranges.dy)) in
    let sign = c.sign-sy.ensures ∙ ap sgn (out-is c.ranges.dy) in
    let rest =
    lit-flag 0 tt (need factors n_e tt)
    ∙ ap (λ (z : ℤ). eq_z z (pos 0)) (raw-is factors n_e tt ∙ numbers ox oy c.sign-sy.result c.args.k
    ∙ ap (λ (t : ℤ). ox *ℤ neg_ℤ (t *ℤ c.args.k) +ℤ oy *ℤ pos 0) sign)
    in
    ap₂ ◌&&◌ full rest ∙ sym (ap (on_by ox oy) (steep-is c.args.dx c.args.dy c.args.k))

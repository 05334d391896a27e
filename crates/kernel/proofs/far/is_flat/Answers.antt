-- `is_flat` meets its contract: sizes and signs are those of dx and dy, and their product with k fits.
use mathlib.Core.Path.{◌≡◌, ◌∙◌, ap, ap₂}
use mathlib.Core.Bool.{◌||◌, ◌&&◌}
use lib.Dec.{eqb}
use lib.IntN.{ℤ, pos, ◌*ℤ◌}
use lib.Signed.{lt_z, le_z}
use mir.Syntax.{w64}
use mir.Val.{of_z}
use Rattle.whole.specs.Sign.{sgn}
use Rattle.whole.specs.Ring.{var, ◌⊗◌}
use Rattle.whole.specs.Flat.{◌also◌, need, gives}
use Rattle.whole.specs.Bound.{w-is, w-sgn}
use Rattle.whole.specs.Flag.{eq_z}
use Rattle.whole.specs.Tests.{eq_flag, fits-ok, out-is, out-ok}
use Rattle.sheet.specs.Points.{size}
use Rattle.kernel.proofs.Ahead.{size-fits, signed-k}
use Rattle.kernel.proofs.far.is_flat.Goals as goal

pub abs-across-requires : goal.abs-across-requires
abs-across-requires c = size-fits c.requires.bdx

pub abs-up-requires : goal.abs-up-requires
abs-up-requires c = size-fits c.requires.bdy

pub overflow_mul-tie : goal.overflow_mul-tie
overflow_mul-tie c = need (w-is c.sign-sx.ensures (w-sgn _) also signed-k _ c.sign-sy.ensures c.requires.bk) (var 0 ⊗ var 1) tt

pub overflow_mul-tie-2 : goal.overflow_mul-tie-2
overflow_mul-tie-2 c = need (w-is c.sign-sx.ensures (w-sgn _) also signed-k _ c.sign-sy.ensures c.requires.bk) (var 0 ⊗ var 1 ⊗ var 2) tt

pub returns : goal.returns
returns c =
    let signs = w-is c.sign-sx.ensures (w-sgn _) also signed-k _ c.sign-sy.ensures c.requires.bk in
    let x = c.abs-across in
    let y = c.abs-up in
    let across : x.result ≡ size c.args.dx = x.ensures.value ∙ ap size (out-is c.ranges.dx) in
    let up : y.result ≡ size c.args.dy = y.ensures.value ∙ ap size (out-is c.ranges.dy) in
    let flag : eqb (of_z w64 x.result) (of_z w64 y.result) ≡ eq_z (size c.args.dx) (size c.args.dy) =
    eq_flag (fits-ok x.result x.type_inv) (fits-ok y.result y.type_inv) ∙ ap₂ eq_z across up
    in
    let tie =
    gives signs (var 0 ⊗ var 1 ⊗ var 2) tt
    ∙ ap₂ (λ (a b : ℤ). a *ℤ b *ℤ c.args.k) (c.sign-sx.ensures ∙ ap sgn (out-is c.ranges.dx)) (c.sign-sy.ensures ∙ ap sgn (out-is c.ranges.dy))
    in
    λ i. lt_z ((out-ok y.result y.type_inv ∙ up) i) ((out-ok x.result x.type_inv ∙ across) i) || (flag i && le_z (tie i) (pos 0))

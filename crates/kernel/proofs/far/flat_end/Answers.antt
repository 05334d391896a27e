-- `flat_end` meets its contract: dx is sx |dx|, and the five numbers are within what `divide` asks.
use mathlib.Core.Path.{◌≡◌, sym, ◌∙◌, ap, subst}
use lib.IntN.{ℤ, pos, ◌*ℤ◌}
use lib.Signed.{◌<ℤ◌}
use Rattle.whole.specs.Sign.{sgn}
use Rattle.whole.specs.Ring.{var, ◌⊗◌}
use Rattle.whole.specs.Flat.{need, gives, held, within-out}
use Rattle.whole.specs.Bound.{w-is, w-lit, w-pos, w-size}
use Rattle.whole.specs.Tests.{out, out-is, gave}
use Rattle.sheet.specs.Points.{size, divided}
use Rattle.kernel.specs.Forms.{flat-is}
use Rattle.kernel.proofs.Ahead.{size-fits, signed-k}
use Rattle.kernel.proofs.far.flat_end.Goals as goal

pub abs-w-requires : goal.abs-w-requires
abs-w-requires c = size-fits c.requires.direction.bdx

pub overflow_mul-ny : goal.overflow_mul-ny
overflow_mul-ny c = need (signed-k _ c.sign-sx.ensures c.requires.direction.bk) (var 0 ⊗ var 1) tt

pub divide-requires : goal.divide-requires
divide-requires c =
    let factors = signed-k _ c.sign-sx.ensures c.requires.direction.bk in
    let wide : out c.abs-w.result ≡ size c.args.dx = gave c.abs-w.type_inv c.abs-w.ensures.value ∙ ap size (out-is c.ranges.dx) in
    record {
      bmx = w-lit (within-out c.requires.direction.bdx tt) tt;
      bnx = w-lit (w-pos 0) tt;
      bmy = w-lit (within-out c.requires.direction.bdy tt) tt;
      bny = w-lit (held factors (var 0 ⊗ var 1) tt) tt;
      bw = w-lit (w-is wide (w-size c.requires.direction.bdx)) tt;
      above = subst (λ (z : ℤ). pos 0 <ℤ z) (sym wide) c.requires.pos_bound;
    }

pub returns : goal.returns
returns c =
    let factors = signed-k _ c.sign-sx.ensures c.requires.direction.bk in
    let sign-is : c.sign-sx.result ≡ sgn c.args.dx = c.sign-sx.ensures ∙ ap sgn (out-is c.ranges.dx) in
    let wide : out c.abs-w.result ≡ size c.args.dx = gave c.abs-w.type_inv c.abs-w.ensures.value ∙ ap size (out-is c.ranges.dx) in
    let n = gives factors (var 0 ⊗ var 1) tt ∙ ap (λ (z : ℤ). z *ℤ c.args.k) sign-is in
    c.divide.ensures
    ∙ ap divided ((λ i. record { mx = out-is c.ranges.dx i; nx = pos 0; my = out-is c.ranges.dy i; ny = n i; w = wide i }) ∙ sym (flat-is c.args.dx c.args.dy c.args.k))

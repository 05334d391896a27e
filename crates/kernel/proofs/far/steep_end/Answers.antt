-- `steep_end` meets its contract: dy is sy |dy|, and the five numbers are within what `divide` asks.
use mathlib.Core.Path.{◌≡◌, sym, ◌∙◌, ap, subst}
use lib.IntN.{ℤ, pos, neg_ℤ, ◌*ℤ◌, +ℤ_idl}
use lib.Signed.{◌<ℤ◌}
use Rattle.whole.specs.Sign.{sgn}
use Rattle.whole.specs.Ring.{var, lit, ◌⊖◌, ◌⊗◌}
use Rattle.whole.specs.Flat.{need, gives, held, within-out}
use Rattle.whole.specs.Bound.{w-is, w-lit, w-pos, w-size}
use Rattle.whole.specs.Tests.{out, out-is, gave}
use Rattle.sheet.specs.Points.{size, divided}
use Rattle.kernel.specs.Forms.{steep-is}
use Rattle.kernel.proofs.Ahead.{size-fits, signed-k}
use Rattle.kernel.proofs.far.steep_end.Goals as goal

pub abs-w-requires : goal.abs-w-requires
abs-w-requires c = size-fits c.requires.direction.bdy

pub overflow_mul-sk : goal.overflow_mul-sk
overflow_mul-sk c = need (signed-k _ c.sign-sy.ensures c.requires.direction.bk) (var 0 ⊗ var 1) tt

pub overflow_sub-nx : goal.overflow_sub-nx
overflow_sub-nx c = need (signed-k _ c.sign-sy.ensures c.requires.direction.bk) (lit 0 ⊖ var 0 ⊗ var 1) tt

pub divide-requires : goal.divide-requires
divide-requires c =
    let factors = signed-k _ c.sign-sy.ensures c.requires.direction.bk in
    let wide : out c.abs-w.result ≡ size c.args.dy = gave c.abs-w.type_inv c.abs-w.ensures.value ∙ ap size (out-is c.ranges.dy) in
    record {
      bmx = w-lit (within-out c.requires.direction.bdx tt) tt;
      bnx = w-lit (held factors (lit 0 ⊖ var 0 ⊗ var 1) tt) tt;
      bmy = w-lit (within-out c.requires.direction.bdy tt) tt;
      bny = w-lit (w-pos 0) tt;
      bw = w-lit (w-is wide (w-size c.requires.direction.bdy)) tt;
      above = subst (λ (z : ℤ). pos 0 <ℤ z) (sym wide) c.requires.pos_bound;
    }

pub returns : goal.returns
returns c =
    let factors = signed-k _ c.sign-sy.ensures c.requires.direction.bk in
    let sign-is : c.sign-sy.result ≡ sgn c.args.dy = c.sign-sy.ensures ∙ ap sgn (out-is c.ranges.dy) in
    let wide : out c.abs-w.result ≡ size c.args.dy = gave c.abs-w.type_inv c.abs-w.ensures.value ∙ ap size (out-is c.ranges.dy) in
    let n = gives factors (lit 0 ⊖ var 0 ⊗ var 1) tt ∙ +ℤ_idl (neg_ℤ (c.sign-sy.result *ℤ c.args.k)) ∙ ap (λ (z : ℤ). neg_ℤ (z *ℤ c.args.k)) sign-is in
    c.divide.ensures
    ∙ ap divided ((λ i. record { mx = out-is c.ranges.dx i; nx = n i; my = out-is c.ranges.dy i; ny = pos 0; w = wide i }) ∙ sym (steep-is c.args.dx c.args.dy c.args.k))

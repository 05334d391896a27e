-- `times_sign` meets its contract: a w below 0 has sign -1 and one above 0 has sign 1; it is not 0.
use mathlib.Core.Path.{sym, ◌∙◌, ap}
use lib.IntN.{ℤ, pos, neg_ℤ, ◌*ℤ◌, +ℤ_idl}
use Rattle.whole.specs.Laws.{neg-mul, one-mul}
use Rattle.whole.specs.Ring.{var, lit, ◌⊖◌}
use Rattle.whole.specs.Flat.{none, ◌also◌, need, gives}
use Rattle.whole.specs.Order.{lt_of_le_ne}
use Rattle.whole.specs.Bound.{fits64, w-pos}
use Rattle.whole.specs.SignLaws.{sgn-pos, sgn-neg}
use Rattle.whole.specs.Tests.{out-is, lt-taken, lt-left}
use Rattle.kernel.proofs.stretches.times_sign.Goals as goal

pub overflow_sub-result : goal.overflow_sub-result
overflow_sub-result c = need (c.requires.bz also none) (lit 0 ⊖ var 0) tt

pub returns-then-w-lt0 : goal.returns-then-w-lt0
returns-then-w-lt0 c =
    let z = c.args.z in
    gives (c.requires.bz also none) (lit 0 ⊖ var 0) tt ∙ +ℤ_idl (neg_ℤ z)
    ∙ sym (ap (λ (t : ℤ). t *ℤ z) (sgn-neg (lt-taken c.ranges.w (fits64 (w-pos 0) tt) c.if-w-lt0.true)) ∙ neg-mul (pos 1) z ∙ ap neg_ℤ (one-mul z))

pub returns : goal.returns
returns c =
    let z = c.args.z in
    let up = lt_of_le_ne (lt-left c.ranges.w (fits64 (w-pos 0) tt) c.if-w-lt0.false) (λ e. c.requires.not_zero (sym e)) in
    out-is c.ranges.z ∙ sym (ap (λ (t : ℤ). t *ℤ z) (sgn-pos up) ∙ one-mul z)

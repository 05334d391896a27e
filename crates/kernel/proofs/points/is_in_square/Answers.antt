-- `is_in_square` meets its contract: its flags are those of `in_square`; a sign is within 1, so its opposite fits.
use mathlib.Core.Path.{◌∙◌, ap, ap₂}
use mathlib.Core.Bool.{◌||◌, ◌&&◌}
use lib.Dec.{eqb, ltb}
use lib.IntN.{neg_ℤ, nat_abs, +ℤ_idl}
use Rattle.whole.specs.Sign.{sgn}
use Rattle.whole.specs.Ring.{var, lit, ◌⊖◌}
use Rattle.whole.specs.Flat.{none, ◌also◌, need, raw-is}
use Rattle.whole.specs.Within.{Within}
use Rattle.whole.specs.Bound.{w-is, w-sgn}
use Rattle.whole.specs.Flag.{eq_z}
use Rattle.whole.specs.Tests.{out-is, fits-ok, lit-flag, eq_flag}
use Rattle.kernel.proofs.points.is_in_square.Goals as goal

pub overflow_sub-inward : goal.overflow_sub-inward
overflow_sub-inward c =
    let one : Within 1 c.sign-inward.result = w-is c.sign-inward.ensures (w-sgn _) in
    need (one also none) (lit 0 ⊖ var 0) tt

pub returns : goal.returns
returns c =
    let one : Within 1 c.sign-inward.result = w-is c.sign-inward.ensures (w-sgn _) in
    let full = c.size-full.ensures ∙ ap nat_abs (out-is c.ranges.m) in
    let w = c.args.w in
    let even = lit-flag 0 tt c.ranges.n in
    let toward = c.sign-toward.ensures ∙ ap sgn (out-is c.ranges.n) in
    let inward =
    raw-is (one also none) (lit 0 ⊖ var 0) tt ∙ +ℤ_idl (neg_ℤ c.sign-inward.result)
    ∙ ap neg_ℤ (c.sign-inward.ensures ∙ ap sgn (out-is c.ranges.m))
    in
    let against =
    eq_flag (fits-ok c.sign-toward.result c.sign-toward.type_inv) (need (one also none) (lit 0 ⊖ var 0) tt) ∙ ap₂ eq_z toward inward
    in
    λ i. ltb (full i) w || (eqb (full i) w && (even i || against i))

-- `part` meets its contract: the divisor fits i64 and is not 0, and no quotient is larger than its number.
use mathlib.Core.Path.{◌≡◌, sym, ◌∙◌, ap₂, subst}
use native.Mathlib.Omega.{arith}
use lib.IntN.{pos}
use lib.Signed.{quot_z}
use mir.Syntax.{w64}
use mir.Val.{SFits, to_z}
use mir.Facts.{to_z_pos}
use Rattle.whole.specs.Bound.{w-quot, fits64}
use Rattle.whole.specs.Tests.{out, out-is}
use Rattle.kernel.proofs.divide.part.Goals as goal

pub overflow_cast-result : goal.overflow_cast-result
overflow_cast-result c = record { sfits = omega (arith, c.requires.small) }

pub nonzero_div-result : goal.nonzero_div-result
nonzero_div-result c =
    let quotient : SFits w64 (quot_z (out c.args.n) (to_z w64 c.args.g))
    × (quot_z (out c.args.n) (to_z w64 c.args.g) ≡ quot_z c.args.n (pos c.args.g)) =
    let e : quot_z (out c.args.n) (to_z w64 c.args.g) ≡ quot_z c.args.n (pos c.args.g) =
    ap₂ quot_z (out-is c.ranges.n) (to_z_pos w64 {n = c.args.g} (omega (arith, c.requires.small)))
    in
    (subst (SFits w64) (sym e) (fits64 (w-quot (pos c.args.g) c.requires.bn) tt), e) in
    (c.requires.above, quotient.0)

pub returns : goal.returns
returns c =
    let quotient : SFits w64 (quot_z (out c.args.n) (to_z w64 c.args.g))
    × (quot_z (out c.args.n) (to_z w64 c.args.g) ≡ quot_z c.args.n (pos c.args.g)) =
    let e : quot_z (out c.args.n) (to_z w64 c.args.g) ≡ quot_z c.args.n (pos c.args.g) =
    ap₂ quot_z (out-is c.ranges.n) (to_z_pos w64 {n = c.args.g} (omega (arith, c.requires.small)))
    in
    (subst (SFits w64) (sym e) (fits64 (w-quot (pos c.args.g) c.requires.bn) tt), e) in
    out-is quotient.0 ∙ quotient.1

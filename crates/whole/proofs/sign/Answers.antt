-- `sign` meets its contract: std's sign of a number is the paper's.
use mathlib.Core.Path.{◌≡◌, refl, ap, ◌∙◌}
use Prim.Native.Nat.{suc, zero}
use native.Mathlib.Omega.{arith}
use lib.IntN.{ℤ, pos, negsuc}
use Rattle.std.specs.Int.{int_signum}
use Rattle.whole.specs.Sign.{sgn}
use Rattle.whole.specs.Tests.{out-is, gave}
use Rattle.whole.proofs.sign.Goals as goal

signum-is : (z : ℤ) → int_signum z ≡ sgn z
unfolding sgn
signum-is (pos zero) = refl
signum-is (pos (suc n)) = ap pos (omega arith)
signum-is (negsuc n) = refl

pub returns : goal.returns
returns c = gave c.signum.type_inv (c.signum.ensures.value ∙ ap int_signum (out-is c.ranges.x) ∙ signum-is c.args.x)

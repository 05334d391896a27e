-- `gcd` meets its contract. The invariant: what is a greatest common divisor of x and y is one of a and b. The measure is y.
use mathlib.Core.Path.{◌≡◌, sym, subst}
use mathlib.Core.Logic.{◌⊎◌, inl, inr}
use Prim.Native.Nat.{ℕ, ◌-◌, ◌%◌, ◌<◌}
use native.Mathlib.Nat.{mod-lt}
use native.Mathlib.Omega.{arith}
use Rattle.whole.specs.Divisor.{IsGcd}
use Rattle.whole.specs.DivisorLaws.{gcd-zero, gcd-one, gcd-step, gcd-lack}
use Rattle.whole.proofs.gcd.Given as goal

abbrev pub invariant-loop-y : goal.invariant-loop-y
invariant-loop-y l = (g : ℕ) → IsGcd l.x l.y g → IsGcd l.a l.b g

abbrev pub decreases-loop-y : goal.decreases-loop-y
decreases-loop-y l = l.y

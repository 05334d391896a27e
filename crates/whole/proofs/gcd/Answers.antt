-- `gcd` meets its contract. The invariant: what is a greatest common divisor of x and y is one of a and b. The measure is y.
use mathlib.Core.Path.{◌≡◌, sym, subst}
use mathlib.Core.Logic.{◌⊎◌, inl, inr}
use Prim.Native.Nat.{ℕ, ◌-◌, ◌%◌, ◌<◌, min}
use native.Mathlib.Nat.{mod-lt}
use native.Mathlib.Omega.{arith}
use Rattle.whole.specs.Divisor.{IsGcd}
use Rattle.whole.specs.DivisorLaws.{gcd-zero, gcd-one, gcd-step, gcd-lack}
use Rattle.whole.proofs.gcd.Goals as goal

-- a step, whichever of the two is less
step : (x y r g : ℕ) → 0 < y → (r ≡ x % y) ⊎ (r ≡ y - x % y) → IsGcd y r g → IsGcd x y g
step x y r g h (inl e) k = gcd-step (subst (λ (z : ℕ). IsGcd y z g) e k)
step x y r g h (inr e) k = gcd-lack h (subst (λ (z : ℕ). IsGcd y z g) e k)

-- the least of two is one of them
less : (r s : ℕ) {m : ℕ} → m ≡ min r s → (m ≡ r) ⊎ (m ≡ s)
less r s {m} e = grind (arith, e)

pub loop-y-init : goal.loop-y-init
loop-y-init c = λ g h. h

pub nonzero_rem-rest : goal.nonzero_rem-rest
nonzero_rem-rest c = omega arith

pub overflow_sub-lack : goal.overflow_sub-lack
overflow_sub-lack c = let l = mod-lt c.loop-y.x {m = c.loop-y.y} (omega arith) in omega arith

pub loop-y-smaller : goal.loop-y-smaller
loop-y-smaller c =
    let l = mod-lt c.loop-y.x {m = c.loop-y.y} (omega arith) in
    omega (arith, c.min-y.ensures)

pub loop-y-preserved : goal.loop-y-preserved
loop-y-preserved c =
    λ g h.
    let at = c.loop-y in
    at.invariant g (step at.x at.y c.min-y.result g (omega arith) (less _ _ c.min-y.ensures) h)

pub returns-then-y-eq1 : goal.returns-then-y-eq1
returns-then-y-eq1 c =
    let at = c.loop-y in
    at.invariant 1 (subst (λ (y : ℕ). IsGcd at.x y 1) (sym c.if-y-eq1.true) (gcd-one at.x))

pub returns : goal.returns
returns c =
    let at = c.loop-y in
    let z : at.y ≡ 0 = omega arith in
    at.invariant at.x (subst (λ (y : ℕ). IsGcd at.x y at.x) (sym z) (gcd-zero at.x))

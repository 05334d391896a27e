-- The laws of the sign. To cite:
--   signs                     the three cases of a number, each with its sign
--   sgn-pos, sgn-neg, sgn-zero   the sign from the order
--   pos-of-sgn, neg-of-sgn, zero-of-sgn   the order from the sign
--   sgn-neg-eq, sgn-mul, sgn-mul-pos      of an opposite, of a product
--   sgn-sgn, sgn-abs, sgn-mul-self        a sign's sign; sgn z |z| = z; sgn z z = |z|
--   neg-pp                                z < 0 is 0 < - z
--   nn-size, neg-size, size_above         |z| where z is 0 or more, and below 0; it is above 0 where z is not 0
-- Assumes nothing.
use Rattle.std.specs.Prelude.{◌≡◌, refl, [], ◌∷◌, ℕ, zero, suc, ℤ, pos, negsuc, neg_ℤ, nat_abs, ◌*ℤ◌, ◌≤ℤ◌, ◌<ℤ◌}
use Rattle.std.proofs.Common.{sym, ◌∙◌, ap, arith}
use Rattle.std.proofs.Math.IntN.{neg_ℤ-neg_ℤ, zero-*ℤ, *ℤ-zero, pos-ne-negsuc}
use Rattle.std.specs.Int.Signed.{yes_non_neg, pos-nat_abs}
use Rattle.whole.specs.Laws.{neg-mul, mul-one, one-mul, minus-one-mul}
use Rattle.whole.specs.Ring.{var, lit, ◌⊗◌, ⊝◌, ring}
use Rattle.whole.specs.Order.{pp-dest, pp-mul, pp-pos, <-neg, Tri, tri, less, same, more}
use Rattle.whole.specs.Sign.{sgn}

pub sgn-pos : {z : ℤ} → pos 0 <ℤ z → sgn z ≡ pos 1
unfolding sgn
sgn-pos h = ap sgn (pp-dest h).1

pub sgn-neg-eq : (z : ℤ) → sgn (neg_ℤ z) ≡ neg_ℤ (sgn z)
unfolding sgn
sgn-neg-eq (pos zero) = refl
sgn-neg-eq (pos (suc n)) = refl
sgn-neg-eq (negsuc n) = refl

pub sgn-zero : sgn (pos 0) ≡ pos 0
unfolding sgn
sgn-zero = refl

-- z < 0 is 0 < - z
pub neg-pp : {z : ℤ} → z <ℤ pos 0 → pos 0 <ℤ neg_ℤ z
neg-pp {z} h = <-neg h

pub sgn-neg : {z : ℤ} → z <ℤ pos 0 → sgn z ≡ negsuc 0
sgn-neg {z} h = ap sgn (sym (neg_ℤ-neg_ℤ z)) ∙ sgn-neg-eq (neg_ℤ z) ∙ ap neg_ℤ (sgn-pos (neg-pp h))

-- what a sign says
pub data Signs (z : ℤ) : Type 0 where
  minus : z <ℤ pos 0 → sgn z ≡ negsuc 0 → Signs z
  nought : z ≡ pos 0 → sgn z ≡ pos 0 → Signs z
  plus : pos 0 <ℤ z → sgn z ≡ pos 1 → Signs z

pub signs : (z : ℤ) → Signs z
signs z = go (tri z (pos 0))
  where
    go : Tri z (pos 0) → Signs z
    go (less h) = minus h (sgn-neg h)
    go (same e) = nought e (ap sgn e ∙ sgn-zero)
    go (more h) = plus h (sgn-pos h)

pub sgn-mul-pos : (a b : ℤ) → pos 0 <ℤ b → sgn (a *ℤ b) ≡ sgn a
sgn-mul-pos a b h = go (signs a)
  where
    go : Signs a → sgn (a *ℤ b) ≡ sgn a
    go (minus k e) = ap sgn (sym (neg_ℤ-neg_ℤ (a *ℤ b)) ∙ ap neg_ℤ (sym (neg-mul a b))) ∙ sgn-neg-eq (neg_ℤ a *ℤ b) ∙ ap neg_ℤ (sgn-pos (pp-mul (neg-pp k) h)) ∙ sym e
    go (nought z e) = ap sgn (ap (λ (x : ℤ). x *ℤ b) z ∙ zero-*ℤ b) ∙ sgn-zero ∙ sym e
    go (plus k e) = sgn-pos (pp-mul k h) ∙ sym e

pub sgn-mul : (a b : ℤ) → sgn (a *ℤ b) ≡ sgn a *ℤ sgn b
sgn-mul a b = go (signs b)
  where
    go : Signs b → sgn (a *ℤ b) ≡ sgn a *ℤ sgn b
    go (plus k e) = sgn-mul-pos a b k ∙ sym (mul-one (sgn a)) ∙ ap (λ (x : ℤ). sgn a *ℤ x) (sym e)
    go (nought z e) = ap sgn (ap (λ (x : ℤ). a *ℤ x) z ∙ *ℤ-zero a) ∙ sgn-zero ∙ sym (*ℤ-zero (sgn a)) ∙ ap (λ (x : ℤ). sgn a *ℤ x) (sym e)
    go (minus k e) =
        ap sgn (ring (a ∷ b ∷ []) (var 0 ⊗ var 1) (⊝ (var 0 ⊗ ⊝ var 1)) tt) ∙ sgn-neg-eq (a *ℤ neg_ℤ b) ∙ ap neg_ℤ (sgn-mul-pos a (neg_ℤ b) (neg-pp k))
        ∙ ring (sgn a ∷ []) (⊝ var 0) (var 0 ⊗ ⊝ lit 1) tt ∙ ap (λ (x : ℤ). sgn a *ℤ x) (sym e)

-- ---- from the sign back to the number

pub pos-of-sgn : {z : ℤ} → sgn z ≡ pos 1 → pos 0 <ℤ z
pos-of-sgn {z} e = go (signs z)
  where
    go : Signs z → pos 0 <ℤ z
    go (minus h m) = absurd (pos-ne-negsuc 1 0 (sym e ∙ m))
    go (nought h m) = let z : ◌≡◌ {A = ℕ} 1 0 = ap nat_abs (sym e ∙ m) in absurd (omega arith)
    go (plus h m) = h

pub zero-of-sgn : {z : ℤ} → sgn z ≡ pos 0 → z ≡ pos 0
zero-of-sgn {z} e = go (signs z)
  where
    go : Signs z → z ≡ pos 0
    go (minus h m) = absurd (pos-ne-negsuc 0 0 (sym e ∙ m))
    go (nought h m) = h
    go (plus h m) = let z : ◌≡◌ {A = ℕ} 0 1 = ap nat_abs (sym e ∙ m) in absurd (omega arith)

pub neg-of-sgn : {z : ℤ} → sgn z ≡ negsuc 0 → z <ℤ pos 0
neg-of-sgn {z} e = go (signs z)
  where
    go : Signs z → z <ℤ pos 0
    go (minus h m) = h
    go (nought h m) = absurd (pos-ne-negsuc 0 0 (sym m ∙ e))
    go (plus h m) = absurd (pos-ne-negsuc 1 0 (sym m ∙ e))

pub sgn-sgn : (z : ℤ) → sgn (sgn z) ≡ sgn z
unfolding sgn
sgn-sgn (pos zero) = refl
sgn-sgn (pos (suc n)) = refl
sgn-sgn (negsuc n) = refl

-- the size of a number is its sign times it
pub sgn-mul-self : (z : ℤ) → sgn z *ℤ z ≡ pos (nat_abs z)
unfolding sgn
sgn-mul-self (pos zero) = refl
sgn-mul-self (pos (suc n)) = one-mul (pos (suc n))
sgn-mul-self (negsuc n) = minus-one-mul (negsuc n)

pub sgn-abs : (z : ℤ) → sgn z *ℤ pos (nat_abs z) ≡ z
unfolding sgn
sgn-abs (pos zero) = refl
sgn-abs (pos (suc n)) = one-mul (pos (suc n))
sgn-abs (negsuc n) = minus-one-mul (pos (suc n))

pub nn-size : {z : ℤ} → pos 0 ≤ℤ z → z ≡ pos (nat_abs z)
nn-size {z} h = sym (pos-nat_abs z (yes_non_neg h))

pub neg-size : {z : ℤ} → z <ℤ pos 0 → neg_ℤ z ≡ pos (nat_abs z)
neg-size {z} h = sym (ap (λ (s : ℤ). s *ℤ z) (sgn-neg h) ∙ minus-one-mul z) ∙ sgn-mul-self z

pub size_above : {z : ℤ} → (z ≡ pos 0 → ⊥) → pos 0 <ℤ pos (nat_abs z)
size_above {z = pos zero} n = absurd (n refl)
size_above {z = pos (suc k)} n = pp-pos k
size_above {z = negsuc k} n = pp-pos k

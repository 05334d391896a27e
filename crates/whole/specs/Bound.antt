-- The laws of `Within n z`. To cite:
--   w-add, w-sub, w-neg, w-mul, w-pos, w-negsuc, w-sgn, w-quot, w-size   the operations
--   w-self, w-weak, w-lit, w-is   its own size; a larger bound; between literals; in other words
--   w-upper, w-lower, w-intro   as two orders
--   nat_abs-neg, nat_abs_mul   the size of an opposite, of a product
--   fits64, of-fits          such a number fits an i64, and what fits is within 2 ^ 63
-- Assumes nothing.
use Rattle.std.specs.Prelude.{◌≡◌, refl, Bool, true, false, cond, ℕ, zero, suc, ◌+◌, ◌*◌, ◌-◌, ◌/◌, ◌^◌, ◌≤◌, ◌<◌, T, ltb, leb, ℤ, pos, negsuc, neg_ℤ, nat_abs, ◌+ℤ◌, ◌-ℤ◌, ◌*ℤ◌, ◌≤ℤ◌}
use Rattle.std.proofs.Common.{sym, ap, subst, le_trans, le_of_eq, le_refl, mul-le-mul, div-le_self, arith, ltb→lt, leb→le, SFits}
use Rattle.std.proofs.Math.Nat.{le-suc}
use Rattle.std.proofs.Math.IntN.{sub_ℕ, neg_ℤ-neg_ℤ}
use Rattle.std.specs.Int.Signed.{mag, nat_abs-le, quot_z, le_z_yes}
use Rattle.std.specs.Int.{w64}
use Rattle.whole.specs.Order.{le_intro, ≤_trans, ≤-neg}
use Rattle.whole.specs.Sign.{sgn}
use Rattle.whole.specs.Within.{Within}

pub nat_abs-neg : (z : ℤ) → nat_abs (neg_ℤ z) ≡ nat_abs z
nat_abs-neg (pos zero) = refl
nat_abs-neg (pos (suc n)) = refl
nat_abs-neg (negsuc n) = refl

nat_abs-sub : (a b : ℕ) → nat_abs (sub_ℕ a b) ≤ a + b
nat_abs-sub a b = go (ltb a b) (ltb→lt a b)
  where
    go : (c : Bool) → (T c → a < b) → nat_abs (cond c (negsuc (b - suc a)) (pos (a - b))) ≤ a + b
    go true f = let h = f tt in omega arith
    go false f = omega arith

nat_abs-add : (a b : ℤ) → nat_abs (a +ℤ b) ≤ nat_abs a + nat_abs b
nat_abs-add (pos a) (pos b) = le_refl (a + b)
nat_abs-add (pos a) (negsuc b) = nat_abs-sub a (suc b)
nat_abs-add (negsuc a) (pos b) = le_trans (nat_abs-sub b (suc a)) (omega arith)
nat_abs-add (negsuc a) (negsuc b) = omega arith

pub nat_abs_mul : (a b : ℤ) → nat_abs (a *ℤ b) ≡ nat_abs a * nat_abs b
nat_abs_mul (pos a) (pos b) = refl
nat_abs_mul (pos a) (negsuc b) = nat_abs-neg (pos (a * suc b))
nat_abs_mul (negsuc a) (pos b) = nat_abs-neg (pos (suc a * b))
nat_abs_mul (negsuc a) (negsuc b) = refl

pub w-add : {m n : ℕ} {a b : ℤ} → Within m a → Within n b → Within (m + n) (a +ℤ b)
w-add {m} {n} {a} {b} h k = record { within = omega (arith, nat_abs-add a b) }

pub w-neg : {m : ℕ} {a : ℤ} → Within m a → Within m (neg_ℤ a)
w-neg {m} {a} h = record { within = omega (arith, nat_abs-neg a) }

pub w-sub : {m n : ℕ} {a b : ℤ} → Within m a → Within n b → Within (m + n) (a -ℤ b)
w-sub h k = w-add h (w-neg k)

pub w-mul : {m n : ℕ} {a b : ℤ} → Within m a → Within n b → Within (m * n) (a *ℤ b)
w-mul {m} {n} {a} {b} h k = record { within = le_trans (le_of_eq (nat_abs_mul a b)) (mul-le-mul h.within k.within) }

pub w-self : (z : ℤ) → Within (nat_abs z) z
w-self z = record { within = le_refl (nat_abs z) }

pub w-pos : (n : ℕ) → Within n (pos n)
w-pos n = record { within = le_refl n }

pub w-negsuc : (n : ℕ) → Within (suc n) (negsuc n)
w-negsuc n = record { within = le_refl (suc n) }

pub w-weak : {m n : ℕ} {a : ℤ} → Within m a → m ≤ n → Within n a
w-weak h l = record { within = le_trans h.within l }

-- of the same number in other words
pub w-is : {n : ℕ} {a b : ℤ} → a ≡ b → Within n b → Within n a
w-is {n} e h = subst (Within n) (sym e) h

-- between literals
pub w-lit : {m n : ℕ} {a : ℤ} → Within m a → T (leb m n) → Within n a
w-lit {m} {n} h t = w-weak h (leb→le m n t)

mag-le : (z : ℤ) → mag z ≤ nat_abs z
mag-le (pos n) = le_refl n
mag-le (negsuc n) = omega arith

-- it fits an i64
pub fits64 : {n : ℕ} {z : ℤ} → Within n z → T (ltb n (2 ^ 63)) → SFits w64 z
fits64 {n} {z} h t = record { sfits = go (ltb→lt n (2 ^ 63) t) (mag-le z) }
  where
    go : n < 2 ^ 63 → mag z ≤ nat_abs z → mag z < 2 ^ 63
    go l k = omega (arith, h.within)

pub of-fits : {z : ℤ} → SFits w64 z → Within (2 ^ 63) z
of-fits {z} h = record { within = nat_abs-le z h.sfits }

-- as two orders
nat_abs-le-pos : (z : ℤ) → z ≤ℤ pos (nat_abs z)
nat_abs-le-pos (pos n) = le_intro 0 (ap pos (omega arith))
nat_abs-le-pos (negsuc n) = le_z_yes tt

pos-mono : {m n : ℕ} → m ≤ n → pos m ≤ℤ pos n
pos-mono {m} {n} h = le_intro (n - m) (ap pos (omega arith))

pub w-upper : {n : ℕ} {z : ℤ} → Within n z → z ≤ℤ pos n
w-upper {n} {z} h = ≤_trans (nat_abs-le-pos z) (pos-mono h.within)

pub w-lower : {n : ℕ} {z : ℤ} → Within n z → neg_ℤ (pos n) ≤ℤ z
w-lower {n} {z} h = subst (λ (x : ℤ). neg_ℤ (pos n) ≤ℤ x) (neg_ℤ-neg_ℤ z) (≤-neg (w-upper (w-neg h)))

pub w-intro : {n : ℕ} {z : ℤ} → neg_ℤ (pos n) ≤ℤ z → z ≤ℤ pos n → Within n z
w-intro {n} {z = pos k} h l = record { within = leb→le k n l.le }
w-intro {n = zero} {z = negsuc k} h l = absurd h.le
w-intro {n = suc m} {z = negsuc k} h l = let g = leb→le k m h.le in record { within = omega arith }

pub w-sgn : (z : ℤ) → Within 1 (sgn z)
unfolding sgn
w-sgn (pos zero) = record { within = le-suc 0 }
w-sgn (pos (suc n)) = record { within = le_refl 1 }
w-sgn (negsuc n) = record { within = le_refl 1 }

-- a quotient, rounded toward zero
pub w-quot : {m : ℕ} {a : ℤ} (b : ℤ) → Within m a → Within m (quot_z a b)
w-quot {m} {a = pos a} (pos b) h = record { within = le_trans (div-le_self a b) h.within }
w-quot {m} {a = pos a} (negsuc b) h = w-neg {a = pos (a / suc b)} (record { within = le_trans (div-le_self a (suc b)) h.within })
w-quot {m} {a = negsuc a} (pos b) h = w-neg {a = pos (suc a / b)} (record { within = le_trans (div-le_self (suc a) b) h.within })
w-quot {m} {a = negsuc a} (negsuc b) h = record { within = le_trans (div-le_self (suc a) (suc b)) h.within }

pub w-size : {m : ℕ} {a : ℤ} → Within m a → Within m (pos (nat_abs a))
w-size h = record { within = h.within }

-- The laws of a commutative ring that lib.IntN does not have. To cite:
--   mul_assoc, mul-distl, mul-distr, mul-one, one-mul, minus-one-mul   products
--   neg-mul, mul-neg, neg_unique                        opposites
--   eq-of-sub, sub_self                                 a difference of 0
--   add-.., mul_left_comm, mul-cross                    other groupings
-- Assumes nothing.
use Rattle.std.specs.Prelude.{◌≡◌, zero, suc, ℤ, pos, negsuc, neg_ℤ, ◌+ℤ◌, ◌-ℤ◌, ◌*ℤ◌}
use Rattle.std.proofs.Common.{sym, ◌∙◌, ap}
use Rattle.std.proofs.Math.IntN.{suc_ℤ, pred_ℤ, +ℤ_idl, +ℤ_idr, +ℤ_assoc, +ℤ_comm, +ℤ_invr, +ℤ_invl, suc_ℤ-+ℤ, pred_ℤ-+ℤ, suc_ℤ-*ℤ, pred_ℤ-*ℤ, zero-*ℤ, *ℤ_comm, *ℤ-one, one, -ℤ-+ℤ_cancel}

pub add_left_comm : (a b c : ℤ) → a +ℤ (b +ℤ c) ≡ b +ℤ (a +ℤ c)
add_left_comm a b c = sym (+ℤ_assoc a b c) ∙ ap (λ (x : ℤ). x +ℤ c) (+ℤ_comm a b) ∙ +ℤ_assoc b a c

pub add_right_comm : (a b c : ℤ) → (a +ℤ b) +ℤ c ≡ (a +ℤ c) +ℤ b
add_right_comm a b c = +ℤ_assoc a b c ∙ ap (λ (x : ℤ). a +ℤ x) (+ℤ_comm b c) ∙ sym (+ℤ_assoc a c b)

-- (a + b) + (c + d) = (a + c) + (b + d)
pub add-cross : (a b c d : ℤ) → (a +ℤ b) +ℤ (c +ℤ d) ≡ (a +ℤ c) +ℤ (b +ℤ d)
add-cross a b c d = +ℤ_assoc a b (c +ℤ d) ∙ ap (λ (x : ℤ). a +ℤ x) (add_left_comm b c d) ∙ sym (+ℤ_assoc a c (b +ℤ d))

-- what adds up to nothing is the negation
pub neg_unique : (a b : ℤ) → a +ℤ b ≡ pos zero → b ≡ neg_ℤ a
neg_unique a b e =
    sym (+ℤ_idl b) ∙ ap (λ (x : ℤ). x +ℤ b) (sym (+ℤ_invl a)) ∙ +ℤ_assoc (neg_ℤ a) a b ∙ ap (λ (x : ℤ). neg_ℤ a +ℤ x) e ∙ +ℤ_idr (neg_ℤ a)

suc-case : (a b c : ℤ) → (a +ℤ b) *ℤ c ≡ a *ℤ c +ℤ b *ℤ c → (suc_ℤ a +ℤ b) *ℤ c ≡ suc_ℤ a *ℤ c +ℤ b *ℤ c
suc-case a b c ih =
    ap (λ (x : ℤ). x *ℤ c) (suc_ℤ-+ℤ a b) ∙ suc_ℤ-*ℤ (a +ℤ b) c ∙ ap (λ (x : ℤ). x +ℤ c) ih ∙ add_right_comm (a *ℤ c) (b *ℤ c) c ∙ ap (λ (x : ℤ). x +ℤ b *ℤ c) (sym (suc_ℤ-*ℤ a c))

pred-case : (a b c : ℤ) → (a +ℤ b) *ℤ c ≡ a *ℤ c +ℤ b *ℤ c → (pred_ℤ a +ℤ b) *ℤ c ≡ pred_ℤ a *ℤ c +ℤ b *ℤ c
pred-case a b c ih =
    ap (λ (x : ℤ). x *ℤ c) (pred_ℤ-+ℤ a b) ∙ pred_ℤ-*ℤ (a +ℤ b) c ∙ ap (λ (x : ℤ). x +ℤ neg_ℤ c) ih ∙ add_right_comm (a *ℤ c) (b *ℤ c) (neg_ℤ c) ∙ ap (λ (x : ℤ). x +ℤ b *ℤ c) (sym (pred_ℤ-*ℤ a c))

zero-case : (b c : ℤ) → (pos zero +ℤ b) *ℤ c ≡ pos zero *ℤ c +ℤ b *ℤ c
zero-case b c = ap (λ (x : ℤ). x *ℤ c) (+ℤ_idl b) ∙ sym (+ℤ_idl (b *ℤ c)) ∙ ap (λ (x : ℤ). x +ℤ b *ℤ c) (sym (zero-*ℤ c))

pub mul-distr : (a b c : ℤ) → (a +ℤ b) *ℤ c ≡ a *ℤ c +ℤ b *ℤ c
mul-distr (pos zero) b c = zero-case b c
mul-distr (pos (suc n)) b c = suc-case (pos n) b c (mul-distr (pos n) b c)
mul-distr (negsuc zero) b c = pred-case (pos zero) b c (zero-case b c)
mul-distr (negsuc (suc n)) b c = pred-case (negsuc n) b c (mul-distr (negsuc n) b c)

pub mul-distl : (a b c : ℤ) → a *ℤ (b +ℤ c) ≡ a *ℤ b +ℤ a *ℤ c
mul-distl a b c = *ℤ_comm a (b +ℤ c) ∙ mul-distr b c a ∙ ap (λ (x : ℤ). x +ℤ c *ℤ a) (*ℤ_comm b a) ∙ ap (λ (x : ℤ). a *ℤ b +ℤ x) (*ℤ_comm c a)

pub neg-mul : (a b : ℤ) → neg_ℤ a *ℤ b ≡ neg_ℤ (a *ℤ b)
neg-mul a b = neg_unique (a *ℤ b) (neg_ℤ a *ℤ b) (sym (mul-distr a (neg_ℤ a) b) ∙ ap (λ (x : ℤ). x *ℤ b) (+ℤ_invr a) ∙ zero-*ℤ b)

pub mul-neg : (a b : ℤ) → a *ℤ neg_ℤ b ≡ neg_ℤ (a *ℤ b)
mul-neg a b = *ℤ_comm a (neg_ℤ b) ∙ neg-mul b a ∙ ap neg_ℤ (*ℤ_comm b a)

a-suc : (a b c : ℤ) → (a *ℤ b) *ℤ c ≡ a *ℤ (b *ℤ c) → (suc_ℤ a *ℤ b) *ℤ c ≡ suc_ℤ a *ℤ (b *ℤ c)
a-suc a b c ih =
    ap (λ (x : ℤ). x *ℤ c) (suc_ℤ-*ℤ a b) ∙ mul-distr (a *ℤ b) b c ∙ ap (λ (x : ℤ). x +ℤ b *ℤ c) ih ∙ sym (suc_ℤ-*ℤ a (b *ℤ c))

a-pred : (a b c : ℤ) → (a *ℤ b) *ℤ c ≡ a *ℤ (b *ℤ c) → (pred_ℤ a *ℤ b) *ℤ c ≡ pred_ℤ a *ℤ (b *ℤ c)
a-pred a b c ih =
    ap (λ (x : ℤ). x *ℤ c) (pred_ℤ-*ℤ a b) ∙ mul-distr (a *ℤ b) (neg_ℤ b) c ∙ ap (λ (x : ℤ). x +ℤ neg_ℤ b *ℤ c) ih ∙ ap (λ (x : ℤ). a *ℤ (b *ℤ c) +ℤ x) (neg-mul b c) ∙ sym (pred_ℤ-*ℤ a (b *ℤ c))

a-zero : (b c : ℤ) → (pos zero *ℤ b) *ℤ c ≡ pos zero *ℤ (b *ℤ c)
a-zero b c = ap (λ (x : ℤ). x *ℤ c) (zero-*ℤ b) ∙ zero-*ℤ c ∙ sym (zero-*ℤ (b *ℤ c))

pub mul_assoc : (a b c : ℤ) → (a *ℤ b) *ℤ c ≡ a *ℤ (b *ℤ c)
mul_assoc (pos zero) b c = a-zero b c
mul_assoc (pos (suc n)) b c = a-suc (pos n) b c (mul_assoc (pos n) b c)
mul_assoc (negsuc zero) b c = a-pred (pos zero) b c (a-zero b c)
mul_assoc (negsuc (suc n)) b c = a-pred (negsuc n) b c (mul_assoc (negsuc n) b c)

pub mul_left_comm : (a b c : ℤ) → a *ℤ (b *ℤ c) ≡ b *ℤ (a *ℤ c)
mul_left_comm a b c = sym (mul_assoc a b c) ∙ ap (λ (x : ℤ). x *ℤ c) (*ℤ_comm a b) ∙ mul_assoc b a c

-- (a * b) * (c * d) = (a * c) * (b * d)
pub mul-cross : (a b c d : ℤ) → (a *ℤ b) *ℤ (c *ℤ d) ≡ (a *ℤ c) *ℤ (b *ℤ d)
mul-cross a b c d = mul_assoc a b (c *ℤ d) ∙ ap (λ (x : ℤ). a *ℤ x) (mul_left_comm b c d) ∙ sym (mul_assoc a c (b *ℤ d))

pub mul-one : (a : ℤ) → a *ℤ pos 1 ≡ a
unfolding one
mul-one a = *ℤ-one a

pub one-mul : (a : ℤ) → pos 1 *ℤ a ≡ a
one-mul a = *ℤ_comm (pos 1) a ∙ mul-one a

pub minus-one-mul : (a : ℤ) → negsuc 0 *ℤ a ≡ neg_ℤ a
minus-one-mul a = neg-mul (pos 1) a ∙ ap neg_ℤ (one-mul a)

-- a - b = 0 says a = b
pub eq-of-sub : (a b : ℤ) → a -ℤ b ≡ pos zero → a ≡ b
eq-of-sub a b e = sym (-ℤ-+ℤ_cancel a b) ∙ ap (λ (x : ℤ). x +ℤ b) e ∙ +ℤ_idl b

pub sub_self : (a : ℤ) → a -ℤ a ≡ pos zero
sub_self a = +ℤ_invr a

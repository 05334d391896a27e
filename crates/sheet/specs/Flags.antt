-- What a Boolean definition says, read by `simp`. To cite:
--   flags      rules that turn `.. ≡ true` and `.. ≡ false` of &&, ||, not, lt_z, le_z, eq_z, eqb into products of orders and equations:
--              `simp flags at h` reads a hypothesis, `simp flags (x, y)` proves a goal. A sum `s || t ≡ true` stays a sum of flags.
--              Each rule may be cited by its own name too: both, neither, either, not-both, isnt-not, eqb_is, ..
--   same_flag  two flags of which each says the other are the same
--   cond-zero  a refusal that is 0 was not given: its test failed, and what stands behind it is 0. In `flags` too.
-- Assumes nothing.
use Rattle.std.specs.Prelude.{◌≡◌, refl, Bool, true, false, cond, not, ◌&&◌, ◌||◌, ◌⊎◌, ◌↔◌, ℕ, eqb, ℤ, pos, ◌≤ℤ◌, ◌<ℤ◌}
use Rattle.std.proofs.Common.{sym, true≢false, inl, inr, eqb-true, eq-eqb}
use Rattle.std.specs.Int.Signed.{lt_z, le_z}
use Rattle.whole.specs.Flag.{eq_z}
use Rattle.whole.specs.Tests.{eq_z-true, eq_z-false, eq-eq_z, ne-eq_z, lt_z-true, lt-lt_z, lt_z-false, le-lt_z, le_z-true, le-le_z, le_z-false, lt-le_z}

pub both : (s t : Bool) → ((s && t) ≡ true) ↔ ((s ≡ true) × (t ≡ true))
both true t = (λ h. (refl, h), λ h. h.1)
both false t = (λ h. absurd (true≢false (sym h)), λ h. h.0)

pub neither : (s t : Bool) → ((s || t) ≡ false) ↔ ((s ≡ false) × (t ≡ false))
neither true t = (λ h. absurd (true≢false h), λ h. h.0)
neither false t = (λ h. (refl, h), λ h. h.1)

pub either : (s t : Bool) → ((s || t) ≡ true) ↔ ((s ≡ true) ⊎ (t ≡ true))
either true t = (λ h. inl refl, λ h. refl)
either false t = (λ h. inr h, back)
  where
    back : (false ≡ true) ⊎ (t ≡ true) → t ≡ true
    back (inl h) = absurd (true≢false (sym h))
    back (inr h) = h

pub not-both : (s t : Bool) → ((s && t) ≡ false) ↔ (s ≡ true → t ≡ false)
not-both true t = (λ h e. h, λ h. h refl)
not-both false t = (λ h e. absurd (true≢false (sym e)), λ h. refl)

pub isnt : (t : Bool) → (not t ≡ true) ↔ (t ≡ false)
isnt true = (λ h. sym h, λ h. sym h)
isnt false = (λ h. refl, λ h. refl)

pub isnt-not : (t : Bool) → (not t ≡ false) ↔ (t ≡ true)
isnt-not true = (λ h. refl, λ h. refl)
isnt-not false = (λ h. sym h, λ h. sym h)

pub same_flag : (s t : Bool) → (s ≡ true → t ≡ true) → (t ≡ true → s ≡ true) → s ≡ t
same_flag true t f g = sym (f refl)
same_flag false true f g = g refl
same_flag false false f g = refl

pub lt-is : (a b : ℤ) → (lt_z a b ≡ true) ↔ (a <ℤ b)
lt-is a b = (λ h. lt_z-true h, λ h. lt-lt_z h)

pub lt-isnt : (a b : ℤ) → (lt_z a b ≡ false) ↔ (b ≤ℤ a)
lt-isnt a b = (λ h. lt_z-false h, λ h. le-lt_z h)

pub le_is : (a b : ℤ) → (le_z a b ≡ true) ↔ (a ≤ℤ b)
le_is a b = (λ h. le_z-true h, λ h. le-le_z h)

pub le-isnt : (a b : ℤ) → (le_z a b ≡ false) ↔ (b <ℤ a)
le-isnt a b = (λ h. le_z-false h, λ h. lt-le_z h)

pub eq_is : (a b : ℤ) → (eq_z a b ≡ true) ↔ (a ≡ b)
eq_is a b = (λ h. eq_z-true h, λ h. eq-eq_z h)

pub eq-isnt : (a b : ℤ) → (eq_z a b ≡ false) ↔ (a ≡ b → ⊥)
eq-isnt a b = (λ h. eq_z-false h, λ h. ne-eq_z h)

pub eqb_is : (a b : ℕ) → (eqb a b ≡ true) ↔ (a ≡ b)
eqb_is a b = (λ h. eqb-true a b h, λ h. eq-eqb a b h)

pub cond-zero : (t : Bool) (n m : ℤ) → eq_z n (pos 0) ≡ false → (cond t n m ≡ pos 0) ↔ ((t ≡ false) × (m ≡ pos 0))
cond-zero true n m z = (λ h. absurd (eq_z-false z h), λ h. absurd (true≢false h.0))
cond-zero false n m z = (λ h. (refl, h), λ h. h.1)

pub ruleset flags = (both, neither, either, not-both, isnt, isnt-not, lt-is, lt-isnt, le_is, le-isnt, eq_is, eq-isnt, eqb_is, cond-zero)

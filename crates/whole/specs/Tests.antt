-- Tests of whole numbers, as flags. To cite:
--   lt_z-true, lt_z-false, le_z-true, le_z-false, eq_z-true, eq_z-false   what a flag says;  false_of  a flag that is not true
--   lt-lt_z, le-lt_z, le-le_z, lt-le_z, eq-eq_z, ne-eq_z                  the flag from what holds
--   cond-by                     what holds of both choices, each where its flag says so, holds of the choice
--   out, out-is, out-ok         a number as it comes out of a local is the number
--   Fit, fits-ok, gave          what is known of a call's result: it fits; what it gave, as it is read: `gave c.f.ok c.f.ensures`
--   lt-flag, eq_flag, lit-flag   the flag of two numbers out of locals is that of the numbers
--   lt-taken, lt-left, eq-taken, eq-left, lit-taken                 a branch of the code, as an order or an equation; of a literal
-- Assumes nothing.
use Rattle.std.specs.Prelude.{◌≡◌, refl, Bool, true, false, not, cond, ℕ, ◌<◌, ◌^◌, T, eqb, ltb, ℤ, pos, negsuc, ◌≤ℤ◌, ◌<ℤ◌, ◌⊎◌}
use Rattle.std.proofs.Common.{sym, ◌∙◌, ap, ap₂, subst, true≢false, eqb-true, eq-eqb, inl, inr}
use Rattle.std.specs.Int.Signed.{mag, lt_z, le_z, lt_z_yes, lt_z_no, le_z_yes, clash_ℤ}
use Rattle.std.proofs.lemmas.Bool.{eqb-false}
use Rattle.std.specs.Int.{w64}
use mir.Val.{SFits, to_z, of_z, hbits}
use Rattle.std.proofs.lemmas.Int.{to_z-of_z}
use Rattle.whole.specs.Flag.{eq_z}
use Rattle.whole.specs.Order.{le-or-lt}
use Rattle.whole.specs.Bound.{fits64, w-pos}

-- ---- flags of numbers

yes : {b : Bool} → b ≡ true → T b
yes e = subst T (sym e) tt

no : {b : Bool} → b ≡ false → T (not b)
no e = subst (λ (b : Bool). T (not b)) (sym e) tt

true_of : (b : Bool) → T b → b ≡ true
true_of true t = refl
true_of false t = absurd t

pub false_of : (b : Bool) → (b ≡ true → ⊥) → b ≡ false
false_of true f = absurd (f refl)
false_of false f = refl

pub lt_z-true : {a b : ℤ} → lt_z a b ≡ true → a <ℤ b
lt_z-true e = lt_z_yes (yes e)

pub lt_z-false : {a b : ℤ} → lt_z a b ≡ false → b ≤ℤ a
lt_z-false e = lt_z_no (no e)

pub le_z-true : {a b : ℤ} → le_z a b ≡ true → a ≤ℤ b
le_z-true e = le_z_yes (yes e)

pub lt-lt_z : {a b : ℤ} → a <ℤ b → lt_z a b ≡ true
lt-lt_z {a} {b} h = true_of (lt_z a b) h.lt

pub le-le_z : {a b : ℤ} → a ≤ℤ b → le_z a b ≡ true
le-le_z {a} {b} h = true_of (le_z a b) h.le

pub le-lt_z : {a b : ℤ} → b ≤ℤ a → lt_z a b ≡ false
le-lt_z {a} {b} h = false_of (lt_z a b) (λ e. clash_ℤ (lt_z-true e) h)

pub lt-le_z : {a b : ℤ} → b <ℤ a → le_z a b ≡ false
lt-le_z {a} {b} h = false_of (le_z a b) (λ e. clash_ℤ h (le_z-true e))

pub le_z-false : {a b : ℤ} → le_z a b ≡ false → b <ℤ a
le_z-false {a} {b} e = go (le-or-lt a b)
  where
    go : (a ≤ℤ b) ⊎ (b <ℤ a) → b <ℤ a
    go (inl h) = absurd (true≢false (sym (le-le_z h) ∙ e))
    go (inr h) = h

pub eq_z-true : {a b : ℤ} → eq_z a b ≡ true → a ≡ b
eq_z-true {a = pos a} {b = pos b} e = ap pos (eqb-true a b e)
eq_z-true {a = pos a} {b = negsuc b} e = absurd (true≢false (sym e))
eq_z-true {a = negsuc a} {b = pos b} e = absurd (true≢false (sym e))
eq_z-true {a = negsuc a} {b = negsuc b} e = ap negsuc (eqb-true a b e)

same : (a : ℤ) → eq_z a a ≡ true
same (pos a) = eq-eqb a a refl
same (negsuc a) = eq-eqb a a refl

pub eq-eq_z : {a b : ℤ} → a ≡ b → eq_z a b ≡ true
eq-eq_z {a} {b} e = subst (λ (z : ℤ). eq_z a z ≡ true) e (same a)

pub ne-eq_z : {a b : ℤ} → (a ≡ b → ⊥) → eq_z a b ≡ false
ne-eq_z {a} {b} n = false_of (eq_z a b) (λ e. n (eq_z-true e))

pub eq_z-false : {a b : ℤ} → eq_z a b ≡ false → a ≡ b → ⊥
eq_z-false f e = true≢false (sym (eq-eq_z e) ∙ f)

pub cond-by : {A : Type 0} (F : A → Type 0) (t : Bool) {x y : A} → (t ≡ true → F x) → (t ≡ false → F y) → F (cond t x y)
cond-by F true f g = f refl
cond-by F false f g = g refl

-- ---- numbers out of locals

abbrev pub out : ℤ → ℤ
out z = to_z w64 (of_z w64 z)

pub out-is : {z : ℤ} → SFits w64 z → out z ≡ z
out-is {z} f = to_z-of_z w64 z f

-- what is known of a call's result, its `.ok`
abbrev pub Fit : ℤ → Type 0
Fit z = mag z < 2 ^ hbits w64

pub fits-ok : (z : ℤ) → Fit z → SFits w64 z
fits-ok z h = record { sfits = h }

pub out-ok : (z : ℤ) → Fit z → out z ≡ z
out-ok z h = out-is (fits-ok z h)

pub gave : {r z : ℤ} → Fit r → r ≡ z → out r ≡ z
gave {r} h e = out-ok r h ∙ e

pub lt-flag : {x y : ℤ} {t : Bool} → SFits w64 x → SFits w64 y → lt_z (out x) (out y) ≡ t → lt_z x y ≡ t
lt-flag f g e = ap₂ lt_z (sym (out-is f)) (sym (out-is g)) ∙ e

pub lt-taken : {x y : ℤ} → SFits w64 x → SFits w64 y → lt_z (out x) (out y) ≡ true → x <ℤ y
lt-taken f g e = lt_z-true (lt-flag f g e)

pub lt-left : {x y : ℤ} → SFits w64 x → SFits w64 y → lt_z (out x) (out y) ≡ false → y ≤ℤ x
lt-left f g e = lt_z-false (lt-flag f g e)

pub eq-taken : {x y : ℤ} → SFits w64 x → SFits w64 y → of_z w64 x ≡ of_z w64 y → x ≡ y
eq-taken f g e = sym (out-is f) ∙ ap (to_z w64) e ∙ out-is g

pub eq-left : {x y : ℤ} → (of_z w64 x ≡ of_z w64 y → ⊥) → x ≡ y → ⊥
eq-left n e = n (ap (of_z w64) e)

-- `==` of two numbers, as a flag
pub eq_flag : {x y : ℤ} → SFits w64 x → SFits w64 y → eqb (of_z w64 x) (of_z w64 y) ≡ eq_z x y
eq_flag {x} {y} f g = go (eqb (of_z w64 x) (of_z w64 y)) (eqb-true (of_z w64 x) (of_z w64 y)) (eqb-false (of_z w64 x) (of_z w64 y))
  where
    go : (t : Bool) → (t ≡ true → of_z w64 x ≡ of_z w64 y) → (t ≡ false → of_z w64 x ≡ of_z w64 y → ⊥) → t ≡ eq_z x y
    go true same other = sym (eq-eq_z (eq-taken f g (same refl)))
    go false same other = sym (ne-eq_z {a = x} {b = y} (eq-left (other refl)))

-- with a literal
pub lit-taken : (n : ℕ) → T (ltb n (2 ^ 63)) → {x : ℤ} → SFits w64 x → of_z w64 x ≡ n → x ≡ pos n
lit-taken n t f e = eq-taken f (fits64 (w-pos n) t) e

pub lit-flag : (n : ℕ) → T (ltb n (2 ^ 63)) → {x : ℤ} → SFits w64 x → eqb (of_z w64 x) n ≡ eq_z x (pos n)
lit-flag n t {x} f = eq_flag f (fits64 (w-pos n) t)

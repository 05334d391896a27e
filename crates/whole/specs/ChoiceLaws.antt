-- The laws of the first of two numbers that is not 0. To cite:
--   or-zero, or_zero_right, or_assoc   nothing is found; nothing comes after; three of them
--   or-first, or-next, or-none         the first where it is not 0, what comes after one that is; and where nothing does
--   or-neg, or-ne, or-sgn              of signs
-- Assumes nothing.
use Rattle.std.specs.Prelude.{◌≡◌, refl, ℕ, zero, suc, ℤ, pos, negsuc, neg_ℤ, nat_abs}
use Rattle.std.proofs.Common.{sym, ◌∙◌, ap, subst, arith}
use Rattle.std.proofs.Math.IntN.{pos-ne-negsuc}
use Rattle.whole.specs.Sign.{sgn}
use Rattle.whole.specs.SignLaws.{sgn-sgn, Signs, signs, minus, nought, plus}
use Rattle.whole.specs.Flag.{eq_z}
use Rattle.whole.specs.Tests.{cond-by, eq_z-true, eq-eq_z, ne-eq_z}
use Rattle.whole.specs.Choice.{or_else}

pub or-first : {n : ℤ} (m : ℤ) → (n ≡ pos 0 → ⊥) → or_else n m ≡ n
or-first m d = simp (ne-eq_z d)

pub or-next : {n : ℤ} (m : ℤ) → n ≡ pos 0 → or_else n m ≡ m
or-next m e = simp (eq-eq_z e)

pub or-none : (n m : ℤ) → (n ≡ pos 0 → m ≡ pos 0) → or_else n m ≡ n
or-none n m h =
    cond-by (λ (z : ℤ). z ≡ n) (eq_z n (pos 0)) (λ e. let z = eq_z-true e in h z ∙ sym z) (λ _. refl)

above : (n : ℕ) → pos (suc n) ≡ pos 0 → ⊥
above n e = let z : suc n ≡ 0 = ap nat_abs e in omega arith

pub or-neg : (s t : ℤ) → or_else (neg_ℤ s) (neg_ℤ t) ≡ neg_ℤ (or_else s t)
or-neg (pos zero) t = refl
or-neg (pos (suc n)) t = sym (ap neg_ℤ (or-first t (above n)))
or-neg (negsuc n) t = or-first (neg_ℤ t) (above n)

pub or-zero : (s t : ℤ) → or_else s t ≡ pos 0 → (s ≡ pos 0) × (t ≡ pos 0)
or-zero (pos zero) t e = (refl, e)
or-zero (pos (suc n)) t e = absurd (above n (sym (or-first t (above n)) ∙ e))
or-zero (negsuc n) t e = absurd (pos-ne-negsuc 0 n (sym e))

pub or_zero_right : (s : ℤ) → or_else s (pos 0) ≡ s
or_zero_right (pos zero) = refl
or_zero_right (pos (suc n)) = or-first (pos 0) (above n)
or_zero_right (negsuc n) = refl

pub or_assoc : (s t u : ℤ) → or_else s (or_else t u) ≡ or_else (or_else s t) u
or_assoc (pos zero) t u = refl
or_assoc (pos (suc n)) t u =
    or-first (or_else t u) (above n) ∙ sym (ap (λ (s : ℤ). or_else s u) (or-first t (above n)) ∙ or-first u (above n))
or_assoc (negsuc n) t u = refl

pub or-ne : (a t : ℤ) → (a ≡ pos 0 → ⊥) → or_else (sgn a) t ≡ sgn a
or-ne a t n = go (signs a)
  where
    go : Signs a → or_else (sgn a) t ≡ sgn a
    go (minus h e) = ap (λ (s : ℤ). or_else s t) e ∙ sym e
    go (nought z e) = absurd (n z)
    go (plus h e) = ap (λ (s : ℤ). or_else s t) e ∙ sym e

-- the first of two signs is a sign
pub or-sgn : (a b : ℤ) → sgn (or_else (sgn a) (sgn b)) ≡ or_else (sgn a) (sgn b)
or-sgn a b = go (signs a)
  where
    keep : {s : ℤ} → sgn a ≡ s → sgn (or_else s (sgn b)) ≡ or_else s (sgn b) → sgn (or_else (sgn a) (sgn b)) ≡ or_else (sgn a) (sgn b)
    keep e h = subst (λ (s : ℤ). sgn (or_else s (sgn b)) ≡ or_else s (sgn b)) (sym e) h

    go : Signs a → sgn (or_else (sgn a) (sgn b)) ≡ or_else (sgn a) (sgn b)
    go (minus h e) = keep e (ap sgn (sym e) ∙ sgn-sgn a ∙ e)
    go (nought z e) = keep e (sgn-sgn b)
    go (plus h e) = keep e (ap sgn (sym e) ∙ sgn-sgn a ∙ e)

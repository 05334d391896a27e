-- The sign of a polynomial's value at a large R is its leading sign. To cite:
--   outweighs        t S + z has the sign of t where z is at most k times t in size, and S is above k
--   Small, small     a number is within n, and n is below R
--   Below R p        so is every coefficient but the highest
--   lead             then the sign of the value at R is the leading sign; of any degree
--   lead-two         of degree two at the most, by the sizes that the two lower coefficients have
--   two-zero         u R + v = 0 with v within n below R makes u and v 0
--   leading-settled  what the sign of the value is at every R from some on is the leading sign
--   leading-opposed  two polynomials whose values are opposite at every R have opposite leading signs
-- Assumes nothing.
use Rattle.std.specs.Prelude.{◌≡◌, [], ◌∷◌, ℕ, suc, ◌+◌, ◌*◌, ◌≤◌, ◌<◌, ℤ, pos, neg_ℤ, nat_abs, ◌+ℤ◌, ◌*ℤ◌, ◌≤ℤ◌, ◌<ℤ◌}
use Rattle.std.proofs.Common.{sym, ◌∙◌, ap, subst, mul-le-mul_right, arith, ltb→lt, lt→ltb}
use Rattle.std.proofs.Math.IntN.{+ℤ_idl, zero-*ℤ, ℤ_discrete}
use Rattle.whole.specs.Ring.{var, ◌⊕◌, ◌⊗◌, ⊝◌, ring}
use Rattle.whole.specs.Reify.{reify, reading, solve, val_pos}
use Rattle.whole.specs.Order.{lt-cert, lt-intro, lt-pp, le-nn, pp-add, pp-mul, pp-nn}
use Rattle.whole.specs.Sign.{sgn}
use Rattle.whole.specs.SignLaws.{sgn-pos, sgn-neg-eq, sgn-zero, zero-of-sgn, Signs, signs, minus, nought, plus, neg-pp, nn-size, size_above}
use Rattle.whole.specs.Within.{Within}
use Rattle.whole.specs.Bound.{w-lower, w-neg, w-weak, nat_abs-neg}
use Rattle.whole.specs.Poly.{Poly, value, leading}
use Rattle.whole.specs.Choice.{or_else}
use Rattle.whole.specs.ChoiceLaws.{or-ne, or-zero}

-- |c| is at most n, and n is below R
pub record Small (R c : ℤ) : Type 0 where
  pub size : ℕ
  pub within : Within size c
  pub below : pos size <ℤ R

pub small : {n : ℕ} {R c : ℤ} → Within n c → pos n <ℤ R → Small R c
small {n} h r = record { size = n; within = h; below = r }

pub data Below (R : ℤ) : Poly → Type 0 where
  none : Below R []
  highest : {a : ℤ} → Below R (a ∷ [])
  ◌under◌ : {c b : ℤ} {p : Poly} → Small R c → Below R (b ∷ p) → Below R (c ∷ b ∷ p)

infixr 5 ◌under◌
-- ---- one step: b R + c has the sign of b, or of c where b is 0

-- t S + z = t (S - k) + (t k + z)
positive : (t S z : ℤ) (k : ℕ) → pos 0 <ℤ t → Within (nat_abs t * k) z → pos k <ℤ S → pos 0 <ℤ (t *ℤ S +ℤ z)
positive t S z k h w l =
    go (pos k) (subst (λ (x : ℤ). neg_ℤ (x *ℤ pos k) ≤ℤ z) (sym (nn-size (pp-nn h))) (w-lower w)) l
  where
    go : (K : ℤ) → neg_ℤ (t *ℤ K) ≤ℤ z → K <ℤ S → pos 0 <ℤ (t *ℤ S +ℤ z)
    go K low l =
        lt-cert _ (pp-add (pp-mul h (lt-pp l)) (le-nn low))
        (reify (t ∷ S ∷ z ∷ K ∷ []) (λ ρ v. simp (reading, val_pos ρ, v 0, v 1, v 2, v 3) (solve _ _ _ tt)))

pub outweighs : (t S z : ℤ) (k : ℕ) → (t ≡ pos 0 → ⊥) → Within (nat_abs t * k) z → pos k <ℤ S → sgn (t *ℤ S +ℤ z) ≡ sgn t
outweighs t S z k n w l = go (signs t)
  where
    go : Signs t → sgn (t *ℤ S +ℤ z) ≡ sgn t
    go (plus h e) = sgn-pos (positive t S z k h w l) ∙ sym e
    go (nought h e) = absurd (n h)
    go (minus h e) =
        ap sgn (ring (t ∷ S ∷ z ∷ []) (var 0 ⊗ var 1 ⊕ var 2) (⊝ (⊝ var 0 ⊗ var 1 ⊕ ⊝ var 2)) tt)
        ∙ sgn-neg-eq (neg_ℤ t *ℤ S +ℤ neg_ℤ z)
        ∙ ap neg_ℤ (sgn-pos (positive (neg_ℤ t) S (neg_ℤ z) k (neg-pp h) (subst (λ (m : ℕ). Within (m * k) (neg_ℤ z)) (sym (nat_abs-neg t)) (w-neg w)) l))
        ∙ sym e

pub lead-step : (b c R : ℤ) → Small R c → sgn (b *ℤ R +ℤ c) ≡ or_else (sgn b) (sgn c)
lead-step b c R s = go (ℤ_discrete b (pos 0))
  where
    -- b is 1 or more in size
    more : (k : ℕ) → 0 < k → s.size ≤ k * s.size
    more k h = let l : 1 * s.size ≤ k * s.size = mul-le-mul_right s.size h in omega arith

    go : Dec (b ≡ pos 0) → sgn (b *ℤ R +ℤ c) ≡ or_else (sgn b) (sgn c)
    go (yes z) =
        ap sgn (ap (λ (x : ℤ). x *ℤ R +ℤ c) z ∙ ap (λ (x : ℤ). x +ℤ c) (zero-*ℤ R) ∙ +ℤ_idl c)
        ∙ ap (λ (x : ℤ). or_else x (sgn c)) (sym (ap sgn z ∙ sgn-zero))
    go (no n) =
        outweighs b R c s.size n (w-weak s.within (more (nat_abs b) (ltb→lt 0 (nat_abs b) (size_above n).lt))) s.below
        ∙ sym (or-ne b (sgn c) n)

-- ---- the law

pub lead : (R : ℤ) {p : Poly} → Below R p → sgn (value p R) ≡ leading p
lead R none = sgn-zero
lead R (highest {a}) =
    ap sgn (ap (λ (x : ℤ). x +ℤ a) (zero-*ℤ R) ∙ +ℤ_idl a)
lead R (◌under◌ {c} {b} {p} s l) =
    lead-step (value (b ∷ p) R) c R s ∙ ap (λ (x : ℤ). or_else x (sgn c)) (lead R l)

pub lead-two : {m n : ℕ} (a b c R : ℤ) → Within m b → Within n c → pos m <ℤ R → pos n <ℤ R
    → sgn (value (c ∷ b ∷ a ∷ []) R) ≡ or_else (or_else (sgn a) (sgn b)) (sgn c)
lead-two a b c R hb hc m_r n_r = lead R (small hc n_r under small hb m_r under highest)

-- ---- u R + v = 0

pub two-zero : (u v R : ℤ) → Small R v → u *ℤ R +ℤ v ≡ pos 0 → (u ≡ pos 0) × (v ≡ pos 0)
two-zero u v R s e =
    let z = or-zero (sgn u) (sgn v) (sym (lead-step u v R s) ∙ ap sgn e ∙ sgn-zero) in
    (zero-of-sgn z.0, zero-of-sgn z.1)

-- ---- the sign at every R from some on

-- the sizes of all coefficients together
abbrev size_of : Poly → ℕ
size_of [] = 0
size_of (c ∷ p) = nat_abs c + size_of p

below : (p : Poly) {n : ℕ} {R : ℤ} → size_of p ≤ n → pos n <ℤ R → Below R p
below [] h r = none
below (a ∷ []) h r = highest
below (c ∷ b ∷ p) {n} h r =
    let l : Within n c = record { within = omega arith } in
    let k : size_of (b ∷ p) ≤ n = omega arith in
    small l r under below (b ∷ p) k r

-- an R above b at which the values of two polynomials have their leading signs
record Large (b : ℕ) (p q : Poly) : Type 0 where
  R : ℤ
  above : pos b <ℤ R
  of_p : sgn (value p R) ≡ leading p
  of_q : sgn (value q R) ≡ leading q

large : (b : ℕ) (p q : Poly) → Large b p q
large b p q =
    let n = b + size_of p + size_of q in
    let h_r : pos n <ℤ pos (suc n) = lt-intro 0 (ap pos (omega arith)) in
    record {
      R = pos (suc n);
      above = record { lt = lt→ltb b (suc n) (omega arith) };
      of_p = lead (pos (suc n)) (below p {n = n} (omega arith) h_r);
      of_q = lead (pos (suc n)) (below q {n = n} (omega arith) h_r);
    }

-- "For sufficiently large values of R, the sign of this polynomial is given by the sign of the highest non-zero coefficient"
pub leading-settled : (p : Poly) {s : ℤ} (b : ℕ) → ((R : ℤ) → pos b <ℤ R → sgn (value p R) ≡ s) → leading p ≡ s
leading-settled p b h = let f = large b p p in sym f.of_p ∙ h f.R f.above

pub leading-opposed : (p q : Poly) → ((R : ℤ) → value q R ≡ neg_ℤ (value p R)) → leading q ≡ neg_ℤ (leading p)
leading-opposed p q h =
    let f = large 0 p q in
    sym f.of_q ∙ ap sgn (h f.R) ∙ sgn-neg-eq (value p f.R) ∙ ap neg_ℤ f.of_p

-- The value at R of sums and products of polynomials. To cite:
--   value-one, value-two                                   of one coefficient, of two
--   value-sum, value-times, value-opposite, value-difference, value-product
--   leading-opposite                                       the leading sign of an opposite
-- Assumes nothing.
use Rattle.std.specs.Prelude.{◌≡◌, refl, [], ◌∷◌, ℤ, pos, neg_ℤ, ◌+ℤ◌, ◌-ℤ◌, ◌*ℤ◌}
use Rattle.std.proofs.Common.{sym, ◌∙◌, ap, ap₂}
use Rattle.std.proofs.Math.IntN.{+ℤ_idl, +ℤ_idr, *ℤ-zero, zero-*ℤ}
use Rattle.whole.specs.Ring.{var, lit, ◌⊕◌, ◌⊗◌, ⊝◌, ring}
use Rattle.whole.specs.Sign.{sgn}
use Rattle.whole.specs.SignLaws.{sgn-neg-eq}
use Rattle.whole.specs.Poly.{Poly, value, ◌⊞◌, times, opposite, ◌⊟◌, ◌⊠◌, leading}
use Rattle.whole.specs.Choice.{or_else}
use Rattle.whole.specs.ChoiceLaws.{or-neg}

pub value-one : (R c : ℤ) → value (c ∷ []) R ≡ c
value-one R c = ring (R ∷ c ∷ []) (lit 0 ⊗ var 0 ⊕ var 1) (var 1) tt

pub value-two : (R b c : ℤ) → value (c ∷ b ∷ []) R ≡ b *ℤ R +ℤ c
value-two R b c = ap (λ (x : ℤ). x *ℤ R +ℤ c) (value-one R b)

pub value-sum : (p q : Poly) (R : ℤ) → value (p ⊞ q) R ≡ value p R +ℤ value q R
value-sum [] q R = sym (+ℤ_idl (value q R))
value-sum (a ∷ p) [] R = sym (+ℤ_idr (value (a ∷ p) R))
value-sum (a ∷ p) (b ∷ q) R =
    ap (λ (x : ℤ). x *ℤ R +ℤ (a +ℤ b)) (value-sum p q R)
    ∙ ring
    (value p R ∷ value q R ∷ R ∷ a ∷ b ∷ [])
    ((var 0 ⊕ var 1) ⊗ var 2 ⊕ (var 3 ⊕ var 4))
    (var 0 ⊗ var 2 ⊕ var 3 ⊕ (var 1 ⊗ var 2 ⊕ var 4))
    tt

pub value-times : (a : ℤ) (q : Poly) (R : ℤ) → value (times a q) R ≡ a *ℤ value q R
value-times a [] R = sym (*ℤ-zero a)
value-times a (b ∷ q) R =
    ap (λ (x : ℤ). x *ℤ R +ℤ a *ℤ b) (value-times a q R)
    ∙ ring
    (a ∷ value q R ∷ R ∷ b ∷ [])
    (var 0 ⊗ var 1 ⊗ var 2 ⊕ var 0 ⊗ var 3)
    (var 0 ⊗ (var 1 ⊗ var 2 ⊕ var 3))
    tt

pub value-opposite : (q : Poly) (R : ℤ) → value (opposite q) R ≡ neg_ℤ (value q R)
value-opposite [] R = refl
value-opposite (b ∷ q) R =
    ap (λ (x : ℤ). x *ℤ R +ℤ neg_ℤ b) (value-opposite q R)
    ∙ ring (value q R ∷ R ∷ b ∷ []) (⊝ var 0 ⊗ var 1 ⊕ ⊝ var 2) (⊝ (var 0 ⊗ var 1 ⊕ var 2)) tt

pub value-difference : (p q : Poly) (R : ℤ) → value (p ⊟ q) R ≡ value p R -ℤ value q R
value-difference p q R = value-sum p (opposite q) R ∙ ap (λ (x : ℤ). value p R +ℤ x) (value-opposite q R)

pub value-product : (p q : Poly) (R : ℤ) → value (p ⊠ q) R ≡ value p R *ℤ value q R
value-product [] q R = sym (zero-*ℤ (value q R))
value-product (a ∷ p) q R =
    value-sum (times a q) (pos 0 ∷ (p ⊠ q)) R
    ∙ ap₂ (λ (x y : ℤ). x +ℤ (y *ℤ R +ℤ pos 0)) (value-times a q R) (value-product p q R)
    ∙ ring
    (a ∷ value q R ∷ value p R ∷ R ∷ [])
    (var 0 ⊗ var 1 ⊕ (var 2 ⊗ var 1 ⊗ var 3 ⊕ lit 0))
    ((var 2 ⊗ var 3 ⊕ var 0) ⊗ var 1)
    tt

pub leading-opposite : (p : Poly) → leading (opposite p) ≡ neg_ℤ (leading p)
leading-opposite [] = refl
leading-opposite (c ∷ p) = ap₂ or_else (leading-opposite p) (sgn-neg-eq c) ∙ or-neg (leading p) (sgn c)

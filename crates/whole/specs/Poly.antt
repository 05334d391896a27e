-- Polynomials in R, as lists of coefficients, the lowest first: (c ∷ b ∷ a ∷ []) is a R R + b R + c.
use Rattle.std.specs.Prelude.{List, [], ◌∷◌, ℤ, pos, neg_ℤ, ◌+ℤ◌, ◌*ℤ◌}
use Rattle.whole.specs.Sign.{sgn}
use Rattle.whole.specs.Choice.{or_else}

abbrev pub Poly : Type 0
Poly = List ℤ

infixl 6 ◌⊞◌ ◌⊟◌
infixl 7 ◌⊠◌
-- the value at R
abbrev pub value : Poly → ℤ → ℤ
value [] R = pos 0
value (c ∷ p) R = value p R *ℤ R +ℤ c

abbrev pub ◌⊞◌ : Poly → Poly → Poly
[] ⊞ q = q
(a ∷ p) ⊞ [] = a ∷ p
(a ∷ p) ⊞ (b ∷ q) = (a +ℤ b) ∷ (p ⊞ q)

-- every coefficient times a
abbrev pub times : ℤ → Poly → Poly
times a [] = []
times a (b ∷ q) = (a *ℤ b) ∷ times a q

abbrev pub opposite : Poly → Poly
opposite [] = []
opposite (b ∷ q) = neg_ℤ b ∷ opposite q

abbrev pub ◌⊟◌ : Poly → Poly → Poly
p ⊟ q = p ⊞ opposite q

abbrev pub ◌⊠◌ : Poly → Poly → Poly
[] ⊠ q = []
(a ∷ p) ⊠ q = times a q ⊞ (pos 0 ∷ (p ⊠ q))

-- the sign of the highest coefficient that is not 0; 0 if there is none
abbrev pub leading : Poly → ℤ
leading [] = pos 0
leading (c ∷ p) = or_else (leading p) (sgn c)

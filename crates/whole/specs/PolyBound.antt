-- How large the coefficients of a polynomial are, computed along with it. To cite:
--   Sizes ns p                          each coefficient of p is within the number of ns at its place
--   s-sum, s-difference, s-product      of sums, differences, products; the sizes are found by computing
--   sizes-below                         all but the highest at most n, and n below R: `Below R p`, as `lead` wants it
-- Assumes nothing.
use Rattle.std.specs.Prelude.{Bool, true, ◌&&◌, List, [], ◌∷◌, ℕ, ◌+◌, ◌*◌, T, leb, ℤ, pos, ◌<ℤ◌}
use Rattle.std.specs.Float.Ieee.Fits.{and_l, and_r}
use Rattle.whole.specs.Within.{Within}
use Rattle.whole.specs.Bound.{w-add, w-neg, w-mul, w-pos, w-lit}
use Rattle.whole.specs.Poly.{Poly, ◌⊞◌, times, opposite, ◌⊟◌, ◌⊠◌}
use Rattle.whole.specs.Lead.{Below, none, highest, ◌under◌, small}

pub data Sizes : List ℕ → Poly → Type 0 where
  empty : Sizes [] []
  ◌also◌ : {n : ℕ} {z : ℤ} {ns : List ℕ} {p : Poly} → Within n z → Sizes ns p → Sizes (n ∷ ns) (z ∷ p)

infixr 5 ◌also◌
-- the sizes of a sum, of a multiple, of a product
abbrev pub plus : List ℕ → List ℕ → List ℕ
plus [] n = n
plus (a ∷ m) [] = a ∷ m
plus (a ∷ m) (b ∷ n) = (a + b) ∷ plus m n

abbrev pub scaled : ℕ → List ℕ → List ℕ
scaled a [] = []
scaled a (b ∷ n) = (a * b) ∷ scaled a n

abbrev pub mult : List ℕ → List ℕ → List ℕ
mult [] n = []
mult (a ∷ m) n = plus (scaled a n) (0 ∷ mult m n)

pub s-sum : {m n : List ℕ} {p q : Poly} → Sizes m p → Sizes n q → Sizes (plus m n) (p ⊞ q)
s-sum empty k = k
s-sum (h also hs) empty = h also hs
s-sum (h also hs) (k also ks) = w-add h k also s-sum hs ks

s-times : {a : ℕ} {z : ℤ} {n : List ℕ} {q : Poly} → Within a z → Sizes n q → Sizes (scaled a n) (times z q)
s-times h empty = empty
s-times h (k also ks) = w-mul h k also s-times h ks

s-opposite : {n : List ℕ} {q : Poly} → Sizes n q → Sizes n (opposite q)
s-opposite empty = empty
s-opposite (k also ks) = w-neg k also s-opposite ks

pub s-difference : {m n : List ℕ} {p q : Poly} → Sizes m p → Sizes n q → Sizes (plus m n) (p ⊟ q)
s-difference h k = s-sum h (s-opposite k)

pub s-product : {m n : List ℕ} {p q : Poly} → Sizes m p → Sizes n q → Sizes (mult m n) (p ⊠ q)
s-product empty k = empty
s-product (h also hs) k = s-sum (s-times h k) (w-pos 0 also s-product hs k)

-- all but the last are at most n
abbrev pub lower_upto : ℕ → List ℕ → Bool
lower_upto n [] = true
lower_upto n (a ∷ []) = true
lower_upto n (a ∷ b ∷ l) = leb a n && lower_upto n (b ∷ l)

pub sizes-below : {ns : List ℕ} {p : Poly} {R : ℤ} (n : ℕ) → pos n <ℤ R → Sizes ns p → T (lower_upto n ns) → Below R p
sizes-below n h empty t = none
sizes-below n h (a also empty) t = highest
sizes-below n h (◌also◌ {n = a} k (j also js)) t =
    small (w-lit k (and_l (leb a n) _ t)) h under sizes-below n h (j also js) (and_r (leb a n) _ t)

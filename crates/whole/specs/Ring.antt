-- A solver of identities in the ring ℤ, by reflection. `Expr` is a polynomial as written, `ev ρ e` its value where variable i is the
-- i-th of ρ, `norm e` the list of its monomials, which computes. To cite:
--   ring ρ a b tt   proves ev ρ a ≡ ev ρ b, where norm (a ⊖ b) comes to 0. (`Reify` writes a and b for you.)
-- Assumes nothing.
use Rattle.std.specs.Prelude.{◌≡◌, refl, List, [], ◌∷◌, Bool, true, false, T, leb, eqb, ℤ, pos, negsuc, neg_ℤ, ◌+ℤ◌, ◌-ℤ◌, ◌*ℤ◌}
use Rattle.std.proofs.Common.{sym, ◌∙◌, ap, eqb→eq}
use Prim.Native.Nat.{ℕ, zero, suc, ◌+◌, ◌*◌, ◌^◌, compare, Ordering}
use Rattle.std.proofs.Math.IntN.{+ℤ_idl, +ℤ_idr, +ℤ_assoc, zero-*ℤ, *ℤ-zero, neg_ℤ-+ℤ}
use Rattle.whole.specs.Laws.{add_left_comm, add-cross, mul-distr, mul-distl, neg-mul, mul_assoc, mul_left_comm, mul-cross, mul-one, one-mul, eq-of-sub}

infixl 6 ◌⊕◌ ◌⊖◌
infixl 7 ◌⊗◌
infixl 8 ⊝◌
pub data Expr : Type 0 where
  var : ℕ → Expr
  con : ℤ → Expr
  lit : ℕ → Expr
  ◌⊕◌ : Expr → Expr → Expr
  ◌⊖◌ : Expr → Expr → Expr
  ◌⊗◌ : Expr → Expr → Expr
  ⊝◌ : Expr → Expr

-- the i-th of a list, 0 past its end
abbrev pub at : List ℤ → ℕ → ℤ
at [] i = pos 0
at (z ∷ zs) zero = z
at (z ∷ zs) (suc i) = at zs i

abbrev pub ev : List ℤ → Expr → ℤ
ev ρ (var i) = at ρ i
ev ρ (con c) = c
ev ρ (lit n) = pos n
ev ρ (a ⊕ b) = ev ρ a +ℤ ev ρ b
ev ρ (a ⊖ b) = ev ρ a -ℤ ev ρ b
ev ρ (a ⊗ b) = ev ρ a *ℤ ev ρ b
ev ρ (⊝ a) = neg_ℤ (ev ρ a)

-- a polynomial: terms, each a coefficient, a key and the variables of a monomial. The key orders the terms and costs one native comparison; the
-- list says what the monomial is. Two terms are joined where the keys and the lists are equal, so nothing rests on the keys.
pub data Poly : Type 0 where
  nil : Poly
  term : ℤ → ℕ → List ℕ → Poly → Poly

abbrev pub ev_m : List ℤ → List ℕ → ℤ
ev_m ρ [] = pos 1
ev_m ρ (i ∷ m) = at ρ i *ℤ ev_m ρ m

abbrev pub ev_p : List ℤ → Poly → ℤ
ev_p ρ nil = pos 0
ev_p ρ (term c k m p) = c *ℤ ev_m ρ m +ℤ ev_p ρ p

-- ---- monomials

abbrev pub ins : ℕ → List ℕ → List ℕ
ins i [] = i ∷ []
ins i (j ∷ n) = elim (leb i j) [ true ↦ i ∷ j ∷ n | false ↦ j ∷ ins i n ]

abbrev pub mul_m : List ℕ → List ℕ → List ℕ
mul_m [] n = n
mul_m (i ∷ m) n = ins i (mul_m m n)

abbrev pub same_m : List ℕ → List ℕ → Bool
same_m [] [] = true
same_m [] (j ∷ n) = false
same_m (i ∷ m) [] = false
same_m (i ∷ m) (j ∷ n) = elim (eqb i j) [ true ↦ same_m m n | false ↦ false ]

-- ---- polynomials: the terms' keys fall

-- the first term of one sum, f the sum of the rest of it with what it is given
abbrev pub front : ℤ → ℕ → List ℕ → (Poly → Poly) → Poly → Poly
front c k m f nil = term c k m (f nil)
front c k m f (term d l n q) =
    elim (compare k l) [
      | Ordering.lt ↦ term d l n (front c k m f q)
      | Ordering.eq ↦ elim (same_m m n) [ true ↦ term (c +ℤ d) l n (f q) | false ↦ term c k m (f (term d l n q)) ]
      | Ordering.gt ↦ term c k m (f (term d l n q))
    ]

abbrev pub add_p : Poly → Poly → Poly
add_p nil q = q
add_p (term c k m p) q = front c k m (add_p p) q

-- c · m · q
abbrev pub scale : ℤ → ℕ → List ℕ → Poly → Poly
scale c k m nil = nil
scale c k m (term d l n q) = term (c *ℤ d) (k + l) (mul_m m n) (scale c k m q)

abbrev pub mul_p : Poly → Poly → Poly
mul_p nil q = nil
mul_p (term c k m p) q = add_p (scale c k m q) (mul_p p q)

abbrev pub neg_p : Poly → Poly
neg_p nil = nil
neg_p (term c k m p) = term (neg_ℤ c) k m (neg_p p)

abbrev pub norm : Expr → Poly
norm (var i) = term (pos 1) (2 ^ (16 * i)) (i ∷ []) nil
norm (con c) = term c 0 [] nil
norm (lit n) = term (pos n) 0 [] nil
norm (a ⊕ b) = add_p (norm a) (norm b)
norm (a ⊖ b) = add_p (norm a) (neg_p (norm b))
norm (a ⊗ b) = mul_p (norm a) (norm b)
norm (⊝ a) = neg_p (norm a)

abbrev pub is_zero : ℤ → Bool
is_zero (pos n) = eqb n 0
is_zero (negsuc n) = false

abbrev pub vanish : Poly → Bool
vanish nil = true
vanish (term c k m p) = elim (is_zero c) [ true ↦ vanish p | false ↦ false ]

-- ---- what they come to

ins-sound : (ρ : List ℤ) (i : ℕ) (n : List ℕ) → ev_m ρ (ins i n) ≡ at ρ i *ℤ ev_m ρ n
ins-sound ρ i [] = refl
ins-sound ρ i (j ∷ n) = go (ins-sound ρ i n) (leb i j)
  where
    go : ev_m ρ (ins i n) ≡ at ρ i *ℤ ev_m ρ n → (b : Bool) → ev_m ρ (elim b [ true ↦ i ∷ j ∷ n | false ↦ j ∷ ins i n ]) ≡ at ρ i *ℤ (at ρ j *ℤ ev_m ρ n)
    go ih true = refl
    go ih false = ap (λ (x : ℤ). at ρ j *ℤ x) ih ∙ mul_left_comm (at ρ j) (at ρ i) (ev_m ρ n)

mul_m-sound : (ρ : List ℤ) (m n : List ℕ) → ev_m ρ (mul_m m n) ≡ ev_m ρ m *ℤ ev_m ρ n
mul_m-sound ρ [] n = sym (one-mul (ev_m ρ n))
mul_m-sound ρ (i ∷ m) n = ins-sound ρ i (mul_m m n) ∙ ap (λ (x : ℤ). at ρ i *ℤ x) (mul_m-sound ρ m n) ∙ sym (mul_assoc (at ρ i) (ev_m ρ m) (ev_m ρ n))

same_m-eq : (m n : List ℕ) → T (same_m m n) → m ≡ n
same_m-eq [] [] t = refl
same_m-eq [] (j ∷ n) t = absurd t
same_m-eq (i ∷ m) [] t = absurd t
same_m-eq (i ∷ m) (j ∷ n) t = go (same_m-eq m n) (eqb i j) (eqb→eq i j) t
  where
    go : (T (same_m m n) → m ≡ n) → (b : Bool) → (T b → i ≡ j) → T (elim b [ true ↦ same_m m n | false ↦ false ]) → i ∷ m ≡ j ∷ n
    go ih true e t = ap (λ (x : ℕ). x ∷ m) (e tt) ∙ ap (λ (x : List ℕ). j ∷ x) (ih t)
    go ih false e t = absurd t

front-sound : (ρ : List ℤ) (c : ℤ) (k : ℕ) (m : List ℕ) (f : Poly → Poly) (P : ℤ) → ((q : Poly) → ev_p ρ (f q) ≡ P +ℤ ev_p ρ q)
    → (q : Poly) → ev_p ρ (front c k m f q) ≡ c *ℤ ev_m ρ m +ℤ P +ℤ ev_p ρ q
front-sound ρ c k m f P h nil = ap (λ (x : ℤ). c *ℤ ev_m ρ m +ℤ x) (h nil) ∙ sym (+ℤ_assoc (c *ℤ ev_m ρ m) P (pos 0))
front-sound ρ c k m f P h (term d l n q) = go (front-sound ρ c k m f P h q) (compare k l) (same_m m n) (same_m-eq m n)
  where
    here : ev_p ρ (term c k m (f (term d l n q))) ≡ c *ℤ ev_m ρ m +ℤ P +ℤ (d *ℤ ev_m ρ n +ℤ ev_p ρ q)
    here = ap (λ (x : ℤ). c *ℤ ev_m ρ m +ℤ x) (h (term d l n q)) ∙ sym (+ℤ_assoc (c *ℤ ev_m ρ m) P (d *ℤ ev_m ρ n +ℤ ev_p ρ q))

    join : (b : Bool) → (T b → m ≡ n) → ev_p ρ (elim b [ true ↦ term (c +ℤ d) l n (f q) | false ↦ term c k m (f (term d l n q)) ]) ≡ c *ℤ ev_m ρ m +ℤ P +ℤ (d *ℤ ev_m ρ n +ℤ ev_p ρ q)
    join true e =
        ap (λ (x : ℤ). (c +ℤ d) *ℤ ev_m ρ n +ℤ x) (h q)
        ∙ ap (λ (x : ℤ). x +ℤ (P +ℤ ev_p ρ q)) (mul-distr c d (ev_m ρ n) ∙ ap (λ (w : List ℕ). c *ℤ ev_m ρ w +ℤ d *ℤ ev_m ρ n) (sym (e tt)))
        ∙ add-cross (c *ℤ ev_m ρ m) (d *ℤ ev_m ρ n) P (ev_p ρ q)
    join false e = here

    go : ev_p ρ (front c k m f q) ≡ c *ℤ ev_m ρ m +ℤ P +ℤ ev_p ρ q → (o : Ordering) (b : Bool) → (T b → m ≡ n)
        → ev_p ρ (elim o [
          | Ordering.lt ↦ term d l n (front c k m f q)
          | Ordering.eq ↦ elim b [ true ↦ term (c +ℤ d) l n (f q) | false ↦ term c k m (f (term d l n q)) ]
          | Ordering.gt ↦ term c k m (f (term d l n q))
        ])
        ≡ c *ℤ ev_m ρ m +ℤ P +ℤ (d *ℤ ev_m ρ n +ℤ ev_p ρ q)
    go ih Ordering.lt b e = ap (λ (x : ℤ). d *ℤ ev_m ρ n +ℤ x) ih ∙ add_left_comm (d *ℤ ev_m ρ n) (c *ℤ ev_m ρ m +ℤ P) (ev_p ρ q)
    go ih Ordering.eq b e = join b e
    go ih Ordering.gt b e = here

add_p-sound : (ρ : List ℤ) (p q : Poly) → ev_p ρ (add_p p q) ≡ ev_p ρ p +ℤ ev_p ρ q
add_p-sound ρ nil q = sym (+ℤ_idl (ev_p ρ q))
add_p-sound ρ (term c k m p) q = front-sound ρ c k m (add_p p) (ev_p ρ p) (add_p-sound ρ p) q

scale-sound : (ρ : List ℤ) (c : ℤ) (k : ℕ) (m : List ℕ) (q : Poly) → ev_p ρ (scale c k m q) ≡ c *ℤ ev_m ρ m *ℤ ev_p ρ q
scale-sound ρ c k m nil = sym (*ℤ-zero (c *ℤ ev_m ρ m))
scale-sound ρ c k m (term d l n q) =
    ap (λ (x : ℤ). c *ℤ d *ℤ ev_m ρ (mul_m m n) +ℤ x) (scale-sound ρ c k m q)
    ∙ ap (λ (x : ℤ). x +ℤ c *ℤ ev_m ρ m *ℤ ev_p ρ q) (ap (λ (x : ℤ). c *ℤ d *ℤ x) (mul_m-sound ρ m n) ∙ mul-cross c d (ev_m ρ m) (ev_m ρ n))
    ∙ sym (mul-distl (c *ℤ ev_m ρ m) (d *ℤ ev_m ρ n) (ev_p ρ q))

mul_p-sound : (ρ : List ℤ) (p q : Poly) → ev_p ρ (mul_p p q) ≡ ev_p ρ p *ℤ ev_p ρ q
mul_p-sound ρ nil q = sym (zero-*ℤ (ev_p ρ q))
mul_p-sound ρ (term c k m p) q =
    add_p-sound ρ (scale c k m q) (mul_p p q)
    ∙ ap (λ (x : ℤ). x +ℤ ev_p ρ (mul_p p q)) (scale-sound ρ c k m q)
    ∙ ap (λ (x : ℤ). c *ℤ ev_m ρ m *ℤ ev_p ρ q +ℤ x) (mul_p-sound ρ p q)
    ∙ sym (mul-distr (c *ℤ ev_m ρ m) (ev_p ρ p) (ev_p ρ q))

neg_p-sound : (ρ : List ℤ) (p : Poly) → ev_p ρ (neg_p p) ≡ neg_ℤ (ev_p ρ p)
neg_p-sound ρ nil = refl
neg_p-sound ρ (term c k m p) =
    ap (λ (x : ℤ). x +ℤ ev_p ρ (neg_p p)) (neg-mul c (ev_m ρ m)) ∙ ap (λ (x : ℤ). neg_ℤ (c *ℤ ev_m ρ m) +ℤ x) (neg_p-sound ρ p) ∙ sym (neg_ℤ-+ℤ (c *ℤ ev_m ρ m) (ev_p ρ p))

pub norm-sound : (ρ : List ℤ) (e : Expr) → ev_p ρ (norm e) ≡ ev ρ e
norm-sound ρ (var i) = +ℤ_idr (pos 1 *ℤ (at ρ i *ℤ pos 1)) ∙ one-mul (at ρ i *ℤ pos 1) ∙ mul-one (at ρ i)
norm-sound ρ (con c) = +ℤ_idr (c *ℤ pos 1) ∙ mul-one c
norm-sound ρ (lit n) = +ℤ_idr (pos n *ℤ pos 1) ∙ mul-one (pos n)
norm-sound ρ (a ⊕ b) = add_p-sound ρ (norm a) (norm b) ∙ ap (λ (x : ℤ). x +ℤ ev_p ρ (norm b)) (norm-sound ρ a) ∙ ap (λ (x : ℤ). ev ρ a +ℤ x) (norm-sound ρ b)
norm-sound ρ (a ⊖ b) =
    add_p-sound ρ (norm a) (neg_p (norm b)) ∙ ap (λ (x : ℤ). x +ℤ ev_p ρ (neg_p (norm b))) (norm-sound ρ a)
    ∙ ap (λ (x : ℤ). ev ρ a +ℤ x) (neg_p-sound ρ (norm b) ∙ ap neg_ℤ (norm-sound ρ b))
norm-sound ρ (a ⊗ b) = mul_p-sound ρ (norm a) (norm b) ∙ ap (λ (x : ℤ). x *ℤ ev_p ρ (norm b)) (norm-sound ρ a) ∙ ap (λ (x : ℤ). ev ρ a *ℤ x) (norm-sound ρ b)
norm-sound ρ (⊝ a) = neg_p-sound ρ (norm a) ∙ ap neg_ℤ (norm-sound ρ a)

is_zero-sound : (c : ℤ) → T (is_zero c) → c ≡ pos 0
is_zero-sound (pos n) t = ap pos (eqb→eq n 0 t)
is_zero-sound (negsuc n) t = absurd t

vanish-sound : (ρ : List ℤ) (p : Poly) → T (vanish p) → ev_p ρ p ≡ pos 0
vanish-sound ρ nil t = refl
vanish-sound ρ (term c k m p) t = go (is_zero c) (is_zero-sound c) (vanish-sound ρ p) t
  where
    go : (b : Bool) → (T b → c ≡ pos 0) → (T (vanish p) → ev_p ρ p ≡ pos 0) → T (elim b [ true ↦ vanish p | false ↦ false ]) → c *ℤ ev_m ρ m +ℤ ev_p ρ p ≡ pos 0
    go true z v t = ap (λ (x : ℤ). x *ℤ ev_m ρ m +ℤ ev_p ρ p) (z tt) ∙ ap (λ (x : ℤ). x +ℤ ev_p ρ p) (zero-*ℤ (ev_m ρ m)) ∙ +ℤ_idl (ev_p ρ p) ∙ v t
    go false z v t = absurd t

-- ---- the entry

abbrev pub Same : Expr → Expr → Type 0
Same a b = T (vanish (norm (a ⊖ b)))

pub ring : (ρ : List ℤ) (a b : Expr) → Same a b → ev ρ a ≡ ev ρ b
ring ρ a b t = eq-of-sub (ev ρ a) (ev ρ b) (sym (norm-sound ρ (a ⊖ b)) ∙ vanish-sound ρ (norm (a ⊖ b)) t)

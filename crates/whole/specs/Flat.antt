-- i64 expressions that do not wrap: the one way for the whole project. `mach ρ e` is e as the machine computes it from locals that
-- hold ρ, each value once into a local and out of it; `raw ρ e` the same before the last step, which is what a need asks to fit.
-- Where no bound on the way reaches 2 ^ 63, both are the ℤ of `ev ρ e`. To cite:
--   All, also, none    a bound for each local: `h also k also none`
--   need               an operation does not wrap:  `need bounds e tt`, e as the code writes it
--   gives, raw-is      the value that is read; the value before it is stored
--   lt-gives, eq-gives, ne-gives   a test of two expressions
--   back, within-out   a bounded number out of a local is the number, and within its bound
--   small, held        the value, and what is read, is within the bound that `bnd` computes
-- Assumes nothing.
use Rattle.std.specs.Prelude.{◌≡◌, refl, List, [], ◌∷◌, Bool, ◌&&◌, ℕ, zero, suc, ◌+◌, ◌*◌, ◌^◌, T, ltb, ℤ, pos, neg_ℤ, nat_abs, ◌+ℤ◌, ◌-ℤ◌, ◌*ℤ◌}
use Rattle.std.proofs.Common.{sym, ◌∙◌, ap, ap₂, subst, SFits, of_z}
use Rattle.std.specs.Float.Ieee.Fits.{and_l, and_r}
use Rattle.std.specs.Int.Signed.{lt_z}
use Rattle.std.specs.Int.{w64}
use Rattle.whole.specs.Ring.{Expr, var, con, lit, ◌⊕◌, ◌⊖◌, ◌⊗◌, ⊝◌, at, ev}
use Rattle.whole.specs.Within.{Within}
use Rattle.whole.specs.Bound.{fits64, w-self, w-is, w-add, w-sub, w-neg, w-mul, w-pos}
use Rattle.whole.specs.Tests.{out, out-is, eq-taken, eq-left}

-- a bound for each number: data, so that the two lists are inferred from it
infixr 5 ◌also◌
pub data All : List ℕ → List ℤ → Type 0 where
  none : All [] []
  ◌also◌ : {n : ℕ} {z : ℤ} {β : List ℕ} {ρ : List ℤ} → Within n z → All β ρ → All (n ∷ β) (z ∷ ρ)

abbrev pub nth : List ℕ → ℕ → ℕ
nth [] i = 0
nth (n ∷ ns) zero = n
nth (n ∷ ns) (suc i) = nth ns i

abbrev pub bnd : List ℕ → Expr → ℕ
bnd β (var i) = nth β i
bnd β (con c) = nat_abs c
bnd β (lit n) = n
bnd β (a ⊕ b) = bnd β a + bnd β b
bnd β (a ⊖ b) = bnd β a + bnd β b
bnd β (a ⊗ b) = bnd β a * bnd β b
bnd β (⊝ a) = bnd β a

abbrev pub okay : List ℕ → Expr → Bool
okay β (var i) = ltb (nth β i) (2 ^ 63)
okay β (con c) = ltb (nat_abs c) (2 ^ 63)
okay β (lit n) = ltb n (2 ^ 63)
okay β (a ⊕ b) = okay β a && (okay β b && ltb (bnd β a + bnd β b) (2 ^ 63))
okay β (a ⊖ b) = okay β a && (okay β b && ltb (bnd β a + bnd β b) (2 ^ 63))
okay β (a ⊗ b) = okay β a && (okay β b && ltb (bnd β a * bnd β b) (2 ^ 63))
okay β (⊝ a) = okay β a && ltb (bnd β a) (2 ^ 63)

abbrev pub mach : List ℤ → Expr → ℤ
mach ρ (var i) = out (at ρ i)
mach ρ (con c) = c
mach ρ (lit n) = pos n
mach ρ (a ⊕ b) = out (mach ρ a +ℤ mach ρ b)
mach ρ (a ⊖ b) = out (mach ρ a -ℤ mach ρ b)
mach ρ (a ⊗ b) = out (mach ρ a *ℤ mach ρ b)
mach ρ (⊝ a) = out (neg_ℤ (mach ρ a))

abbrev pub raw : List ℤ → Expr → ℤ
raw ρ (var i) = at ρ i
raw ρ (con c) = c
raw ρ (lit n) = pos n
raw ρ (a ⊕ b) = mach ρ a +ℤ mach ρ b
raw ρ (a ⊖ b) = mach ρ a -ℤ mach ρ b
raw ρ (a ⊗ b) = mach ρ a *ℤ mach ρ b
raw ρ (⊝ a) = neg_ℤ (mach ρ a)

all-at : (β : List ℕ) (ρ : List ℤ) → All β ρ → (i : ℕ) → Within (nth β i) (at ρ i)
all-at _ _ none i = w-pos 0
all-at _ _ (h also hs) zero = h
all-at _ _ (◌also◌ {β = β} {ρ = ρ} h hs) (suc i) = all-at β ρ hs i

-- the machine's value is the number, and it is within the bound
pub record Sound (n : ℕ) (m r z : ℤ) : Type 0 where
  pub same : m ≡ z
  pub plain : r ≡ z
  pub fits : SFits w64 r
  pub small : Within n z

op : {n : ℕ} {r z : ℤ} → r ≡ z → Within n z → T (ltb n (2 ^ 63)) → Sound n (out r) r z
op {n} {r} {z} e w t = let f : SFits w64 r = subst (λ (x : ℤ). SFits w64 x) (sym e) (fits64 w t) in record { same = out-is f ∙ e; plain = e; fits = f; small = w }

two : (s t : Bool) (f : ℤ → ℤ → ℤ) {m n k : ℕ} {a a' x b b' y : ℤ} → (T s → Sound m a a' x) → (T t → Sound n b b' y)
    → (Within m x → Within n y → Within k (f x y)) → T (s && (t && ltb k (2 ^ 63))) → Sound k (out (f a b)) (f a b) (f x y)
two s t f g h w u =
    let v = and_r s _ u in
    let p = g (and_l s _ u) in
    let q = h (and_l t _ v) in
    op (ap₂ f p.same q.same) (w p.small q.small) (and_r t _ v)

pub sound : (β : List ℕ) (ρ : List ℤ) → All β ρ → (e : Expr) → T (okay β e) → Sound (bnd β e) (mach ρ e) (raw ρ e) (ev ρ e)
sound β ρ h (var i) t = op refl (all-at β ρ h i) t
sound β ρ h (con c) t = record { same = refl; plain = refl; fits = fits64 (w-self c) t; small = w-self c }
sound β ρ h (lit n) t = record { same = refl; plain = refl; fits = fits64 (w-pos n) t; small = w-pos n }
sound β ρ h (a ⊕ b) t = two (okay β a) (okay β b) (λ (p q : ℤ). p +ℤ q) (sound β ρ h a) (sound β ρ h b) w-add t
sound β ρ h (a ⊖ b) t = two (okay β a) (okay β b) (λ (p q : ℤ). p -ℤ q) (sound β ρ h a) (sound β ρ h b) w-sub t
sound β ρ h (a ⊗ b) t = two (okay β a) (okay β b) (λ (p q : ℤ). p *ℤ q) (sound β ρ h a) (sound β ρ h b) w-mul t
sound β ρ h (⊝ a) t =
    let x = sound β ρ h a (and_l (okay β a) _ t) in
    op (ap neg_ℤ x.same) (w-neg x.small) (and_r (okay β a) _ t)

-- ---- what is cited

module _ {β : List ℕ} {ρ : List ℤ} (h : All β ρ) where
  pub need : (e : Expr) → T (okay β e) → SFits w64 (raw ρ e)
  need e t = (sound β ρ h e t).fits

  pub gives : (e : Expr) → T (okay β e) → mach ρ e ≡ ev ρ e
  gives e t = (sound β ρ h e t).same

  -- before the last step: what a loop's next turn finds
  pub raw-is : (e : Expr) → T (okay β e) → raw ρ e ≡ ev ρ e
  raw-is e t = (sound β ρ h e t).plain

  pub small : (e : Expr) → T (okay β e) → Within (bnd β e) (ev ρ e)
  small e t = (sound β ρ h e t).small

  -- the same of the value that is read
  pub held : (e : Expr) → T (okay β e) → Within (bnd β e) (mach ρ e)
  held e t = w-is (gives e t) (small e t)

  pub lt-gives : {f : Bool} (a b : Expr) → T (okay β a) → T (okay β b) → lt_z (mach ρ a) (mach ρ b) ≡ f → lt_z (ev ρ a) (ev ρ b) ≡ f
  lt-gives a b t u e = ap₂ lt_z (sym (gives a t)) (sym (gives b u)) ∙ e

  -- `==` is a test of bits
  pub eq-gives : (a b : Expr) → T (okay β a) → T (okay β b) → of_z w64 (raw ρ a) ≡ of_z w64 (raw ρ b) → ev ρ a ≡ ev ρ b
  eq-gives a b t u e = sym (raw-is a t) ∙ eq-taken (need a t) (need b u) e ∙ raw-is b u

  pub ne-gives : (a b : Expr) → T (okay β a) → T (okay β b) → (of_z w64 (raw ρ a) ≡ of_z w64 (raw ρ b) → ⊥) → ev ρ a ≡ ev ρ b → ⊥
  ne-gives a b t u n e = eq-left n (raw-is a t ∙ e ∙ sym (raw-is b u))

-- one number, as it comes out of a local
pub back : {n : ℕ} {z : ℤ} → Within n z → T (ltb n (2 ^ 63)) → out z ≡ z
back h t = out-is (fits64 h t)

pub within-out : {n : ℕ} {z : ℤ} → Within n z → T (ltb n (2 ^ 63)) → Within n (out z)
within-out h t = w-is (back h t) h

-- Identities of ℤ with no expression written by hand: `simp` finds it. To cite, with the variables a, b, .. of the identity:
--   reify (a ∷ b ∷ []) (λ ρ v. simp (reading, v 0, v 1) (solve _ _ _ tt))
-- Where the identity has literals, `val_pos ρ` and `val-negsuc ρ` join the list. An atom that holds another is read first, by a
-- `simp` of its own. Assumes nothing.
use Rattle.std.specs.Prelude.{◌≡◌, refl, List, ℕ, suc, ℤ, pos, negsuc, neg_ℤ, ◌+ℤ◌, ◌*ℤ◌}
use Rattle.whole.specs.Ring.{Expr, var, lit, ◌⊕◌, ◌⊗◌, ⊝◌, at, ev, ring, Same}

-- `ev`, shut
pub val : List ℤ → Expr → ℤ
val ρ e = ev ρ e

pub val-add : (ρ : List ℤ) (a b : Expr) → val ρ a +ℤ val ρ b ≡ val ρ (a ⊕ b)
unfolding val
val-add ρ a b = refl

pub val-mul : (ρ : List ℤ) (a b : Expr) → val ρ a *ℤ val ρ b ≡ val ρ (a ⊗ b)
unfolding val
val-mul ρ a b = refl

pub val-neg : (ρ : List ℤ) (a : Expr) → neg_ℤ (val ρ a) ≡ val ρ (⊝ a)
unfolding val
val-neg ρ a = refl

pub val_pos : (ρ : List ℤ) (n : ℕ) → pos n ≡ val ρ (lit n)
unfolding val
val_pos ρ n = refl

pub val-negsuc : (ρ : List ℤ) (n : ℕ) → negsuc n ≡ val ρ (⊝ (lit (suc n)))
unfolding val
val-negsuc ρ n = refl

pub ruleset reading = (val-add, val-mul, val-neg)

pub solve : (ρ : List ℤ) (a b : Expr) → Same a b → val ρ a ≡ val ρ b
unfolding val
solve ρ a b t = ring ρ a b t

pub reify : (zs : List ℤ) {P : Type 0} → ((ρ : List ℤ) → ((i : ℕ) → at zs i ≡ val ρ (var i)) → P) → P
unfolding val
reify zs k = k zs (λ i. refl)

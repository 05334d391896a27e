-- Certificates: an order or an equation from a sum of facts, each times a factor, up to a factor above 0. To cite:
--   z-eq, z-add          an equation times m is 0; sums of such
--   nn-eq                the same, as something that is 0 or more
--   le-by, lt_by, eq-by  m (b - a) is the sum c: the order or equation after m is cancelled
--   eq-cert              a - b is the sum c, which is 0
--   nn-cancel, pp-cancel, mul-cancel, <-cancel, zero-cancel   a positive factor goes out
-- The factors are worked out on paper; what is left is one identity for `reify`. Assumes nothing.
use Rattle.std.specs.Prelude.{◌≡◌, refl, ◌⊎◌, [], ◌∷◌, ℤ, pos, neg_ℤ, ◌+ℤ◌, ◌-ℤ◌, ◌*ℤ◌, ◌≤ℤ◌, ◌<ℤ◌}
use Rattle.std.proofs.Common.{sym, ◌∙◌, ap, ap₂, subst, inl, inr}
use Rattle.std.proofs.Math.IntN.{*ℤ-zero, +ℤ_invr}
use Rattle.std.specs.Int.Signed.{≤ℤ_refl, clash_ℤ}
use Rattle.whole.specs.Laws.{eq-of-sub}
use Rattle.whole.specs.Reify.{reify, reading, solve, val_pos}
use Rattle.whole.specs.Order.{le-cert, lt-cert, le-nn, lt-pp, nn-mul, pp-mul, pp-nn, le-or-lt, ≤-antisym}

-- an equation times m: 0 either way
pub z-eq : {l r : ℤ} (m : ℤ) → l ≡ r → m *ℤ (l -ℤ r) ≡ pos 0
z-eq {l} {r} m e = ap (λ (x : ℤ). m *ℤ (x -ℤ r)) e ∙ ap (λ (x : ℤ). m *ℤ x) (+ℤ_invr r) ∙ *ℤ-zero m

pub z-add : {a b : ℤ} → a ≡ pos 0 → b ≡ pos 0 → a +ℤ b ≡ pos 0
z-add e f = ap₂ (λ (x y : ℤ). x +ℤ y) e f

pub z-nn : {a : ℤ} → a ≡ pos 0 → pos 0 ≤ℤ a
z-nn e = subst (λ (x : ℤ). pos 0 ≤ℤ x) (sym e) (≤ℤ_refl (pos 0))

pub nn-eq : {l r : ℤ} (m : ℤ) → l ≡ r → pos 0 ≤ℤ (m *ℤ (l -ℤ r))
nn-eq m e = z-nn (z-eq m e)

-- what is positive after a positive factor
pub pp-cancel : {m z : ℤ} → pos 0 ≤ℤ m → pos 0 <ℤ (m *ℤ z) → pos 0 <ℤ z
pp-cancel {m} {z} hm h = go (le-or-lt z (pos 0))
  where
    go : (z ≤ℤ pos 0) ⊎ (pos 0 <ℤ z) → pos 0 <ℤ z
    go (inr k) = k
    go (inl k) = clash_ℤ h (le-cert _ (nn-mul hm (le-nn k)) (reify (m ∷ z ∷ []) (λ ρ v. simp (reading, v 0, v 1, val_pos ρ) (solve _ _ _ tt))))

pub nn-cancel : {m z : ℤ} → pos 0 <ℤ m → pos 0 ≤ℤ (m *ℤ z) → pos 0 ≤ℤ z
nn-cancel {m} {z} hm h = go (le-or-lt (pos 0) z)
  where
    go : (pos 0 ≤ℤ z) ⊎ (z <ℤ pos 0) → pos 0 ≤ℤ z
    go (inl k) = k
    go (inr k) = clash_ℤ (lt-cert {a = m *ℤ z} {b = pos 0} _ (pp-mul hm (lt-pp k)) (reify (m ∷ z ∷ []) (λ ρ v. simp (reading, v 0, v 1, val_pos ρ) (solve _ _ _ tt)))) h

-- m (b - a) is c
pub le-by : {a b : ℤ} (m : ℤ) → pos 0 <ℤ m → (c : ℤ) → pos 0 ≤ℤ c → m *ℤ (b -ℤ a) ≡ c → a ≤ℤ b
le-by {a} {b} m hm c hc e = le-cert (b -ℤ a) (nn-cancel hm (subst (λ (x : ℤ). pos 0 ≤ℤ x) (sym e) hc)) refl

pub lt_by : {a b : ℤ} (m : ℤ) → pos 0 ≤ℤ m → (c : ℤ) → pos 0 <ℤ c → m *ℤ (b -ℤ a) ≡ c → a <ℤ b
lt_by {a} {b} m hm c hc e = lt-cert (b -ℤ a) (pp-cancel hm (subst (λ (x : ℤ). pos 0 <ℤ x) (sym e) hc)) refl

pub eq-cert : {a b : ℤ} (c : ℤ) → c ≡ pos 0 → a -ℤ b ≡ c → a ≡ b
eq-cert {a} {b} c z e = eq-of-sub a b (e ∙ z)

pub eq-by : {a b : ℤ} (m : ℤ) → pos 0 <ℤ m → (c : ℤ) → c ≡ pos 0 → m *ℤ (a -ℤ b) ≡ c → a ≡ b
eq-by {a} {b} m hm c z e =
    ≤-antisym
    (le-by m hm (neg_ℤ c) (z-nn (ap neg_ℤ z)) (reify (m ∷ a ∷ b ∷ []) (λ ρ v. simp (reading, v 0, v 1, v 2) (solve _ _ _ tt)) ∙ ap neg_ℤ e))
    (le-by m hm c (z-nn z) e)

-- a positive factor of both sides
pub mul-cancel : {a b : ℤ} (m : ℤ) → pos 0 <ℤ m → m *ℤ a ≡ m *ℤ b → a ≡ b
mul-cancel {a} {b} m hm e =
    eq-by m hm _ (z-eq (pos 1) e)
    (reify (m ∷ a ∷ b ∷ []) (λ ρ v. simp (reading, v 0, v 1, v 2, val_pos ρ) (solve _ _ _ tt)))

pub zero-cancel : {z : ℤ} (m : ℤ) → pos 0 <ℤ m → m *ℤ z ≡ pos 0 → z ≡ pos 0
zero-cancel m hm e = mul-cancel m hm (e ∙ sym (*ℤ-zero m))

pub <-cancel : {a b : ℤ} (m : ℤ) → pos 0 <ℤ m → (m *ℤ a) <ℤ (m *ℤ b) → a <ℤ b
<-cancel {a} {b} m hm h =
    lt_by m (pp-nn hm) _ (lt-pp h)
    (reify (m ∷ a ∷ b ∷ []) (λ ρ v. simp (reading, v 0, v 1, v 2) (solve _ _ _ tt)))

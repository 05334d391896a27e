-- The order of ℤ. To cite:
--   le_intro, le_dest, lt-intro, lt-dest   a ≤ b is b = a + n; a < b is b = a + (n + 1)
--   nn-.., pp-..                           what is 0 or more, what is above 0: sums, products, squares
--   le-nn, lt-pp                           b - a from a ≤ b, from a < b
--   le-cert, lt-cert                       b - a is c, and c is 0 or more (above 0)
--   ≤_trans, <-≤-trans, ..                 transitivity; ≤-antisym; le-or-lt, tri: totality; ≤-of, <-≤, lt_of_le_ne: from one to another
--   ≤-add, ≤-neg, ≤-mul, <-neg, <-mul      monotonicity
-- Assumes nothing.
use Rattle.std.specs.Prelude.{◌≡◌, refl, ◌⊎◌, [], ◌∷◌, Bool, true, false, not, cond, ℕ, zero, suc, ◌+◌, ◌*◌, ◌-◌, T, ltb, ℤ, pos, negsuc, neg_ℤ, nat_abs, ◌+ℤ◌, ◌-ℤ◌, ◌*ℤ◌, ◌≤ℤ◌, ◌<ℤ◌}
use Rattle.std.proofs.Common.{sym, ◌∙◌, ap, ap₂, subst, inl, inr, arith, leb→le, le→leb, ltb→lt, lt→ltb}
use Rattle.std.proofs.Math.IntN.{suc_ℤ, +ℤ_idr, +ℤ_one, +ℤ_assoc}
use Rattle.std.specs.Int.Signed.{le_z, lt_z, le_z_yes, lt_z_yes, lt_z_no, ≤ℤ_refl, <ℤ-≤ℤ_trans}
use Rattle.whole.specs.Ring.{var, lit, ◌⊕◌, ◌⊖◌, ⊝◌, ring}
use Rattle.whole.specs.Reify.{reading, solve, reify}

-- ---- a ≤ b is b ≡ a + n

cond-T : (c : Bool) (x y : ℤ) (P : ℤ → Type 0) → (T c → P x) → (T (not c) → P y) → P (cond c x y)
cond-T true x y P f g = f tt
cond-T false x y P f g = g tt

le_z-add : (a : ℤ) (n : ℕ) → T (le_z a (a +ℤ pos n))
le_z-add (pos a) n = le→leb a (a + n) (omega arith)
le_z-add (negsuc a) n = cond-T (ltb n (suc a)) (negsuc (suc a - suc n)) (pos (n - suc a)) (λ (z : ℤ). T (le_z (negsuc a) z)) (λ t. le→leb (suc a - suc n) a (omega arith)) (λ t. tt)

pub le-add : (a : ℤ) (n : ℕ) → a ≤ℤ (a +ℤ pos n)
le-add a n = le_z_yes (le_z-add a n)

pub le_intro : {a b : ℤ} (n : ℕ) → b ≡ a +ℤ pos n → a ≤ℤ b
le_intro {a} {b} n e = subst (λ (z : ℤ). a ≤ℤ z) (sym e) (le-add a n)

dest : (a b : ℤ) → T (le_z a b) → (n : ℕ) × (b ≡ a +ℤ pos n)
dest (pos a) (pos b) t = let h = leb→le a b t in (b - a, ap pos (omega arith))
dest (pos a) (negsuc b) t = absurd t
dest (negsuc a) (pos b) t = (b + suc a, ring (pos b ∷ pos (suc a) ∷ []) (var 0) (⊝ var 1 ⊕ (var 0 ⊕ var 1)) tt)
dest (negsuc a) (negsuc b) t =
    let h = leb→le b a t in
    let e : suc b + (a - b) ≡ suc a = omega arith in
    (a - b, ring (pos (suc b) ∷ pos (a - b) ∷ []) (⊝ var 0) (⊝ (var 0 ⊕ var 1) ⊕ var 1) tt ∙ ap (λ (k : ℕ). neg_ℤ (pos k) +ℤ pos (a - b)) e)

pub le_dest : {a b : ℤ} → a ≤ℤ b → (n : ℕ) × (b ≡ a +ℤ pos n)
le_dest {a} {b} h = dest a b h.le

-- a < b is a + 1 ≤ b
lt-suc' : (a b : ℤ) → T (lt_z a b) → T (le_z (suc_ℤ a) b)
lt-suc' (pos a) (pos b) t = t
lt-suc' (pos a) (negsuc b) t = absurd t
lt-suc' (negsuc zero) (pos b) t = le→leb 0 b (omega arith)
lt-suc' (negsuc zero) (negsuc b) t = let h = ltb→lt b 0 t in absurd (omega arith)
lt-suc' (negsuc (suc a)) (pos b) t = tt
lt-suc' (negsuc (suc a)) (negsuc b) t = let h = ltb→lt b (suc a) t in le→leb b a (omega arith)

suc-lt' : (a b : ℤ) → T (le_z (suc_ℤ a) b) → T (lt_z a b)
suc-lt' (pos a) (pos b) t = t
suc-lt' (pos a) (negsuc b) t = t
suc-lt' (negsuc zero) (pos b) t = tt
suc-lt' (negsuc zero) (negsuc b) t = absurd t
suc-lt' (negsuc (suc a)) (pos b) t = tt
suc-lt' (negsuc (suc a)) (negsuc b) t = let h = leb→le b a t in lt→ltb b (suc a) (omega arith)

pub lt-dest : {a b : ℤ} → a <ℤ b → (n : ℕ) × (b ≡ a +ℤ pos (suc n))
lt-dest {a} {b} h = go (dest (suc_ℤ a) b (lt-suc' a b h.lt))
  where
    go : (n : ℕ) × (b ≡ suc_ℤ a +ℤ pos n) → (n : ℕ) × (b ≡ a +ℤ pos (suc n))
    go w = (w.0, w.1 ∙ ap (λ (x : ℤ). x +ℤ pos w.0) (sym (+ℤ_one a)) ∙ +ℤ_assoc a (pos 1) (pos w.0) ∙ ap (λ (k : ℕ). a +ℤ pos k) (omega arith))

pub lt-intro : {a b : ℤ} (n : ℕ) → b ≡ a +ℤ pos (suc n) → a <ℤ b
lt-intro {a} {b} n e = lt_z_yes (suc-lt' a b (le_intro {a = suc_ℤ a} n (e ∙ ap (λ (k : ℕ). a +ℤ pos k) one_more ∙ sym (+ℤ_assoc a (pos 1) (pos n)) ∙ ap (λ (x : ℤ). x +ℤ pos n) (+ℤ_one a))).le)
  where
    one_more : suc n ≡ 1 + n
    one_more = omega arith

-- ---- nonnegative and positive: what a certificate is made of

pub nn-dest : {z : ℤ} → pos 0 ≤ℤ z → (n : ℕ) × (z ≡ pos n)
nn-dest {z} h = let w = le_dest h in (w.0, w.1 ∙ ap pos (omega arith))

pub pp-dest : {z : ℤ} → pos 0 <ℤ z → (n : ℕ) × (z ≡ pos (suc n))
pp-dest {z} h = let w = lt-dest h in (w.0, w.1 ∙ ap pos (omega arith))

pub nn-intro : {z : ℤ} (n : ℕ) → z ≡ pos n → pos 0 ≤ℤ z
nn-intro n e = le_intro n (e ∙ ap pos (omega arith))

pub pp-intro : {z : ℤ} (n : ℕ) → z ≡ pos (suc n) → pos 0 <ℤ z
pp-intro n e = lt-intro n (e ∙ ap pos (omega arith))

pub nn-pos : (n : ℕ) → pos 0 ≤ℤ pos n
nn-pos n = nn-intro n refl

pub pp-pos : (n : ℕ) → pos 0 <ℤ pos (suc n)
pp-pos n = pp-intro n refl

pub nn-add : {a b : ℤ} → pos 0 ≤ℤ a → pos 0 ≤ℤ b → pos 0 ≤ℤ (a +ℤ b)
nn-add {a} {b} h k = let v = nn-dest h in let w = nn-dest k in nn-intro (v.0 + w.0) (ap₂ (λ (x y : ℤ). x +ℤ y) v.1 w.1)

pub nn-mul : {a b : ℤ} → pos 0 ≤ℤ a → pos 0 ≤ℤ b → pos 0 ≤ℤ (a *ℤ b)
nn-mul {a} {b} h k = let v = nn-dest h in let w = nn-dest k in nn-intro (v.0 * w.0) (ap₂ (λ (x y : ℤ). x *ℤ y) v.1 w.1)

pub pp-add : {a b : ℤ} → pos 0 <ℤ a → pos 0 ≤ℤ b → pos 0 <ℤ (a +ℤ b)
pp-add {a} {b} h k = let v = pp-dest h in let w = nn-dest k in pp-intro (v.0 + w.0) (ap₂ (λ (x y : ℤ). x +ℤ y) v.1 w.1 ∙ ap pos (omega arith))

pub pp-mul : {a b : ℤ} → pos 0 <ℤ a → pos 0 <ℤ b → pos 0 <ℤ (a *ℤ b)
pp-mul {a} {b} h k =
    let v = pp-dest h in let w = pp-dest k in pp-intro (v.0 * w.0 + v.0 + w.0) (ap₂ (λ (x y : ℤ). x *ℤ y) v.1 w.1 ∙ ap pos (omega arith))

pub pp-nn : {a : ℤ} → pos 0 <ℤ a → pos 0 ≤ℤ a
pp-nn h = let v = pp-dest h in nn-intro (suc v.0) v.1

sq : (a : ℤ) → (n : ℕ) × (a *ℤ a ≡ pos n)
sq (pos n) = (n * n, refl)
sq (negsuc n) = (suc n * suc n, refl)

pub nn-sq : (a : ℤ) → pos 0 ≤ℤ (a *ℤ a)
nn-sq a = let v = sq a in nn-intro v.0 v.1

-- the two sides' difference
pub le-nn : {a b : ℤ} → a ≤ℤ b → pos 0 ≤ℤ (b -ℤ a)
le-nn {a} {b} h = let w = le_dest h in nn-intro w.0 (ap (λ (x : ℤ). x -ℤ a) w.1 ∙ ring (a ∷ pos w.0 ∷ []) (var 0 ⊕ var 1 ⊖ var 0) (var 1) tt)

pub lt-pp : {a b : ℤ} → a <ℤ b → pos 0 <ℤ (b -ℤ a)
lt-pp {a} {b} h = let w = lt-dest h in pp-intro w.0 (ap (λ (x : ℤ). x -ℤ a) w.1 ∙ ring (a ∷ pos (suc w.0) ∷ []) (var 0 ⊕ var 1 ⊖ var 0) (var 1) tt)

-- the certificate: b - a is c, which is not negative
pub le-cert : {a b : ℤ} (c : ℤ) → pos 0 ≤ℤ c → b -ℤ a ≡ c → a ≤ℤ b
le-cert {a} {b} c h e = let w = nn-dest h in le_intro w.0 (ring (a ∷ b ∷ []) (var 1) (var 0 ⊕ (var 1 ⊖ var 0)) tt ∙ ap (λ (x : ℤ). a +ℤ x) (e ∙ w.1))

pub lt-cert : {a b : ℤ} (c : ℤ) → pos 0 <ℤ c → b -ℤ a ≡ c → a <ℤ b
lt-cert {a} {b} c h e = let w = pp-dest h in lt-intro w.0 (ring (a ∷ b ∷ []) (var 1) (var 0 ⊕ (var 1 ⊖ var 0)) tt ∙ ap (λ (x : ℤ). a +ℤ x) (e ∙ w.1))

-- ---- the laws, by certificates

pub ≤_trans : {a b c : ℤ} → a ≤ℤ b → b ≤ℤ c → a ≤ℤ c
≤_trans {a} {b} {c} h k = le-cert _ (nn-add (le-nn h) (le-nn k)) (reify (a ∷ b ∷ c ∷ []) (λ ρ v. simp (reading, v 0, v 1, v 2) (solve _ _ _ tt)))

pub <-≤-trans : {a b c : ℤ} → a <ℤ b → b ≤ℤ c → a <ℤ c
<-≤-trans h k = <ℤ-≤ℤ_trans h k

pub ≤-<-trans : {a b c : ℤ} → a ≤ℤ b → b <ℤ c → a <ℤ c
≤-<-trans {a} {b} {c} h k = lt-cert _ (pp-add (lt-pp k) (le-nn h)) (reify (a ∷ b ∷ c ∷ []) (λ ρ v. simp (reading, v 0, v 1, v 2) (solve _ _ _ tt)))

pub <-trans : {a b c : ℤ} → a <ℤ b → b <ℤ c → a <ℤ c
<-trans {a} {b} {c} h k = lt-cert _ (pp-add (lt-pp k) (pp-nn (lt-pp h))) (reify (a ∷ b ∷ c ∷ []) (λ ρ v. simp (reading, v 0, v 1, v 2) (solve _ _ _ tt)))

pub ≤-of : {a b : ℤ} → a ≡ b → a ≤ℤ b
≤-of {a} e = subst (λ (z : ℤ). a ≤ℤ z) e (≤ℤ_refl a)

pub <-≤ : {a b : ℤ} → a <ℤ b → a ≤ℤ b
<-≤ {a} {b} h = le-cert _ (pp-nn (lt-pp h)) refl

pub ≤-add : {a b c d : ℤ} → a ≤ℤ b → c ≤ℤ d → (a +ℤ c) ≤ℤ (b +ℤ d)
≤-add {a} {b} {c} {d} h k = le-cert _ (nn-add (le-nn h) (le-nn k)) (reify (a ∷ b ∷ c ∷ d ∷ []) (λ ρ v. simp (reading, v 0, v 1, v 2, v 3) (solve _ _ _ tt)))

pub ≤-neg : {a b : ℤ} → a ≤ℤ b → neg_ℤ b ≤ℤ neg_ℤ a
≤-neg {a} {b} h = le-cert _ (le-nn h) (reify (a ∷ b ∷ []) (λ ρ v. simp (reading, v 0, v 1) (solve _ _ _ tt)))

pub <-neg : {a b : ℤ} → a <ℤ b → neg_ℤ b <ℤ neg_ℤ a
<-neg {a} {b} h = lt-cert _ (lt-pp h) (reify (a ∷ b ∷ []) (λ ρ v. simp (reading, v 0, v 1) (solve _ _ _ tt)))

pub ≤-mul : {a b : ℤ} (c : ℤ) → pos 0 ≤ℤ c → a ≤ℤ b → (a *ℤ c) ≤ℤ (b *ℤ c)
≤-mul {a} {b} c p h = le-cert _ (nn-mul (le-nn h) p) (reify (a ∷ b ∷ c ∷ []) (λ ρ v. simp (reading, v 0, v 1, v 2) (solve _ _ _ tt)))

pub <-mul : {a b : ℤ} (c : ℤ) → pos 0 <ℤ c → a <ℤ b → (a *ℤ c) <ℤ (b *ℤ c)
<-mul {a} {b} c p h = lt-cert _ (pp-mul (lt-pp h) p) (reify (a ∷ b ∷ c ∷ []) (λ ρ v. simp (reading, v 0, v 1, v 2) (solve _ _ _ tt)))

-- ---- total

pub le-or-lt : (a b : ℤ) → (a ≤ℤ b) ⊎ (b <ℤ a)
le-or-lt a b = go (lt_z b a) (λ t. lt_z_yes t) (λ t. lt_z_no t)
  where
    go : (c : Bool) → (T c → b <ℤ a) → (T (not c) → a ≤ℤ b) → (a ≤ℤ b) ⊎ (b <ℤ a)
    go true f g = inr (f tt)
    go false f g = inl (g tt)

pub ≤-antisym : {a b : ℤ} → a ≤ℤ b → b ≤ℤ a → a ≡ b
≤-antisym {a} {b} h k = go (le_dest h) (nn-dest (le-nn k))
  where
    sum-zero : (n m : ℕ) → pos n +ℤ pos m ≡ pos 0 → n ≡ 0
    sum-zero n m e = let z : n + m ≡ 0 = ap nat_abs e in omega arith

    go : (n : ℕ) × (b ≡ a +ℤ pos n) → (m : ℕ) × (a -ℤ b ≡ pos m) → a ≡ b
    go v w = sym (v.1 ∙ ap (λ (n : ℕ). a +ℤ pos n) (sum-zero v.0 w.0 cancel) ∙ +ℤ_idr a)
      where
        cancel : pos v.0 +ℤ pos w.0 ≡ pos 0
        cancel = ap (λ (x : ℤ). pos v.0 +ℤ x) (sym w.1) ∙ ap (λ (x : ℤ). pos v.0 +ℤ (a -ℤ x)) v.1 ∙ ring (a ∷ pos v.0 ∷ []) (var 1 ⊕ (var 0 ⊖ (var 0 ⊕ var 1))) (lit 0) tt

pub data Tri (a b : ℤ) : Type 0 where
  less : a <ℤ b → Tri a b
  same : a ≡ b → Tri a b
  more : b <ℤ a → Tri a b

pub tri : (a b : ℤ) → Tri a b
tri a b = go (le-or-lt a b) (le-or-lt b a)
  where
    go : (a ≤ℤ b) ⊎ (b <ℤ a) → (b ≤ℤ a) ⊎ (a <ℤ b) → Tri a b
    go (inr h) k = more h
    go (inl h) (inr k) = less k
    go (inl h) (inl k) = same (≤-antisym h k)

pub lt_of_le_ne : {a b : ℤ} → a ≤ℤ b → (a ≡ b → ⊥) → a <ℤ b
lt_of_le_ne {a} {b} h n = go (le-or-lt b a)
  where
    go : (b ≤ℤ a) ⊎ (a <ℤ b) → a <ℤ b
    go (inl k) = absurd (n (≤-antisym h k))
    go (inr k) = k

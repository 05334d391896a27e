-- Linear goals over ℤ, by `omega`. To cite:
--   split   names p and n with z = p - n
--   diffs   makes each side of an order or equation one difference of naturals, and the order one of ℕ
--   lt-one  a < b leaves b - a - 1 at 0 or more
-- So: `split a λ p n ea. .. let h' = simp (diffs, ea, ..) at h in .. simp (diffs, ea, ..) (omega arith)`.
-- Assumes nothing.
use Rattle.std.specs.Prelude.{◌≡◌, ◌↔◌, [], ◌∷◌, ℕ, suc, ◌+◌, ◌*◌, ◌-◌, ◌≤◌, ◌<◌, ℤ, pos, negsuc, neg_ℤ, nat_abs, ◌+ℤ◌, ◌-ℤ◌, ◌*ℤ◌, ◌≤ℤ◌, ◌<ℤ◌}
use Rattle.std.proofs.Common.{sym, ◌∙◌, ap, arith}
use Rattle.std.proofs.Math.IntN.{+ℤ_idr, +ℤ_idl}
use Rattle.whole.specs.Ring.{var, ◌⊕◌, ◌⊖◌, ◌⊗◌, ⊝◌, ring}
use Rattle.whole.specs.Order.{le_intro, le_dest, lt-intro, lt-dest}

pub dif : ℕ → ℕ → ℤ
dif p n = pos p -ℤ pos n

pub dif-add : (p n q m : ℕ) → dif p n +ℤ dif q m ≡ dif (p + q) (n + m)
unfolding dif
dif-add p n q m = ring (pos p ∷ pos n ∷ pos q ∷ pos m ∷ []) (var 0 ⊖ var 1 ⊕ (var 2 ⊖ var 3)) (var 0 ⊕ var 2 ⊖ (var 1 ⊕ var 3)) tt

pub dif_neg : (p n : ℕ) → neg_ℤ (dif p n) ≡ dif n p
unfolding dif
dif_neg p n = ring (pos p ∷ pos n ∷ []) (⊝ (var 0 ⊖ var 1)) (var 1 ⊖ var 0) tt

pub dif-mul : (p n q m : ℕ) → dif p n *ℤ dif q m ≡ dif (p * q + n * m) (p * m + n * q)
unfolding dif
dif-mul p n q m = ring (pos p ∷ pos n ∷ pos q ∷ pos m ∷ []) ((var 0 ⊖ var 1) ⊗ (var 2 ⊖ var 3)) (var 0 ⊗ var 2 ⊕ var 1 ⊗ var 3 ⊖ (var 0 ⊗ var 3 ⊕ var 1 ⊗ var 2)) tt

pub dif_pos : (n : ℕ) → pos n ≡ dif n 0
unfolding dif
dif_pos n = sym (+ℤ_idr (pos n))

pub dif-negsuc : (n : ℕ) → negsuc n ≡ dif 0 (suc n)
unfolding dif
dif-negsuc n = sym (+ℤ_idl (negsuc n))

pub split : (z : ℤ) {P : Type 0} → ((p n : ℕ) → z ≡ dif p n → P) → P
split (pos n) k = k n 0 (dif_pos n)
split (negsuc n) k = k 0 (suc n) (dif-negsuc n)

-- ---- equations and orders of differences are those of ℕ

eq-to : (p n q m : ℕ) → dif p n ≡ dif q m → p + m ≡ q + n
unfolding dif
eq-to p n q m e =
    ap nat_abs
    (ring (pos p ∷ pos n ∷ pos m ∷ []) (var 0 ⊕ var 2) (var 0 ⊖ var 1 ⊕ (var 1 ⊕ var 2)) tt
    ∙ ap (λ (x : ℤ). x +ℤ (pos n +ℤ pos m)) e
    ∙ ring (pos q ∷ pos n ∷ pos m ∷ []) (var 0 ⊖ var 2 ⊕ (var 1 ⊕ var 2)) (var 0 ⊕ var 1) tt)

eq-from : (p n q m : ℕ) → p + m ≡ q + n → dif p n ≡ dif q m
unfolding dif
eq-from p n q m e =
    ring (pos p ∷ pos n ∷ pos m ∷ []) (var 0 ⊖ var 1) (var 0 ⊕ var 2 ⊖ (var 1 ⊕ var 2)) tt
    ∙ ap (λ (k : ℕ). pos k -ℤ (pos n +ℤ pos m)) e
    ∙ ring (pos q ∷ pos n ∷ pos m ∷ []) (var 0 ⊕ var 1 ⊖ (var 1 ⊕ var 2)) (var 0 ⊖ var 2) tt

plus-pos : (p n k : ℕ) → dif p n +ℤ pos k ≡ dif (p + k) n
plus-pos p n k = ap (λ (x : ℤ). dif p n +ℤ x) (dif_pos k) ∙ dif-add p n k 0 ∙ ap (λ (x : ℕ). dif (p + k) x) (omega arith)

pub dif-eq : (p n q m : ℕ) → (dif p n ≡ dif q m) ↔ (p + m ≡ q + n)
dif-eq p n q m = (eq-to p n q m, eq-from p n q m)

pub dif-le : (p n q m : ℕ) → (dif p n ≤ℤ dif q m) ↔ (p + m ≤ q + n)
dif-le p n q m = (to, from)
  where
    to : dif p n ≤ℤ dif q m → p + m ≤ q + n
    to h = let w = le_dest h in let e = eq-to q m (p + w.0) n (w.1 ∙ plus-pos p n w.0) in omega arith

    from : p + m ≤ q + n → dif p n ≤ℤ dif q m
    from h = le_intro (q + n - (p + m)) (eq-from q m (p + (q + n - (p + m))) n (omega arith) ∙ sym (plus-pos p n (q + n - (p + m))))

pub dif-lt : (p n q m : ℕ) → (dif p n <ℤ dif q m) ↔ (p + m < q + n)
dif-lt p n q m = (to, from)
  where
    to : dif p n <ℤ dif q m → p + m < q + n
    to h = let w = lt-dest h in let e = eq-to q m (p + suc w.0) n (w.1 ∙ plus-pos p n (suc w.0)) in omega arith

    from : p + m < q + n → dif p n <ℤ dif q m
    from h = lt-intro (q + n - suc (p + m)) (eq-from q m (p + suc (q + n - suc (p + m))) n (omega arith) ∙ sym (plus-pos p n (suc (q + n - suc (p + m)))))

pub ruleset diffs = (dif-add, dif_neg, dif-mul, dif_pos, dif-negsuc, dif-le, dif-lt, dif-eq)

pub lt-one : {a b : ℤ} → a <ℤ b → pos 0 ≤ℤ (b -ℤ a -ℤ pos 1)
lt-one {a} {b} h = split a λ p n ea. split b λ q m eb. let k = simp (diffs, ea, eb) at h in simp (diffs, ea, eb) (omega arith)

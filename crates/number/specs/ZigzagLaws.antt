-- Signed numbers, as they are stored. To cite:
--   unzigzag-zigzag, zigzag-unzigzag   there and back
--   zigzag-below, zigzag-else   what is stored, by twice the number
--   zigzag-small, unzigzag-small   of a small number a small one, and back
-- Assumes nothing.
use Rattle.std.specs.Prelude.{◌≡◌, refl, Bool, true, false, cond, ℕ, ◌+◌, ◌*◌, ◌/◌, ◌%◌, ◌≤◌, eqb, ℤ, pos, negsuc, nat_abs, ◌-ℤ◌, ◌*ℤ◌, ◌<ℤ◌, ◌≤ℤ◌}
use Rattle.std.proofs.Common.{arith, eqb-true}
use Rattle.std.proofs.lemmas.Bool.{eqb-false}
use Rattle.whole.specs.Linear.{diffs}
use Rattle.number.specs.Number.{zigzag, unzigzag}

pub unzigzag-zigzag : (z : ℤ) → unzigzag (zigzag z) ≡ z
unzigzag-zigzag (pos n) =
    let even : 2 * n % 2 ≡ 0 = omega arith in
    let half : 2 * n / 2 ≡ n = omega arith in
    simp (even, half)
unzigzag-zigzag (negsuc n) =
    let odd : (2 * n + 1) % 2 ≡ 1 = omega arith in
    let half : (2 * n + 1) / 2 ≡ n = omega arith in
    simp (odd, half)

pub zigzag-unzigzag : (n : ℕ) → zigzag (unzigzag n) ≡ n
zigzag-unzigzag n = go (eqb (n % 2) 0) (eqb-true (n % 2) 0) (eqb-false (n % 2) 0)
  where
    go : (t : Bool) → (t ≡ true → n % 2 ≡ 0) → (t ≡ false → n % 2 ≡ 0 → ⊥) → zigzag (cond t (pos (n / 2)) (negsuc (n / 2))) ≡ n
    go true y m = let even = y refl in omega arith
    go false y m = let odd = m refl in omega arith

pub zigzag-below : (z : ℤ) → (pos 2 *ℤ z) <ℤ pos 0 → (pos 0 -ℤ (pos 2 *ℤ z)) -ℤ pos 1 ≡ pos (zigzag z)
zigzag-below (pos n) h = let h' = simp diffs at h in absurd (omega arith)
zigzag-below (negsuc n) h = simp diffs (omega arith)

pub zigzag-else : (z : ℤ) → pos 0 ≤ℤ (pos 2 *ℤ z) → pos 2 *ℤ z ≡ pos (zigzag z)
zigzag-else (pos n) h = simp diffs (omega arith)
zigzag-else (negsuc n) h = let h' = simp diffs at h in absurd (omega arith)

pub zigzag-small : (z : ℤ) (most : ℕ) → nat_abs z ≤ most → zigzag z ≤ 2 * most
zigzag-small (pos n) most h = omega arith
zigzag-small (negsuc n) most h = omega arith

pub unzigzag-small : (n : ℕ) → nat_abs (unzigzag n) ≤ n + 1
unzigzag-small n = go (eqb (n % 2) 0)
  where
    go : (t : Bool) → nat_abs (cond t (pos (n / 2)) (negsuc (n / 2))) ≤ n + 1
    go true = omega arith
    go false = omega arith

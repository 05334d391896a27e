-- Where a form counts the coordinates of q from. To cite:
--   old-read, old-written   in document 01's form a coordinate counted from 0 is the coordinate
--   origin-near, origin-small   q is counted from within the limits, where p is within them
--   small-as                within the limits, in other words
--   origin-nought           where p would be 0, q is counted from 0
-- Assumes nothing.
use Rattle.std.specs.Prelude.{◌≡◌, refl, false, List, [], ◌∷◌, ℕ, ◌≤◌, ℤ, pos, nat_abs, ◌-ℤ◌}
use Rattle.std.proofs.Common.{sym, ap, subst, arith}
use Rattle.std.proofs.Math.IntN.{+ℤ_idl}
use Rattle.whole.specs.Reify.{reify, reading, solve, val_pos}
use Rattle.sheet.specs.Limits.{reach_size}
use Rattle.sheet.specs.Refusal.{beyond}
use Rattle.number.specs.Number.{write_number, zigzag, next, checked, read_number, unzigzag}
use Rattle.store.specs.declared.Form.{Form}
use Rattle.store.specs.declared.Form.TheVariants.{Old, New}
use Rattle.store.specs.Forms.{origin, origin_of, nought}
use Rattle.store.specs.Stored.{write_coordinate, read_coordinate}

pub old-read :
    (p : ℤ) (bs : List ℕ)
    → read_coordinate (origin Old p) bs ≡ next (read_number bs) (λ n rest. checked (beyond (unzigzag n)) (pos 2) (unzigzag n) rest)
unfolding read_coordinate
old-read p bs =
    λ i. next (read_number bs) (λ n rest. checked (beyond (+ℤ_idl (unzigzag n) i)) (pos 2) (+ℤ_idl (unzigzag n) i) rest)

less-nought : (z : ℤ) → z -ℤ pos 0 ≡ z
less-nought z = reify (z ∷ []) (λ ρ v. simp (reading, val_pos ρ, v 0) (solve _ _ _ tt))

pub old-written : (p z : ℤ) → write_coordinate (origin Old p) z ≡ write_number (zigzag z)
old-written p z = ap (λ (d : ℤ). write_number (zigzag d)) (less-nought z)

pub origin-near : (f : Form) (z : ℤ) → beyond z ≡ false → beyond (origin f z) ≡ false
origin-near Old z h = refl
origin-near New z h = h

-- the same number in other words
pub small-as : {z y : ℤ} → z ≡ y → nat_abs y ≤ reach_size → nat_abs z ≤ reach_size
small-as e h = subst (λ (z : ℤ). nat_abs z ≤ reach_size) (sym e) h

pub origin-small : (f : Form) (z : ℤ) → nat_abs z ≤ reach_size → nat_abs (origin f z) ≤ reach_size
origin-small Old z h = omega arith
origin-small New z h = h

pub origin-nought : (f : Form) → origin_of f nought ≡ nought
origin-nought Old = refl
origin-nought New = refl

-- Numbers written one behind the other. To cite:
--   numbers_more   the first of a list, and one more
--   numbers-most   how many bytes they take at most
--   numbers-few    the first of a list take no more than all
--   numbers-sum    the bytes are as many as all numbers' together
--   number-kept, number-first, number-alone   a number that is not too large is written as it is, in front of others and alone
--   small-each     each of a list that is small
-- Assumes nothing.
use Rattle.std.specs.Prelude.{◌≡◌, refl, true, List, [], ◌∷◌, ◌++◌, ℕ, zero, suc, ◌+◌, ◌*◌, ◌<◌, ◌≤◌, min, leb, length, get_or, take, drop}
use Rattle.std.proofs.Common.{sym, ◌∙◌, append_assoc, append-nil, add-one, arith, leb-true, length-append, take-append-drop, take-suc}
use Rattle.std.proofs.Math.Path.{ap}
use Rattle.std.specs.List.{sum_by}
use Rattle.std.proofs.lemmas.List.Sums.{sum_by-cons}
use Rattle.sheet.specs.Flags.{both}
use Rattle.number.specs.Number.{most_groups, number_limit, largest_number, write_number, write_numbers}
use Rattle.number.specs.Storable.{all_storable}
use Rattle.number.proofs.GroupsLaws.{number-most}

numbers-two : (a b : List ℕ) → write_numbers (a ++ b) ≡ write_numbers a ++ write_numbers b
unfolding write_numbers
numbers-two [] b = refl
numbers-two (n ∷ a) b =
    let front = write_number (min n largest_number) in
    ap (λ (l : List ℕ). front ++ l) (numbers-two a b) ∙ sym (append_assoc front (write_numbers a) (write_numbers b))

numbers-one : (n : ℕ) → write_numbers (n ∷ []) ≡ write_number (min n largest_number)
unfolding write_numbers
numbers-one n = append-nil (write_number (min n largest_number))

pub numbers_more :
    (ns : List ℕ) (i : ℕ) → i < length ns → write_numbers (take (i + 1) ns) ≡ write_numbers (take i ns) ++ write_number (min (get_or ns i 0) largest_number)
numbers_more ns i h =
    ap (λ (k : ℕ). write_numbers (take k ns)) (add-one i)
    ∙ ap write_numbers (take-suc ns i 0 h)
    ∙ numbers-two (take i ns) (get_or ns i 0 ∷ [])
    ∙ ap (λ (l : List ℕ). write_numbers (take i ns) ++ l) (numbers-one (get_or ns i 0))

pub numbers-most : (ns : List ℕ) → length (write_numbers ns) ≤ most_groups * length ns
unfolding write_numbers
numbers-most [] = omega arith
numbers-most (n ∷ ns) =
    let m = min n largest_number in
    omega (arith, length-append (write_number m) (write_numbers ns), number-most m, numbers-most ns)

pub numbers-few : (ns : List ℕ) (i : ℕ) → length (write_numbers (take i ns)) ≤ length (write_numbers ns)
numbers-few ns i =
    let all = ap length (ap write_numbers (sym (take-append-drop i ns)) ∙ numbers-two (take i ns) (drop i ns)) in
    omega (arith, all, length-append (write_numbers (take i ns)) (write_numbers (drop i ns)))

pub numbers-sum : (ns : List ℕ) → length (write_numbers ns) ≡ sum_by (λ n. length (write_number (min n largest_number))) ns
unfolding write_numbers
numbers-sum [] = refl
numbers-sum (n ∷ ns) =
    length-append (write_number (min n largest_number)) (write_numbers ns)
    ∙ ap (λ (k : ℕ). length (write_number (min n largest_number)) + k) (numbers-sum ns)
    ∙ sym (sum_by-cons (λ n. length (write_number (min n largest_number))) n ns)

-- a number that is not too large is written as it is
module _ {n : ℕ} (h : n < number_limit) where
  pub number-kept : min n largest_number ≡ n
  number-kept = omega arith

  pub number-first : (ns : List ℕ) → write_numbers (n ∷ ns) ≡ write_number n ++ write_numbers ns
  unfolding write_numbers
  number-first ns = ap (λ (m : ℕ). write_number m ++ write_numbers ns) number-kept

  pub number-alone : write_numbers (n ∷ []) ≡ write_number n
  number-alone = numbers-one n ∙ ap write_number number-kept

-- ---- numbers of which none is too large

pub small-each : (ns : List ℕ) (i : ℕ) → all_storable ns ≡ true → i < length ns → get_or ns i 0 < number_limit
small-each [] i e h = absurd (omega arith)
small-each (n ∷ ns) zero e h = omega (arith, leb-true n largest_number ((both (leb n largest_number) (all_storable ns)).0 e).0)
small-each (n ∷ ns) (suc i) e h = small-each ns i ((both (leb n largest_number) (all_storable ns)).0 e).1 (omega arith)

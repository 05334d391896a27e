-- "Stored drawing" of document 01, its numbers, as document 02 has them in R-2: a stored number's groups, what is written for one, and what is
-- read of bytes. Definitions alone.
use Rattle.std.specs.Prelude.{Bool, false, cond, List, [], ◌∷◌, ◌++◌, ℕ, zero, suc, ◌+◌, ◌*◌, ◌-◌, ◌/◌, ◌%◌, ◌<◌, min, ltb, eqb, ℤ, pos, negsuc, length, get_or, Result, Ok, Err}
use Rattle.sheet.specs.declared.refusal.Refusal.{Refusal}
use Rattle.sheet.specs.Refused.{no_of}
use Rattle.number.specs.declared.Number.{Number}

-- each number of a list is a byte
pub record Bytes (bs : List ℕ) : Type 0 where
  pub each : (i : ℕ) → get_or bs i 0 < 256

-- ---- a stored number, by its groups

-- "groups of seven bits": a group is below this, which is also the value of a byte's top bit
abbrev pub group : ℕ
group = 128

-- "A stored number may have up to three groups"
abbrev pub most_groups : ℕ
most_groups = 3

-- so many groups hold the numbers below this
abbrev pub limit : ℕ → ℕ
limit zero = 1
limit (suc k) = group * limit k

abbrev pub number_limit : ℕ
number_limit = limit most_groups

abbrev pub largest_number : ℕ
largest_number = number_limit - 1

-- "low group first", "still the fewest": a number's groups, k at most; behind the low one come those of what is left, if anything is
unfoldable pub groups_of : ℕ → ℕ → List ℕ
groups_of zero n = []
groups_of (suc k) n = (n % group) ∷ cond (ltb n group) [] (groups_of k (n / group))

-- the number that groups hold
unfoldable pub value_of : List ℕ → ℕ
value_of [] = 0
value_of (g ∷ gs) = g + group * value_of gs

-- "A last group equal to 0 after the first group": more groups than the fewest
unfoldable pub needless : List ℕ → Bool
needless [] = false
needless (g ∷ []) = false
needless (g ∷ h ∷ []) = eqb h 0
needless (g ∷ h ∷ i ∷ gs) = needless (h ∷ i ∷ gs)

-- "the top bit set in every byte but the number's last"
unfoldable pub bytes_of : List ℕ → List ℕ
bytes_of [] = []
bytes_of (g ∷ []) = g ∷ []
bytes_of (g ∷ h ∷ gs) = (group + g) ∷ bytes_of (h ∷ gs)

-- ---- writing

abbrev pub write_number : ℕ → List ℕ
write_number n = bytes_of (groups_of most_groups n)

-- some numbers, one behind the other; one that is too large is written as the largest
unfoldable pub write_numbers : List ℕ → List ℕ
write_numbers [] = []
write_numbers (n ∷ ns) = write_number (min n largest_number) ++ write_numbers ns

-- "n of 0 or more is stored as 2n and a negative n as -2n - 1"
abbrev pub zigzag : ℤ → ℕ
zigzag (pos n) = 2 * n
zigzag (negsuc n) = 2 * n + 1

-- ---- reading

-- what was read with the bytes after it, or the number of the refusal first met
pub data Reading (A : Type 0) : Type 0 where
  got : A → List ℕ → Reading A
  no : ℤ → Reading A

-- "Each number is read whole, then checked, before the next"
abbrev pub next : {A B : Type 0} → Reading A → (A → List ℕ → Reading B) → Reading B
next (got a rest) f = f a rest
next (no n) f = no n

abbrev pub checked : {A : Type 0} → Bool → ℤ → A → List ℕ → Reading A
checked bad n a rest = cond bad (no n) (got a rest)

-- the groups that bytes begin with, k at most. "7: stored bytes end where a number must begin or go on"; "a third byte with its top bit set, is
-- refusal 8", at once, before any 7 behind it
unfoldable pub read_groups : ℕ → List ℕ → Reading (List ℕ)
read_groups zero bs = no (pos 8)
read_groups (suc k) [] = no (pos 7)
read_groups (suc k) (b ∷ bs) =
    cond (ltb b group) (got (b ∷ []) bs) (next (read_groups k bs) (λ gs rest. got ((b - group) ∷ gs) rest))

-- the number of the groups that were read, or 8
abbrev pub number_from : Reading (List ℕ) → Reading ℕ
number_from r = next r (λ gs rest. checked (needless gs) (pos 8) (value_of gs) rest)

abbrev pub read_number : List ℕ → Reading ℕ
read_number bs = number_from (read_groups most_groups bs)

-- the number that is stored as n
abbrev pub unzigzag : ℕ → ℤ
unzigzag n = cond (eqb (n % 2) 0) (pos (n / 2)) (negsuc (n / 2))

-- what reading a number answers: the number and how many bytes it takes, or the refusal "with every other number 0"
pub record Said : Type 0 where
  pub refusal : ℤ
  pub value : ℕ
  pub size : ℕ

abbrev pub number_of : List ℕ → Reading ℕ → Said
number_of bs (got n rest) = record { refusal = pos 0; value = n; size = length bs - length rest }
number_of bs (no n) = record { refusal = n; value = 0; size = 0 }

-- what the code's answer says
abbrev pub number_says : Result Number Refusal → Said
number_says (Ok n) = record { refusal = pos 0; value = n.value; size = n.size }
number_says (Err r) = record { refusal = no_of r; value = 0; size = 0 }

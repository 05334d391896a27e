-- How far reading reaches into its bytes. To cite:
--   Same        of bytes, and of them with others behind, the same is read, by at most so many
--   same_next, same-checked, same_cond, same-weak   what is read next; a check; a choice; by more bytes
--   SameNumber, same_number   a number, where there are bytes enough
--   same-take   a number is read, and then what refuses it where it has more than k groups after the first
-- The laws ask for more bytes than are taken, since a number that is refused may be longer than one that is taken. Assumes nothing.
use Rattle.std.specs.Prelude.{◌≡◌, refl, Bool, true, false, cond, List, ◌∷◌, ◌++◌, ℕ, suc, ◌+◌, ◌<◌, ◌≤◌, leb, ltb, ℤ, pos, length}
use Rattle.std.proofs.Common.{ap, arith, leb-true, leb-false, ltb-true, ltb-false, length-append}
use Rattle.number.specs.Number.{most_groups, limit, value_of, needless, Reading, got, no, next, checked, number_from, read_number}
use Rattle.number.proofs.GroupsLaws.{large-value}
use Rattle.number.proofs.ReadGroupsLaws.{Behind, read_behind}
use Rattle.number.proofs.ReadGroupsLaws as groups

pub data Same {A : Type 0} (k : ℕ) (bs t : List ℕ) : Reading A → Reading A → Type 0 where
  on : (a : A) (rest : List ℕ) → length bs ≤ length rest + k → Same k bs t (got a rest) (got a (rest ++ t))
  off : (n : ℤ) → Same k bs t (no n) (no n)

pub same_next :
    {A B : Type 0} (j k : ℕ) {bs t : List ℕ} {r r' : Reading A} (f : A → List ℕ → Reading B) → j + k < length bs → Same j bs t r r'
    → ((a : A) (rest : List ℕ) → k < length rest → Same k rest t (f a rest) (f a (rest ++ t)))
    → Same (j + k) bs t (next r f) (next r' f)
same_next j k {bs} {t} f h (off n) s = off n
same_next {A} {B} j k {bs} {t} f h (on a rest l) s = go (s a rest (omega arith))
  where
    go : {r r' : Reading B} → Same k rest t r r' → Same (j + k) bs t r r'
    go (off n) = off n
    go (on b rest' m) = on b rest' (omega arith)

pub same-checked : {A : Type 0} (t : Bool) (n : ℤ) (a : A) (rest more : List ℕ) → Same 0 rest more (checked t n a rest)
    (checked t n a (rest ++ more))
same-checked true n a rest more = off n
same-checked false n a rest more = on a rest (omega arith)

pub same_cond : {A : Type 0} {k : ℕ} {bs more : List ℕ} (t : Bool) {r r' s s' : Reading A}
    → Same k bs more r r' → Same k bs more s s' → Same k bs more (cond t r s) (cond t r' s')
same_cond true h l = h
same_cond false h l = l

pub same-weak : {A : Type 0} {j k : ℕ} {bs t : List ℕ} {r r' : Reading A} → j ≤ k → Same j bs t r r' → Same k bs t r r'
same-weak h (off n) = off n
same-weak h (on a rest l) = on a rest (omega arith)

-- ---- numbers

-- of bytes that are enough for any number, and of them with others behind: a number that few groups hold takes few bytes
pub data SameNumber (bs t : List ℕ) : Reading ℕ → Reading ℕ → Type 0 where
  taken : (n : ℕ) (rest : List ℕ) → ((k : ℕ) → n < limit (suc k) → length bs ≤ length rest + suc k) → SameNumber bs t (got n rest) (got n (rest ++ t))
  refused : (z : ℤ) → SameNumber bs t (no z) (no z)

pub same_number : (bs t : List ℕ) → most_groups ≤ length bs → SameNumber bs t (read_number bs) (read_number (bs ++ t))
same_number bs t h = go (read_behind most_groups bs t)
  where
    go : {r r' : Reading (List ℕ)} → Behind most_groups bs t r r' → SameNumber bs t (number_from r) (number_from r')
    go groups.over = refused (pos 8)
    go (groups.cut r l) = absurd (omega arith)
    go (groups.taken g gs front rest e l) = second (needless (g ∷ gs)) (large-value g gs)
      where
        n : ℕ
        n = value_of (g ∷ gs)

        long : length bs ≡ suc (length gs) + length rest
        long = omega (arith, ap length e, length-append front rest)

        few : ((k : ℕ) → k < length gs → limit (suc k) ≤ n) → (k : ℕ) → n < limit (suc k) → length bs ≤ length rest + suc k
        few large k small = third (leb (length gs) k) (leb-true (length gs) k) (leb-false (length gs) k)
          where
            third : (c : Bool) → (c ≡ true → length gs ≤ k) → (c ≡ false → k < length gs) → length bs ≤ length rest + suc k
            third true y x = omega (arith, long, y refl)
            third false y x = absurd (omega (arith, small, large k (x refl)))

        second : (c : Bool) → (c ≡ false → (k : ℕ) → k < length gs → limit (suc k) ≤ n)
            → SameNumber bs t (checked c (pos 8) n rest) (checked c (pos 8) n (rest ++ t))
        second true large = refused (pos 8)
        second false large = taken n rest (few (large refl))

-- what refuses a number that k groups after the first do not hold
pub same-take :
    {B : Type 0} (k j : ℕ) (z : ℤ) (bs t : List ℕ) (f : ℕ → List ℕ → Reading B) → suc k + j < length bs → most_groups ≤ length bs
    → ((n : ℕ) → limit (suc k) ≤ n → (rest : List ℕ) → f n rest ≡ no z)
    → ((n : ℕ) (rest : List ℕ) → j < length rest → Same j rest t (f n rest) (f n (rest ++ t)))
    → Same (suc k + j) bs t (next (read_number bs) f) (next (read_number (bs ++ t)) f)
same-take {B} k j z bs t f h enough refuses s = go (same_number bs t enough)
  where
    longer : {rest : List ℕ} {r r' : Reading B} → length bs ≤ length rest + suc k → Same j rest t r r' → Same (suc k + j) bs t r r'
    longer i (off n) = off n
    longer i (on b rest' m) = on b rest' (omega arith)

    go : {r r' : Reading ℕ} → SameNumber bs t r r' → Same (suc k + j) bs t (next r f) (next r' f)
    go (refused z) = off z
    go (taken n rest few) = second (ltb n (limit (suc k))) (ltb-true n (limit (suc k))) (ltb-false n (limit (suc k)))
      where
        second : (c : Bool) → (c ≡ true → n < limit (suc k)) → (c ≡ false → limit (suc k) ≤ n) → Same (suc k + j) bs t (f n rest) (f n (rest ++ t))
        second true y x = let i = few k (y refl) in longer i (s n rest (omega (arith, i)))
        second false y x = simp (refuses n (x refl) rest, refuses n (x refl) (rest ++ t)) (off z)

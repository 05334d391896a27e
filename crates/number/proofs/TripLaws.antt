-- Numbers, written and read again, and back. To cite:
--   behind-bytes          each number of a list is a byte, and so of its end
--   From, from-checked    what was read, with what was written for it in front of the rest; or a refusal
--   number-back, number-from   a stored number
--   number-apart          bytes begin with one number: two numbers have different bytes, and those of one are no beginning of another's
--   number-exact, number-only   what is read is exactly what is written, and nothing else is
-- Assumes nothing.
use Rattle.std.specs.Prelude.{◌≡◌, refl, Bool, true, false, List, [], ◌∷◌, ◌++◌, ℕ, ◌<◌, ◌≤◌, ℤ, pos, length}
use Rattle.std.proofs.Common.{sym, ap, subst, ◌∙◌, append_assoc, append-nil, arith, length-append}
use Rattle.whole.specs.Flag.{eq_z}
use Rattle.whole.specs.Tests.{eq_z-false}
use Rattle.number.specs.Number.{Bytes, most_groups, number_limit, groups_of, value_of, needless, bytes_of, write_number, Reading, got, no, checked, number_from, read_groups, read_number}
use Rattle.number.specs.ReadsNumber.{ReadsNumber, taken, cut, wrong}
use Rattle.number.proofs.GroupsLaws.{SevenBits, seven-groups, groups-few, value-groups, fewest-groups, value-below, groups-value, behind-fewest}
use Rattle.number.proofs.ReadGroupsLaws.{rest-bytes, Behind, read_behind, Groups, read-groups, bytes_read}
use Rattle.number.proofs.ReadGroupsLaws as groups

pub behind-bytes : (a : List ℕ) {bs rest : List ℕ} → bs ≡ a ++ rest → Bytes bs → Bytes rest
behind-bytes a {bs} {rest} e h = go a (subst Bytes e h)
  where
    go : (a : List ℕ) → Bytes (a ++ rest) → Bytes rest
    go [] h = h
    go (x ∷ a) h = go a (rest-bytes h)

-- W is what is written for what is read
pub data From {A : Type 0} (W : A → List ℕ) (bs : List ℕ) : Reading A → Type 0 where
  from : (a : A) (rest : List ℕ) → bs ≡ W a ++ rest → From W bs (got a rest)
  not : (n : ℤ) → From W bs (no n)

pub from-checked :
    {A : Type 0} {W : A → List ℕ} {bs : List ℕ} (t : Bool) (n : ℤ) (a : A) (rest : List ℕ) → bs ≡ W a ++ rest → From W bs (checked t n a rest)
from-checked true n a rest e = not n
from-checked false n a rest e = from a rest e

-- ---- written, and then read

pub number-back : (n : ℕ) (rest : List ℕ) → n < number_limit → read_number (write_number n ++ rest) ≡ got n rest
unfolding groups_of
number-back n rest h =
    ap number_from (bytes_read most_groups _ _ rest (seven-groups most_groups n) (groups-few most_groups n))
    ∙ (λ i. checked (fewest-groups most_groups n h i) (pos 8) (value-groups most_groups n h i) rest)

-- what was read, out of the reading
abbrev value : Reading ℕ → ℕ
value (got n rest) = n
value (no z) = 0

abbrev behind : Reading ℕ → List ℕ
behind (got n rest) = rest
behind (no z) = []

abbrev refusal : Reading ℕ → ℤ
refusal (got n rest) = pos 0
refusal (no z) = z

pub number-apart :
    (m n : ℕ) (a b : List ℕ) → m < number_limit → n < number_limit → write_number m ++ a ≡ write_number n ++ b → (m ≡ n) × (a ≡ b)
number-apart m n a b h k e =
    let same = sym (number-back m a h) ∙ ap read_number e ∙ number-back n b k in
    (ap value same, ap behind same)

-- ---- read, and then written

not_eight : {r : Reading ℕ} → eq_z (refusal r) (pos 8) ≡ false → r ≡ no (pos 8) → ⊥
not_eight {r} z e = eq_z-false {a = refusal r} {b = pos 8} z (ap refusal e)

-- bytes that are no number are none with others behind them
eight : (bs : List ℕ) → read_number bs ≡ no (pos 8) → ReadsNumber bs (no (pos 8))
eight bs e = wrong (λ n more rest h same. not_eight refl (sym (number-back n rest h) ∙ sym (ap read_number same) ∙ stays more))
  where
    stays : (more : List ℕ) → read_number (bs ++ more) ≡ no (pos 8)
    stays more = go (read_behind most_groups bs more) e
      where
        go : {r r' : Reading (List ℕ)} → Behind most_groups bs more r r' → number_from r ≡ no (pos 8) → number_from r' ≡ no (pos 8)
        go groups.over e = refl
        go (groups.cut r h) e = absurd (not_eight refl e)
        go (groups.taken g gs front rest f l) e = second (needless (g ∷ gs)) e
          where
            second : (t : Bool) → checked t (pos 8) (value_of (g ∷ gs)) rest ≡ no (pos 8)
                → checked t (pos 8) (value_of (g ∷ gs)) (rest ++ more) ≡ no (pos 8)
            second true e = refl
            second false e = absurd (not_eight refl e)

-- the groups of a number, by the number that they hold
module _ {g : ℕ} {gs : List ℕ} (small : SevenBits (g ∷ gs)) (few : length (g ∷ gs) ≤ most_groups) (fewest : needless (g ∷ gs) ≡ false) where
  is_number : value_of (g ∷ gs) < number_limit
  is_number = value-below most_groups (g ∷ gs) small few

  its-bytes : bytes_of (g ∷ gs) ≡ write_number (value_of (g ∷ gs))
  its-bytes = ap bytes_of (sym (groups-value most_groups g gs small few fewest))

-- bytes with a number in front are no beginning of another's
early : {bs : List ℕ} (m : ℕ) (a : List ℕ) → m < number_limit → bs ≡ write_number m ++ a
    → (n b : ℕ) (more : List ℕ) → n < number_limit → bs ++ (b ∷ more) ≡ write_number n → ⊥
early {bs} m a h e n b more k f =
    let all = sym (append_assoc (write_number m) a (b ∷ more)) ∙ ap (λ (l : List ℕ). l ++ (b ∷ more)) (sym e) ∙ f ∙ sym (append-nil (write_number n)) in
    let none = ap length (number-apart m n (a ++ (b ∷ more)) [] h k all).1 in
    omega (arith, none, length-append a (b ∷ more))

pub number-exact : (bs : List ℕ) → Bytes bs → ReadsNumber bs (read_number bs)
number-exact bs h = go refl (read-groups most_groups bs h)
  where
    go : {r : Reading (List ℕ)} → read_groups most_groups bs ≡ r → Groups most_groups bs r → ReadsNumber bs (number_from r)
    go is groups.over = eight bs (ap number_from is)
    go is (groups.cut g gs small few e f) =
        let fewest = behind-fewest 0 g gs (f 0) in
        cut (value_of (g ∷ gs)) 1 [] (is_number small few fewest) (sym e ∙ its-bytes small few fewest)
    go is (groups.taken g gs rest small few e) = second (needless (g ∷ gs)) refl
      where
        second : (t : Bool) → needless (g ∷ gs) ≡ t → ReadsNumber bs (checked t (pos 8) (value_of (g ∷ gs)) rest)
        second true f = eight bs (ap number_from is ∙ ap (λ (t : Bool). checked t (pos 8) (value_of (g ∷ gs)) rest) f)
        second false f =
            taken (value_of (g ∷ gs)) rest (is_number small few f) (e ∙ ap (λ (l : List ℕ). l ++ rest) (its-bytes small few f))

pub number-from : (bs : List ℕ) → Bytes bs → From write_number bs (read_number bs)
number-from bs h = go (number-exact bs h)
  where
    go : {r : Reading ℕ} → ReadsNumber bs r → From write_number bs r
    go (taken n rest h e) = from n rest e
    go (cut n b more h e) = not (pos 7)
    go (wrong h) = not (pos 8)

-- two readings that are said so are one
pub number-only : {bs : List ℕ} {r s : Reading ℕ} → ReadsNumber bs r → ReadsNumber bs s → r ≡ s
number-only {bs} (taken m a h e) (taken n b k f) =
    let same = number-apart m n a b h k (sym e ∙ f) in λ i. got (same.0 i) (same.1 i)
number-only (cut m b more h e) (cut n c more' k f) = refl
number-only (wrong h) (wrong k) = refl
number-only {bs} (taken m a h e) (cut n b more k f) = absurd (early m a h e n b more k f)
number-only {bs} (cut n b more k f) (taken m a h e) = absurd (early m a h e n b more k f)
number-only {bs} (taken m a h e) (wrong w) = absurd (w m [] a h (append-nil bs ∙ e))
number-only {bs} (wrong w) (taken m a h e) = absurd (w m [] a h (append-nil bs ∙ e))
number-only (cut n b more k f) (wrong w) = absurd (w n (b ∷ more) [] k (f ∙ sym (append-nil (write_number n))))
number-only (wrong w) (cut n b more k f) = absurd (w n (b ∷ more) [] k (f ∙ sym (append-nil (write_number n))))

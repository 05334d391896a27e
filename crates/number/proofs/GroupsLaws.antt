-- A number's groups, what they hold and their bytes. To cite:
--   SevenBits, seven-groups   each group of a list is of seven bits, and so are a number's
--   value-groups, fewest-groups   a number's groups hold it, and none of them is needless
--   value-below           so many groups hold a small number
--   groups-value          groups of which none is needless are those of the number that they hold
--   large-value, groups-least   and fewer do not hold it
--   write-last, write-more   the bytes of a number of one group, and of one with more
--   groups-few, number-some, number-most   a number has no more groups than it may; it takes a byte at least, and no more than its groups
-- Assumes nothing.
use Rattle.std.specs.Prelude.{◌≡◌, refl, Bool, true, false, cond, List, [], ◌∷◌, ℕ, zero, suc, ◌+◌, ◌*◌, ◌/◌, ◌%◌, ◌<◌, ◌≤◌, ltb, length, get_or}
use Rattle.std.proofs.Common.{ap, ◌∙◌, arith, lt-ltb, le-ltb, ltb-true, ltb-false, ne_eqb}
use Rattle.std.proofs.lemmas.Bool.{eqb-false}
use Rattle.number.specs.Number.{group, most_groups, limit, groups_of, value_of, needless, bytes_of, write_number}

pub record SevenBits (gs : List ℕ) : Type 0 where
  pub each : (i : ℕ) → get_or gs i 0 < group

pub seven-behind : {g : ℕ} {gs : List ℕ} → SevenBits (g ∷ gs) → SevenBits gs
seven-behind h = record { each = λ i. h.each (suc i) }

pub seven-more : {g : ℕ} {gs : List ℕ} → g < group → SevenBits gs → SevenBits (g ∷ gs)
seven-more {g} {gs} h l = record { each = go }
  where
    go : (i : ℕ) → get_or (g ∷ gs) i 0 < group
    go zero = h
    go (suc i) = l.each i

seven-none : SevenBits []
seven-none = record { each = λ i. omega arith }

pub seven-one : {g : ℕ} → g < group → SevenBits (g ∷ [])
seven-one h = seven-more h seven-none

-- ---- a number's groups

pub seven-groups : (k n : ℕ) → SevenBits (groups_of k n)
unfolding groups_of
seven-groups zero n = seven-none
seven-groups (suc k) n = seven-more (omega arith) (go (ltb n group) (seven-groups k (n / group)))
  where
    go : (t : Bool) → SevenBits (groups_of k (n / group)) → SevenBits (cond t [] (groups_of k (n / group)))
    go true h = seven-none
    go false h = h

pub value-groups : (k n : ℕ) → n < limit k → value_of (groups_of k n) ≡ n
unfolding groups_of value_of
value-groups zero n h = omega arith
value-groups (suc k) n h = go (ltb n group) (ltb-true n group) (value-groups k (n / group) (omega arith))
  where
    go : (t : Bool) → (t ≡ true → n < group) → value_of (groups_of k (n / group)) ≡ n / group
        → value_of ((n % group) ∷ cond t [] (groups_of k (n / group))) ≡ n
    go true y e = let h = y refl in omega arith
    go false y e = omega arith

-- the groups of a number that is not 0, behind another
fewest-behind : (k g n : ℕ) → 0 < n → n < limit k → needless (g ∷ groups_of k n) ≡ false
unfolding groups_of needless
fewest-behind zero g n p h = absurd (omega arith)
fewest-behind (suc zero) g n p h = simp (lt-ltb n group (omega arith)) (ne_eqb (n % group) 0 (λ z. omega arith))
fewest-behind (suc (suc k)) g n p h =
    go (ltb n group) (ltb-true n group) (ltb-false n group) (λ l. fewest-behind (suc k) (n % group) (n / group) (omega arith) (omega arith))
  where
    go : (t : Bool) → (t ≡ true → n < group) → (t ≡ false → group ≤ n)
        → (group ≤ n → needless ((n % group) ∷ groups_of (suc k) (n / group)) ≡ false)
        → needless (g ∷ (n % group) ∷ cond t [] (groups_of (suc k) (n / group))) ≡ false
    go true y m e = let h = y refl in ne_eqb (n % group) 0 (λ z. omega arith)
    go false y m e = e (m refl)

pub fewest-groups : (k n : ℕ) → n < limit k → needless (groups_of k n) ≡ false
unfolding groups_of needless
fewest-groups zero n h = refl
fewest-groups (suc k) n h = go (ltb n group) (ltb-false n group)
  where
    go : (t : Bool) → (t ≡ false → group ≤ n) → needless ((n % group) ∷ cond t [] (groups_of k (n / group))) ≡ false
    go true m = refl
    go false m = let l = m refl in fewest-behind k (n % group) (n / group) (omega arith) (omega arith)

-- ---- the number that groups hold

pub value-below : (k : ℕ) (gs : List ℕ) → SevenBits gs → length gs ≤ k → value_of gs < limit k
unfolding value_of
value-below zero [] s h = omega arith
value-below (suc k) [] s h = omega (arith, value-below k [] s (omega arith))
value-below zero (g ∷ gs) s h = absurd (omega arith)
value-below (suc k) (g ∷ gs) s h =
    let e : g < group = s.each 0 in
    omega (arith, value-below k gs (seven-behind s) (omega arith))

-- groups behind another, of which none is needless, hold something
held : (g h : ℕ) (gs : List ℕ) → needless (g ∷ h ∷ gs) ≡ false → 0 < value_of (h ∷ gs)
unfolding needless value_of
held g h [] e = let d = eqb-false h 0 e in omega arith
held g h (i ∷ gs) e = omega (arith, held h i gs e)

pub behind-fewest : (g h : ℕ) (gs : List ℕ) → needless (g ∷ h ∷ gs) ≡ false → needless (h ∷ gs) ≡ false
unfolding needless
behind-fewest g h [] e = refl
behind-fewest g h (i ∷ gs) e = e

pub groups-value : (k g : ℕ) (gs : List ℕ) → SevenBits (g ∷ gs) → length (g ∷ gs) ≤ k → needless (g ∷ gs) ≡ false → groups_of k (value_of (g ∷ gs)) ≡ g ∷ gs
unfolding groups_of value_of
groups-value zero g gs s h e = absurd (omega arith)
groups-value (suc k) g [] s h e =
    let small : g < group = s.each 0 in
    let low : (g + group * 0) % group ≡ g = omega arith in
    simp (lt-ltb (g + group * 0) group (omega arith)) (ap (λ (x : ℕ). x ∷ []) low)
groups-value (suc k) g (h ∷ gs) s l e =
    let small : g < group = s.each 0 in
    let w = value_of (h ∷ gs) in
    let v = g + group * w in
    let low : v % group ≡ g = omega arith in
    let high : v / group ≡ w = omega arith in
    let rest = groups-value k h gs (seven-behind s) (omega arith) (behind-fewest g h gs e) in
    simp (le-ltb v group (omega (arith, held g h gs e))) ((λ i. low i ∷ groups_of k (high i)) ∙ ap (λ (l : List ℕ). g ∷ l) rest)

-- groups of which none is needless: fewer, and one at least, do not hold the number
pub large-value : (g : ℕ) (gs : List ℕ) → needless (g ∷ gs) ≡ false → (k : ℕ) → k < length gs → limit (suc k) ≤ value_of (g ∷ gs)
unfolding value_of
large-value g [] e k l = absurd (omega arith)
large-value g (h ∷ gs) e zero l = omega (arith, held g h gs e)
large-value g (h ∷ gs) e (suc k) l = omega (arith, large-value h gs (behind-fewest g h gs e) k (omega arith))

-- "the fewest": no groups that hold a number are fewer than its own
pub groups-least :
    (k n : ℕ) → n < limit k → (gs : List ℕ) → 0 < length gs → SevenBits gs → value_of gs ≡ n → length (groups_of k n) ≤ length gs
groups-least k n h [] p s e = absurd (omega arith)
groups-least k n h (x ∷ xs) p s e = go (groups_of k n) (fewest-groups k n h) (value-groups k n h)
  where
    go : (l : List ℕ) → needless l ≡ false → value_of l ≡ n → length l ≤ suc (length xs)
    go [] f v = omega arith
    go (g ∷ hs) f v = second (ltb (length xs) (length hs)) (ltb-true (length xs) (length hs)) (ltb-false (length xs) (length hs))
      where
        second : (t : Bool) → (t ≡ true → length xs < length hs) → (t ≡ false → length hs ≤ length xs) → suc (length hs) ≤ suc (length xs)
        second true y m = absurd (omega (arith, large-value g hs f (length xs) (y refl), value-below (suc (length xs)) (x ∷ xs) s (omega arith)))
        second false y m = let i = m refl in omega arith

-- ---- bytes

pub write-last : (k n : ℕ) → n < group → bytes_of (groups_of (suc k) n) ≡ n ∷ []
unfolding groups_of bytes_of
write-last k n h =
    let low : n % group ≡ n = omega arith in
    simp (lt-ltb n group h) (ap (λ (x : ℕ). x ∷ []) low)

pub write-more : (k n : ℕ) → group ≤ n → bytes_of (groups_of (suc (suc k)) n) ≡ (group + n % group) ∷ bytes_of (groups_of (suc k) (n / group))
unfolding groups_of bytes_of
write-more k n h = simp (le-ltb n group h)

bytes-many : (gs : List ℕ) → length (bytes_of gs) ≡ length gs
unfolding bytes_of
bytes-many [] = refl
bytes-many (g ∷ []) = refl
bytes-many (g ∷ h ∷ gs) = ap suc (bytes-many (h ∷ gs))

pub groups-few : (k n : ℕ) → length (groups_of k n) ≤ k
unfolding groups_of
groups-few zero n = omega arith
groups-few (suc k) n = go (ltb n group) (groups-few k (n / group))
  where
    go : (t : Bool) → length (groups_of k (n / group)) ≤ k → length ((n % group) ∷ cond t [] (groups_of k (n / group))) ≤ suc k
    go true h = omega arith
    go false h = omega arith

pub number-some : (n : ℕ) → 0 < length (write_number n)
unfolding groups_of
number-some n = omega (arith, bytes-many (groups_of most_groups n))

pub number-most : (n : ℕ) → length (write_number n) ≤ most_groups
number-most n = omega (arith, bytes-many (groups_of most_groups n), groups-few most_groups n)

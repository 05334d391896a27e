-- The laws of things in turn. To cite:
--   turn_more             one more of them, counted as the code does
--   turn-all, turn-each   what holds of each holds of all together, where joining keeps it; and back
--   turn-same             of equal things the same
--   between_none, between_more, between-one, between-all   those between two places
--   between-two, between-same, between-gone   two parts, one behind the other; of equal things; where there is nothing of each
--   length_most, length-sum   how long lists are one after another
--   sum-none, sum_ones, sum-shift   sums: of nothing, of ones, of the first ones and the rest
--   sum-most, sum_less    of what is at most that of the other, and somewhere less
--   Some, sum-some        where a sum is above 0, something in it is
--   sum_room              one more, put in at a place
-- Assumes nothing.
use Rattle.std.specs.Prelude.{◌≡◌, refl, List, [], ◌++◌, length}
use Rattle.std.proofs.Common.{sym, ◌∙◌, append-nil, append_assoc, add-one, zero-add, add-zero, add-suc, suc-mul, add-mul, eq-or-lt_of_le, length-append}
use Rattle.std.proofs.Math.Path.{ap}
use Rattle.std.proofs.Math.Logic.{⊎_elim}
use Prim.Native.Nat.{ℕ, zero, suc, ◌+◌, ◌-◌, ◌*◌, ◌≤◌, ◌<◌}
use Rattle.std.proofs.Math.Decide.{le_ind}
use native.Mathlib.Omega.{arith}
use Rattle.std.proofs.Math.Nat.{sub-zero}
use Rattle.whole.specs.InTurn.{in_turn, all_of, all_between, sum_of}

pub turn_more : {A : Type 0} (join : A → A → A) (start : A) (f : ℕ → A) (n : ℕ)
    → in_turn join start f (n + 1) ≡ join (in_turn join start f n) (f n)
unfolding in_turn
turn_more join start f n = ap (in_turn join start f) (add-one n)

pub turn-same : {A : Type 0} (join : A → A → A) (start : A) {f g : ℕ → A} (n : ℕ) → ((i : ℕ) → i < n → f i ≡ g i) → in_turn join start f n ≡ in_turn join start g n
unfolding in_turn
turn-same join start zero h = refl
turn-same join start (suc n) h = λ i. join (turn-same join start n (λ i k. h i (omega arith)) i) (h n (omega arith) i)

module _ {A : Type 0} (P : A → Type 0) (join : A → A → A) (start : A) (f : ℕ → A) where
  pub turn-all : P start → ((a b : A) → P a → P b → P (join a b)) → (n : ℕ) → ((i : ℕ) → i < n → P (f i)) → P (in_turn join start f n)
  unfolding in_turn
  turn-all none both zero h = none
  turn-all none both (suc n) h = both (in_turn join start f n) (f n) (turn-all none both n (λ i k. h i (omega arith))) (h n (omega arith))

  pub turn-each : ((a b : A) → P (join a b) → P a × P b) → (n : ℕ) → P (in_turn join start f n) → (i : ℕ) → i < n → P (f i)
  unfolding in_turn
  turn-each apart n e i h = (apart (in_turn join start f i) (f i) (front (suc i) h)).1
    where
      front : (k : ℕ) → k ≤ n → P (in_turn join start f k)
      front k h =
          le_ind (λ m. P (in_turn join start f m) → P (in_turn join start f k)) (λ e. e) (λ m _ g e. g (apart (in_turn join start f m) (f m) e).0) n h e

-- ---- lists one after another

module _ {A : Type 0} (f : ℕ → List A) where
  pub length_most : (w : ℕ) → ((k : ℕ) → length (f k) ≤ w) → (n : ℕ) → length (all_of f n) ≤ n * w
  unfolding in_turn
  length_most w h zero = omega arith
  length_most w h (suc n) = simp (length-append, suc-mul) (omega (arith, h n, length_most w h n))

module _ {A : Type 0} (f : ℕ → List A) where
  pub between_none : (a : ℕ) → all_between f a a ≡ []
  unfolding in_turn
  between_none a = let e : a - a ≡ 0 = omega arith in ap (all_of (λ k. f (a + k))) e

  pub between_more : (a b : ℕ) → a ≤ b → all_between f a (b + 1) ≡ all_between f a b ++ f b
  between_more a b h =
      let e : b + 1 - a ≡ b - a + 1 = omega arith in
      let g : a + (b - a) ≡ b = omega arith in
      ap (all_of (λ k. f (a + k))) e ∙ turn_more ◌++◌ [] (λ k. f (a + k)) (b - a) ∙ ap (λ (k : ℕ). all_between f a b ++ f k) g

  pub between-one : (a : ℕ) → all_between f a (a + 1) ≡ f a
  between-one a = between_more a a (omega arith) ∙ ap (λ (l : List A). l ++ f a) (between_none a)

  pub between-all : (n : ℕ) → all_between f 0 n ≡ all_of f n
  between-all n = (λ i. all_of (λ k. f (zero-add k i)) (sub-zero n i))

module _ {A : Type 0} where
  pub between-two : (f : ℕ → List A) (a b c : ℕ) → a ≤ b → b ≤ c → all_between f a b ++ all_between f b c ≡ all_between f a c
  between-two f a b c h k = le_ind (λ c. all_between f a b ++ all_between f b c ≡ all_between f a c) start more c k
    where
      start : all_between f a b ++ all_between f b b ≡ all_between f a b
      start = ap (λ (l : List A). all_between f a b ++ l) (between_none f b) ∙ append-nil (all_between f a b)

      more : (c : ℕ) → b ≤ c → all_between f a b ++ all_between f b c ≡ all_between f a c → all_between f a b ++ all_between f b (suc c) ≡ all_between f a (suc c)
      more c m e =
          let one : suc c ≡ c + 1 = omega arith in
          ap (λ (d : ℕ). all_between f a b ++ all_between f b d) one
          ∙ ap (λ (l : List A). all_between f a b ++ l) (between_more f b c m)
          ∙ sym (append_assoc (all_between f a b) (all_between f b c) (f c))
          ∙ ap (λ (l : List A). l ++ f c) e
          ∙ sym (between_more f a c (omega arith))
          ∙ ap (all_between f a) (sym one)

  pub between-same : {f g : ℕ → List A} (a b : ℕ) → ((k : ℕ) → a ≤ k → k < b → f k ≡ g k) → all_between f a b ≡ all_between g a b
  between-same a b h = turn-same ◌++◌ [] (b - a) (λ k m. h (a + k) (omega arith) (omega arith))

  pub between-gone : {f : ℕ → List A} (a b : ℕ) → ((k : ℕ) → a ≤ k → k < b → f k ≡ []) → all_between f a b ≡ []
  between-gone {f} a b h = turn-all (λ (l : List A). l ≡ []) ◌++◌ [] (λ k. f (a + k)) refl (λ x y p q. λ i. p i ++ q i) (b - a) (λ k m. h (a + k) (omega arith) (omega arith))

-- ---- sums

-- the lengths of lists one after another, each w for each that is counted
pub length-sum : {A : Type 0} (f : ℕ → List A) (g : ℕ → ℕ) (w n : ℕ) → ((i : ℕ) → i < n → length (f i) ≡ g i * w) → length (all_of f n) ≡ sum_of g n * w
unfolding in_turn
length-sum f g w zero h = omega arith
length-sum f g w (suc n) h = simp (length-append, add-mul, h n (omega arith), length-sum f g w n (λ i k. h i (omega arith)))

pub sum-none : (f : ℕ → ℕ) (n : ℕ) → ((i : ℕ) → i < n → f i ≡ 0) → sum_of f n ≡ 0
sum-none f n h = turn-all (λ k. k ≡ 0) ◌+◌ 0 f refl (λ a b p q. omega arith) n h

pub sum-shift : (f : ℕ → ℕ) (a n : ℕ) → sum_of f (a + n) ≡ sum_of f a + sum_of (λ k. f (a + k)) n
unfolding in_turn
sum-shift f a zero = ap (sum_of f) (add-zero a) ∙ omega arith
sum-shift f a (suc n) = ap (sum_of f) (add-suc a n) ∙ omega (arith, sum-shift f a n)

pub sum_ones : (f : ℕ → ℕ) (n : ℕ) → ((i : ℕ) → i < n → f i ≡ 1) → sum_of f n ≡ n
unfolding in_turn
sum_ones f zero h = refl
sum_ones f (suc n) h = omega (arith, sum_ones f n (λ i k. h i (omega arith)), h n (omega arith))

module _ (f g : ℕ → ℕ) where
  pub sum-most : (n : ℕ) → ((i : ℕ) → i < n → f i ≤ g i) → sum_of f n ≤ sum_of g n
  unfolding in_turn
  sum-most zero h = omega arith
  sum-most (suc n) h = omega (arith, sum-most n (λ i k. h i (omega arith)), h n (omega arith))

  pub sum_less : (n : ℕ) → ((i : ℕ) → i < n → f i ≤ g i) → (j : ℕ) → j < n → f j < g j → sum_of f n < sum_of g n
  unfolding in_turn
  sum_less zero h j k l = absurd (omega arith)
  sum_less (suc n) h j k l =
      ⊎_elim
      (λ (e : suc j ≡ suc n).
      let same : n ≡ j = omega arith in
      omega (arith, sum-most n (λ i m. h i (omega arith)), l, ap f same, ap g same))
      (λ (m : suc j < suc n). omega (arith, sum_less n (λ i m. h i (omega arith)) j (omega arith) l, h n (omega arith)))
      (eq-or-lt_of_le k)

  abbrev Room : ℕ → ℕ → Type 0
  Room place k = ((t : ℕ) → place ≤ t → t < k → g (t + 1) ≡ f t) → sum_of g (k + 1) ≡ sum_of f k + g place

  pub sum_room : (place : ℕ) → ((t : ℕ) → t < place → g t ≡ f t) → (k : ℕ) → place ≤ k → ((t : ℕ) → place ≤ t → t < k → g (t + 1) ≡ f t)
      → sum_of g (k + 1) ≡ sum_of f k + g place
  sum_room place low k h = le_ind (Room place) none more k h
    where
      none : Room place place
      none high = turn_more ◌+◌ 0 g place ∙ ap (λ (n : ℕ). n + g place) (turn-same ◌+◌ 0 place low)

      more : (k : ℕ) → place ≤ k → Room place k → Room place (suc k)
      more k h before high =
          let all = before (λ t a b. high t a (omega arith)) in
          let last = high k h (omega arith) in
          let one = add-one k in
          turn_more ◌+◌ 0 g (suc k) ∙ omega (arith, all, last, ap g one, ap (sum_of g) one, ap (sum_of f) one, turn_more ◌+◌ 0 f k)

pub record Some (f : ℕ → ℕ) (n : ℕ) : Type 0 where
  pub place : ℕ
  pub inside : place < n
  pub above : 0 < f place

pub sum-some : (f : ℕ → ℕ) (n : ℕ) → 0 < sum_of f n → Some f n
unfolding in_turn
sum-some f zero h = absurd (omega arith)
sum-some f (suc n) h = go (f n) refl (λ l. sum-some f n l)
  where
    go : (m : ℕ) → f n ≡ m → (0 < sum_of f n → Some f n) → Some f (suc n)
    go zero e before = let s = before (omega arith) in record { place = s.place; inside = omega (arith, s.inside); above = s.above }
    go (suc m) e before = record { place = n; inside = omega arith; above = omega arith }

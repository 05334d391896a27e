-- The laws of rows. To cite:
--   row-once, row-many, row-none   the row of a pair, by what the two share
--   pairs-fit              the pairs of n objects can be counted
--   between-most, between-fits   how long the rows of the objects from one on before another can be
--   length-rows-with, length-rows   the rows are as many as the pairs that make one
--   asked, left_out        with joints asked for, what a pair shares; without, the same rows and counts but for joints
-- Assumes nothing.
use Rattle.std.specs.Prelude.{◌≡◌, refl, Bool, true, false, cond, ◌&&◌, List, [], ◌∷◌, ◌++◌, ℤ, pos, length, ltb}
use Rattle.std.proofs.Common.{sym, ◌∙◌, mul-le-mul, le-mul_of_pos_right, mul-suc, suc-mul, add-one, arith, length-append, lt-ltb, le-ltb, ltb-true, ltb-false}
use Rattle.std.proofs.Math.Path.{ap}
use Rattle.std.proofs.Math.Bool.{and-false}
use Prim.Native.Nat.{ℕ, zero, suc, ◌+◌, ◌-◌, ◌*◌, ◌≤◌, ◌<◌}
use Rattle.std.proofs.Math.Decide.{le_ind}
use Rattle.whole.specs.InTurn.{in_turn, all_of, sum_of}
use Rattle.whole.specs.InTurnLaws.{between_none, between_more, length_most, length-sum, sum-shift, sum-none}
use Rattle.sheet.specs.declared.Point.{Point}
use Rattle.sheet.specs.Limits.{most}
use Rattle.sheet.specs.Points.{numbers}
use Rattle.sheet.specs.Crossing.{Meeting, none, point, many, crossing_of}
use Rattle.sheet.specs.Joint.{joint}
use Rattle.sheet.proofs.JointLaws.{kept-asked, kept-left}
use Rattle.sheet.specs.Lists.{row_width, count_of, object_at}
use Rattle.listing.specs.Rows.{meeting_of, is_some, makes_row, shared, tags_of, row_of, rows_with, rows_of, pair_count, sharing_with, sharing}
use Rattle.listing.specs.Pairs.{rows_between, Section, pairs_of}

-- ---- one pair

abbrev row_by : ℕ → ℕ → List ℤ → Meeting → List ℤ
row_by i j tags m = cond (is_some m) (pos i ∷ pos j ∷ (shared m ++ tags)) []

module _ (joints : Bool) (l : List ℤ) (i j : ℕ) where
  abbrev by : Meeting → List ℤ
  by = row_by i j (tags_of l i j)

  pub row-once : {e : Point} → point e ≡ meeting_of joints l i j → pos i ∷ pos j ∷ pos 1 ∷ (numbers e ++ tags_of l i j) ≡ row_of joints l i j
  row-once h = ap by h

  pub row-many : many ≡ meeting_of joints l i j → pos i ∷ pos j ∷ pos 2 ∷ pos 0 ∷ pos 0 ∷ pos 0 ∷ pos 0 ∷ pos 0 ∷ tags_of l i j ≡ row_of joints l i j
  row-many h = ap by h

  pub row-none : none ≡ meeting_of joints l i j → [] ≡ row_of joints l i j
  row-none h = ap by h

  length-row : length (row_of joints l i j) ≡ cond (makes_row joints l i j) 1 0 * row_width
  length-row = go (meeting_of joints l i j)
    where
      go : (m : Meeting) → length (by m) ≡ cond (is_some m) 1 0 * row_width
      go none = refl
      go (point e) = refl
      go many = refl

  row-most : length (row_of joints l i j) ≤ row_width
  row-most = omega (arith, length-row, at_most (makes_row joints l i j))
    where
      at_most : (t : Bool) → cond t 1 0 ≤ 1
      at_most true = omega arith
      at_most false = omega arith

-- ---- joints

-- with joints asked for: what document 01 has, "that share something"
pub asked : (l : List ℤ) (i j : ℕ) → meeting_of true l i j ≡ crossing_of (object_at l i) (object_at l j)
unfolding meeting_of
asked l i j = kept-asked (object_at l i) (object_at l j)

-- without: no row of a joint and none counted, and of every other pair what there is with joints asked for
module _ (l : List ℤ) (i j : ℕ) where
  pub left_out :
      (row_of false l i j ≡ cond (joint (object_at l i) (object_at l j)) [] (row_of true l i j))
      × (pair_count false l i j ≡ cond (joint (object_at l i) (object_at l j)) 0 (pair_count true l i j))
  unfolding meeting_of
  left_out =
      let e = kept-left (object_at l i) (object_at l j) in
      (ap (row_by i j (tags_of l i j)) e ∙ row (joint (object_at l i) (object_at l j)), ap count e ∙ counted (joint (object_at l i) (object_at l j)))
    where
      m : Meeting
      m = crossing_of (object_at l i) (object_at l j)

      count : Meeting → ℕ
      count m = cond (ltb i j && is_some m) 1 0

      row : (t : Bool) → row_by i j (tags_of l i j) (cond t none m) ≡ cond t [] (row_by i j (tags_of l i j) m)
      row true = refl
      row false = refl

      counted : (t : Bool) → count (cond t none m) ≡ cond t 0 (count m)
      counted true = ap (λ (t : Bool). cond t 1 0) (and-false (ltb i j))
      counted false = refl

-- ---- one object with all later ones

module _ (joints : Bool) (l : List ℤ) (i : ℕ) where
  rows-with-most : length (rows_with joints l i) ≤ (count_of l - (i + 1)) * row_width
  rows-with-most = length_most (λ k. row_of joints l i (i + 1 + k)) row_width (λ k. row-most joints l i (i + 1 + k)) (count_of l - (i + 1))

  -- no earlier one is counted
  count-early : (j : ℕ) → j < i + 1 → pair_count joints l i j ≡ 0
  count-early j h = simp (le-ltb i j (omega arith))

  count-later : (j : ℕ) → i < j → pair_count joints l i j ≡ cond (makes_row joints l i j) 1 0
  count-later j h = simp (lt-ltb i j h)

  counts-none : sum_of (pair_count joints l i) (i + 1) ≡ 0
  counts-none = sum-none (pair_count joints l i) (i + 1) count-early

  pub length-rows-with : length (rows_with joints l i) ≡ sharing_with joints l i * row_width
  unfolding in_turn
  length-rows-with = go (ltb i (count_of l)) (ltb-true i (count_of l)) (ltb-false i (count_of l))
    where
      later : ℕ
      later = count_of l - (i + 1)

      go : (t : Bool) → (t ≡ true → i < count_of l) → (t ≡ false → count_of l ≤ i) → length (rows_with joints l i) ≡ sharing_with joints l i * row_width
      go true f g =
          let h = f refl in
          let e : i + 1 + later ≡ count_of l = omega arith in
          let s = sum-shift (pair_count joints l i) (i + 1) later ∙ ap (λ (k : ℕ). k + sum_of (λ k. pair_count joints l i (i + 1 + k)) later) counts-none in
          length-sum (λ k. row_of joints l i (i + 1 + k)) (λ k. pair_count joints l i (i + 1 + k)) row_width later
          (λ k _. length-row joints l i (i + 1 + k) ∙ sym (ap (λ (c : ℕ). c * row_width) (count-later (i + 1 + k) (omega arith))))
          ∙ ap (λ (c : ℕ). c * row_width) (sym (sym (ap (sum_of (pair_count joints l i)) e) ∙ s ∙ omega arith))
      go false f g =
          let h = g refl in
          let none : later ≡ 0 = omega arith in
          ap (λ (k : ℕ). length (all_of (λ k. row_of joints l i (i + 1 + k)) k)) none
          ∙ sym (ap (λ (c : ℕ). c * row_width) (sum-none (pair_count joints l i) (count_of l) (λ j k. count-early j (omega arith))))

-- ---- several objects

pub length-rows : (joints : Bool) (l : List ℤ) → length (rows_of joints l) ≡ sharing joints l * row_width
length-rows joints l = length-sum (λ i. rows_with joints l i) (λ i. sharing_with joints l i) row_width (count_of l) (λ i _. length-rows-with joints l i)

square-least : (n : ℕ) → n ≤ n * n
square-least zero = omega arith
square-least (suc n) = le-mul_of_pos_right (suc n) (omega arith)

pub pairs-fit : {n : ℕ} → n ≤ most → (n ≤ n * n) × (n * n ≤ most * most)
pairs-fit {n} h = (square-least n, mul-le-mul h h)

-- one object more
pairs-more : (n : ℕ) → pairs_of (suc n) ≡ pairs_of n + n
pairs-more n = let e : suc n * suc n ≡ n * n + n + n + 1 = simp (mul-suc, suc-mul) (omega arith) in omega (arith, square-least n)

-- one object more, with k later ones
step : (a b p' q k : ℕ) {l p : ℕ} → a + p * row_width ≤ q * row_width → l ≡ a + b → p ≡ p' + k → b ≤ k * row_width → l + p' * row_width ≤ q * row_width
step a b p' q k e next pairs few = omega arith

-- no more than every pair: those of the objects from `from` on, less those of the objects from `to` on
pub between-most :
    (joints : Bool) {l : List ℤ} {from to : ℕ} → Section l from to
    → length (rows_between joints l from to) + pairs_of (count_of l - to) * row_width ≤ pairs_of (count_of l - from) * row_width
between-most joints {l} {from} {to} b = le_ind Most start more to b.order b.end
  where
    Most : ℕ → Type 0
    Most to = to ≤ count_of l → length (rows_between joints l from to) + pairs_of (count_of l - to) * row_width ≤ pairs_of (count_of l - from) * row_width

    start : Most from
    start h = omega (arith, ap length (between_none (λ i. rows_with joints l i) from))

    more : (to : ℕ) → from ≤ to → Most to → Most (suc to)
    more to h e k =
        let rows = rows_between joints l from to in
        let next = ap length (ap (rows_between joints l from) (sym (add-one to)) ∙ between_more (λ i. rows_with joints l i) from to h) ∙ length-append rows (rows_with joints l to) in
        let left = count_of l - (to + 1) in
        let one : count_of l - to ≡ suc left = omega arith in
        let same : count_of l - suc to ≡ left = omega arith in
        step (length rows) (length (rows_with joints l to)) (pairs_of (count_of l - suc to)) (pairs_of (count_of l - from)) left (e (omega arith)) next (ap pairs_of one ∙ pairs-more left ∙ ap (λ (k : ℕ). pairs_of k + left) (sym same)) (rows-with-most joints l to)

-- and so they can be counted
pub between-fits : (joints : Bool) {l : List ℤ} {from to : ℕ} → Section l from to → length (rows_between joints l from to) ≤ most * most * row_width
between-fits joints {l} {from} b =
    let few : count_of l - from ≤ most = omega (arith, b.list.few) in
    omega (arith, between-most joints b, pairs-fit few)

-- A number, as the code reads it: byte by byte. To cite:
--   read_none, read_one       no byte; the number of one group
--   read-cut-2, read-two, read-zero-2   behind a top bit: no byte; the number of two groups; a last group of 0
--   both-less, not_last       what the code's tests say: two orders that hold; a byte that is not 0 and not the last
--   read-cut-3, read-three, read-wrong-3   behind two: no byte; the number of three groups; by the code's test it is none
-- Assumes nothing.
use Rattle.std.specs.Prelude.{◌≡◌, refl, true, false, ◌&&◌, ℕ, zero, suc, ◌+◌, ◌*◌, ◌-◌, ◌<◌, ◌≤◌, ltb, pos, length, drop, get_or}
use Rattle.std.proofs.Math.Path.{ap}
use Rattle.std.proofs.Common.{◌∙◌, drop_of_length-le, drop-cons}
use mathlib.Core.List.{List, ◌∷◌}
use native.Mathlib.Omega.{arith}
use borrow.Author.Tests.{lt-ltb, le-ltb, ltb-true, ltb-false, ne_eqb}
use Rattle.std.proofs.Math.Dec.{eqb}
use Rattle.sheet.specs.Flags.{both}
use Rattle.number.specs.Number.{group, value_of, needless, got, no, read_groups, read_number}

-- a test of the code that asks for two orders
pub both-less : (a b c d : ℕ) → (ltb a b && ltb c d) ≡ true → (a < b) × (c < d)
both-less a b c d t = let f = (both (ltb a b) (ltb c d)).0 t in (ltb-true a b f.0, ltb-true c d f.1)

-- a group that is not 0, and that the code's test does not take for the last, has the top bit
pub not_last : (b : ℕ) → 0 < b → (ltb 0 b && ltb b group) ≡ false → group ≤ b
not_last b some t = ltb-false b group (simp (lt-ltb 0 b some) at t)

module _ (bs : List ℕ) where
  -- the bytes, and the first of them
  abbrev b : ℕ
  b = get_or bs 0 0

  abbrev c : ℕ
  c = get_or bs 1 0

  abbrev d : ℕ
  d = get_or bs 2 0

  one : 0 < length bs → bs ≡ b ∷ drop 1 bs
  one h = drop-cons bs 0 0 h

  two : 1 < length bs → bs ≡ b ∷ c ∷ drop 2 bs
  two h = one (omega arith) ∙ ap (λ (l : List ℕ). b ∷ l) (drop-cons bs 1 0 h)

  three : 2 < length bs → bs ≡ b ∷ c ∷ d ∷ drop 3 bs
  three h = two (omega arith) ∙ ap (λ (l : List ℕ). b ∷ c ∷ l) (drop-cons bs 2 0 h)

  pub read_none : length bs ≡ 0 → read_number bs ≡ no (pos 7)
  unfolding read_groups
  read_none h = ap read_number (drop_of_length-le bs {i = 0} (omega arith))

  pub read_one : 0 < length bs → b < group → read_number bs ≡ got b (drop 1 bs)
  unfolding read_groups needless value_of
  read_one h l =
      let is : b + group * 0 ≡ b = omega arith in
      ap read_number (one h) ∙ simp (lt-ltb b group l) (ap (λ (n : ℕ). got n (drop 1 bs)) is)

  -- the first byte's top bit is set
  module _ (f : group ≤ b) where
    pub read-cut-2 : length bs ≡ 1 → read_number bs ≡ no (pos 7)
    unfolding read_groups
    read-cut-2 h = ap read_number (one (omega arith) ∙ ap (λ (l : List ℕ). b ∷ l) (drop_of_length-le bs {i = 1} (omega arith))) ∙ simp (le-ltb b group f)

    pub read-two : 1 < length bs → 0 < c → c < group → read_number bs ≡ got (b - group + group * c) (drop 2 bs)
    unfolding read_groups needless value_of
    read-two h some l =
        let is : b - group + group * (c + group * 0) ≡ b - group + group * c = omega arith in
        ap read_number (two h)
        ∙ simp (le-ltb b group f, lt-ltb c group l, ne_eqb c 0 (λ z. omega arith)) (ap (λ (n : ℕ). got n (drop 2 bs)) is)

    pub read-zero-2 : 1 < length bs → c ≡ 0 → read_number bs ≡ no (pos 8)
    unfolding read_groups needless
    read-zero-2 h z = ap read_number (two h) ∙ simp (le-ltb b group f, lt-ltb c group (omega arith), ap (λ (n : ℕ). eqb n 0) z)

    -- the second one's too
    module _ (g : group ≤ c) where
      pub read-cut-3 : length bs ≡ 2 → read_number bs ≡ no (pos 7)
      unfolding read_groups
      read-cut-3 h =
          ap read_number (two (omega arith) ∙ ap (λ (l : List ℕ). b ∷ c ∷ l) (drop_of_length-le bs {i = 2} (omega arith)))
          ∙ simp (le-ltb b group f, le-ltb c group g)

      pub read-three :
          2 < length bs → 0 < d → d < group → read_number bs ≡ got (b - group + group * (c - group) + group * group * d) (drop 3 bs)
      unfolding read_groups needless value_of
      read-three h some l =
          let is : b - group + group * (c - group + group * (d + group * 0)) ≡ b - group + group * (c - group) + group * group * d = omega arith in
          ap read_number (three h)
          ∙ simp (le-ltb b group f, le-ltb c group g, lt-ltb d group l, ne_eqb d 0 (λ z. omega arith)) (ap (λ (n : ℕ). got n (drop 3 bs)) is)

      read-zero-3 : 2 < length bs → d ≡ 0 → read_number bs ≡ no (pos 8)
      unfolding read_groups needless
      read-zero-3 h z =
          ap read_number (three h) ∙ simp (le-ltb b group f, le-ltb c group g, lt-ltb d group (omega arith), ap (λ (n : ℕ). eqb n 0) z)

      read-over : 2 < length bs → group ≤ d → read_number bs ≡ no (pos 8)
      unfolding read_groups
      read-over h l = ap read_number (three h) ∙ simp (le-ltb b group f, le-ltb c group g, le-ltb d group l)

      pub read-wrong-3 : 2 < length bs → (ltb 0 d && ltb d group) ≡ false → read_number bs ≡ no (pos 8)
      read-wrong-3 h t = go d refl t
        where
          go : (x : ℕ) → d ≡ x → (ltb 0 x && ltb x group) ≡ false → read_number bs ≡ no (pos 8)
          go zero e t = read-zero-3 h e
          go (suc x) e t = let l = not_last (suc x) (omega arith) t in read-over h (omega arith)

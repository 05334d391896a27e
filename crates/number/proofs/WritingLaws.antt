-- A number, as the code writes it. To cite:
--   write-one, write_two, write-three   the bytes of a number of one, two and three groups
--   wrote-two-bytes, wrote-three-bytes   bytes that are put one behind the other
--   Own, own-bytes         a number's bytes in cells of their own
-- Assumes nothing.
use Rattle.std.specs.Prelude.{◌≡◌, List, [], ◌∷◌, ℕ, suc, ◌+◌, ◌/◌, ◌%◌, ◌<◌, ◌≤◌, length, set, take, drop}
use Rattle.std.proofs.Common.{sym, ap, ◌∙◌, add-one, arith}
use Rattle.std.proofs.Math.Seq.{take-append_seam}
use Rattle.sheet.specs.Lent.{largest, Wrote}
use Rattle.sheet.specs.LentLaws.{clipped-is, wrote-size, wrote-front}
use Rattle.number.specs.Number.{group, most_groups, number_limit, groups_of, bytes_of, write_number}
use Rattle.number.proofs.GroupsLaws.{write-last, write-more, number-most}

pub write-one : (n : ℕ) → n < group → write_number n ≡ n ∷ []
write-one n h = write-last 2 n h

module _ (n : ℕ) (large : group ≤ n) where
  -- behind the low group
  more_bytes : write_number n ≡ (group + n % group) ∷ bytes_of (groups_of 2 (n / group))
  more_bytes = write-more 1 n large

  pub write_two : n / group < group → write_number n ≡ (group + n % group) ∷ (n / group) ∷ []
  write_two h = more_bytes ∙ ap (λ (rest : List ℕ). (group + n % group) ∷ rest) (write-last 1 (n / group) h)

  pub write-three :
      group ≤ n / group → n < number_limit → write_number n ≡ (group + n % group) ∷ (group + n / group % group) ∷ (n / group / group) ∷ []
  write-three h l =
      more_bytes
      ∙ ap (λ (rest : List ℕ). (group + n % group) ∷ rest)
      (write-more 0 (n / group) h
      ∙ ap (λ (rest : List ℕ). (group + n / group % group) ∷ rest) (write-last 0 (n / group / group) (omega arith)))

module _ {d : List ℕ} {at : ℕ} (lent : length d ≤ largest) where
  pub wrote-two-bytes : {a b : ℕ} → at + 2 ≤ length d → Wrote d (set (set d at a) (at + 1) b) at (at + 2) (a ∷ b ∷ [])
  wrote-two-bytes {a} {b} h = record { cells = ap (λ (k : ℕ). set (set d at a) k b) (add-one at); place = sym (clipped-is (omega arith)); lent = lent }

  pub wrote-three-bytes :
      {a b c : ℕ} → at + 3 ≤ length d → Wrote d (set (set (set d at a) (at + 1) b) (at + 2) c) at (at + 3) (a ∷ b ∷ c ∷ [])
  wrote-three-bytes {a} {b} {c} h =
      let next : at + 2 ≡ suc (suc at) = omega arith in
      record { cells = λ i. set (set (set d at a) (add-one at i) b) (next i) c; place = sym (clipped-is (omega arith)); lent = lent }

-- ---- a number's bytes in cells of their own

-- cells that are as many as groups: the number's bytes are in front
pub record Own (own : List ℕ) (n size : ℕ) : Type 0 where
  pub long : size ≡ length (write_number n)
  pub front : take size own ≡ write_number n

pub own-bytes : {cells own : List ℕ} {n size : ℕ} → length cells ≡ most_groups → Wrote cells own 0 size (write_number n) → Own own n size
own-bytes {cells} {own} {n} {size} h w =
    let long = wrote-size w ∙ clipped-is (omega (arith, number-most n)) in
    let all = wrote-front w (omega (arith, number-most n)) in
    record { long = long; front = (λ i. take (long i) (all i)) ∙ take-append_seam (write_number n) (drop (length (write_number n)) cells) }

-- Stored numbers, worked out byte by byte by the documents' rules. A definition that says something else is refused here, whatever the code
-- does.
use Rattle.std.specs.Prelude.{◌≡◌, refl, [], ◌∷◌, map, pos}
use Rattle.sheet.specs.Cases.{minus}
use Rattle.number.specs.Number.{largest_number, groups_of, value_of, needless, bytes_of, write_number, write_numbers, zigzag, got, no, read_groups, read_number, unzigzag, number_of}

pub record WorkedNumber : Type 0 where
  -- "Every number is in groups of seven bits, low group first, the top bit set in every byte but the number's last, in the fewest groups"
  one_group : (write_number 0 ≡ 0 ∷ []) × (write_number 127 ≡ 127 ∷ [])
  two_groups : (write_number 128 ≡ 128 ∷ 1 ∷ []) × (write_number 300 ≡ 172 ∷ 2 ∷ []) × (write_number 16383 ≡ 255 ∷ 127 ∷ [])
  -- "A stored number may have up to three groups, still the fewest"
  three-groups :
      (write_number 16384 ≡ 128 ∷ 128 ∷ 1 ∷ []) × (write_number 100000 ≡ 160 ∷ 141 ∷ 6 ∷ []) × (write_number 2000000 ≡ 128 ∷ 137 ∷ 122 ∷ [])
      × (write_number 2097151 ≡ 255 ∷ 255 ∷ 127 ∷ [])
  groups-read :
      (read_number (127 ∷ 5 ∷ []) ≡ got 127 (5 ∷ [])) × (read_number (128 ∷ 1 ∷ 5 ∷ []) ≡ got 128 (5 ∷ []))
      × (read_number (172 ∷ 2 ∷ []) ≡ got 300 []) × (read_number (255 ∷ 127 ∷ []) ≡ got 16383 [])
  three-read :
      (read_number (128 ∷ 128 ∷ 1 ∷ 5 ∷ []) ≡ got 16384 (5 ∷ [])) × (read_number (129 ∷ 129 ∷ 1 ∷ []) ≡ got 16513 [])
      × (read_number (160 ∷ 141 ∷ 6 ∷ 128 ∷ []) ≡ got 100000 (128 ∷ [])) × (read_number (255 ∷ 255 ∷ 127 ∷ []) ≡ got 2097151 [])
  -- so 0 to 2,097,151: one that is too large is written as the largest
  largest : largest_number ≡ 2097151
  several : (write_numbers (3 ∷ 300 ∷ 0 ∷ []) ≡ 3 ∷ 172 ∷ 2 ∷ 0 ∷ []) × (write_numbers (2097152 ∷ 5 ∷ []) ≡ 255 ∷ 255 ∷ 127 ∷ 5 ∷ [])
  -- "7: stored bytes end where a number must begin or go on"; a second byte with its top bit set is no fault
  number_ends : (read_number [] ≡ no (pos 7)) × (read_number (128 ∷ []) ≡ no (pos 7)) × (read_number (128 ∷ 128 ∷ []) ≡ no (pos 7))
  -- "a third byte with its top bit set, is refusal 8", at once, before any 7 behind it
  third_top_bit : (read_number (128 ∷ 128 ∷ 128 ∷ []) ≡ no (pos 8)) × (read_number (129 ∷ 129 ∷ 129 ∷ 1 ∷ []) ≡ no (pos 8))
  -- "A last group equal to 0 after the first group"
  last-group-0 :
      (read_number (128 ∷ 0 ∷ []) ≡ no (pos 8)) × (read_number (128 ∷ 128 ∷ 0 ∷ []) ≡ no (pos 8)) × (read_number (255 ∷ 128 ∷ 0 ∷ []) ≡ no (pos 8))
      × (read_number (0 ∷ 0 ∷ []) ≡ got 0 (0 ∷ []))
  -- the number and its bytes; or the refusal "with every other number 0"
  answers :
      (number_of (172 ∷ 2 ∷ 9 ∷ []) (got 300 (9 ∷ [])) ≡ record { refusal = pos 0; value = 300; size = 2 })
      × (number_of (128 ∷ 0 ∷ []) (no (pos 8)) ≡ record { refusal = pos 8; value = 0; size = 0 })
  -- "n of 0 or more is stored as 2n and a negative n as -2n - 1"
  folded : map zigzag (pos 0 ∷ minus 1 ∷ pos 1 ∷ minus 2 ∷ pos 2 ∷ minus 2000 ∷ pos 2000 ∷ []) ≡ 0 ∷ 1 ∷ 2 ∷ 3 ∷ 4 ∷ 3999 ∷ 4000 ∷ []
  unfolded :
      map unzigzag (0 ∷ 1 ∷ 2 ∷ 3 ∷ 4 ∷ 3999 ∷ 4000 ∷ 4001 ∷ 4002 ∷ [])
      ≡ pos 0 ∷ minus 1 ∷ pos 1 ∷ minus 2 ∷ pos 2 ∷ minus 2000 ∷ pos 2000 ∷ minus 2001 ∷ pos 2001 ∷ []

pub worked-number : WorkedNumber
unfolding groups_of value_of needless bytes_of write_numbers read_groups
worked-number = record {
  one_group = (refl, refl);
  two_groups = (refl, refl, refl);
  three-groups = (refl, refl, refl, refl);
  groups-read = (refl, refl, refl, refl);
  three-read = (refl, refl, refl, refl);
  largest = refl;
  several = (refl, refl);
  number_ends = (refl, refl, refl);
  third_top_bit = (refl, refl);
  last-group-0 = (refl, refl, refl, refl);
  answers = (refl, refl);
  folded = refl;
  unfolded = refl;
}

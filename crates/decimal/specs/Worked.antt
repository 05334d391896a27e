-- Words and numbers as text, at the edges of their length, proved of the definitions.
use Rattle.std.specs.Prelude.{◌≡◌, refl, [], ◌∷◌, pos, negsuc}
use Rattle.decimal.specs.Decimal.{ascii, newline, blank, minus, zero_digit, digits_to, digits, value, signed, field, numbers}

pub record Worked : Type 0 where
  -- the two ends of the alphabet, great and small
  letters : ascii "AZ az" ≡ 65 ∷ 90 ∷ 32 ∷ 97 ∷ 122 ∷ []
  -- the bytes that are named are those of the letters
  named : (ascii "\n" ≡ newline ∷ []) × (ascii " " ≡ blank ∷ []) × (ascii "-" ≡ minus ∷ []) × (ascii "0" ≡ zero_digit ∷ [])
  nought : signed (pos 0) ≡ ascii "0"
  -- 9, 10, 99, 100
  digits_of :
      (signed (pos 9) ≡ ascii "9") × (signed (pos 10) ≡ ascii "10") × (signed (pos 99) ≡ ascii "99") × (signed (pos 100) ≡ ascii "100")
  below : (signed (negsuc 0) ≡ ascii "-1") × (signed (negsuc 1205) ≡ ascii "-1206")
  -- fields stand one blank apart
  fields : (field (pos 7) ≡ ascii " 7") × (numbers (pos 0 ∷ negsuc 3 ∷ pos 12 ∷ []) ≡ ascii " 0 -4 12") × (numbers [] ≡ [])
  read : value 0 (ascii "1206") ≡ 1206

pub worked : Worked
unfolding digits_to digits numbers
worked = record {
  letters = refl;
  named = (refl, refl, refl, refl);
  nought = refl;
  digits_of = (refl, refl, refl, refl);
  below = (refl, refl);
  fields = (refl, refl, refl);
  read = refl;
}

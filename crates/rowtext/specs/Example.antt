-- The listing that document 01 prints whole, with the tags that document 02 adds, proved of the definitions; and what is answered where text does not fit, or is of no rows.
use Rattle.std.specs.Prelude.{◌≡◌, refl, List, [], ◌∷◌, ◌++◌, ℕ, ℤ, pos, replicate}
use Rattle.sheet.specs.Lent.{clipped, filled}
use Rattle.decimal.specs.Decimal.{ascii, digits_to, digits, numbers}
use Rattle.rowtext.specs.Text.{row_text, rows_to, rows_text, objects_word, rows_word, refused_word, count_line}
use Rattle.rowtext.specs.Put.{rows_refusal, put_answer}

row_one : List ℤ
row_one = pos 0 ∷ pos 1 ∷ pos 1 ∷ pos 0 ∷ pos 4 ∷ pos 0 ∷ pos 2 ∷ pos 3 ∷ pos 0 ∷ pos 0 ∷ []

row_two : List ℤ
row_two = pos 0 ∷ pos 2 ∷ pos 1 ∷ pos 2 ∷ pos 0 ∷ pos 1 ∷ pos 0 ∷ pos 2 ∷ pos 0 ∷ pos 0 ∷ []

-- of objects 3 and 4, which have tags 7 and 12
row_tagged : List ℤ
row_tagged = pos 3 ∷ pos 4 ∷ pos 1 ∷ pos 0 ∷ pos 5 ∷ pos 0 ∷ pos 6 ∷ pos 1 ∷ pos 7 ∷ pos 12 ∷ []

text_one : List ℕ
text_one = ascii "0 1 point 0 4 0 2 3 0 0\n"

text_two : List ℕ
text_two = ascii "0 2 point 2 0 1 0 2 0 0\n"

-- the bytes of `rows 2`; lent bytes
abbrev line : List ℕ
line = count_line rows_word (pos 2)

abbrev lent : ℕ → List ℕ
lent n = replicate n 170

pub record Example : Type 0 where
  one : row_text row_one ≡ text_one
  two : row_text row_two ≡ text_two
  both : rows_text (row_one ++ row_two) ≡ text_one ++ text_two
  first : count_line objects_word (pos 3) ≡ ascii "objects 3\n"
  last : count_line rows_word (pos 2) ≡ ascii "rows 2\n"
  refused : count_line refused_word (pos 14) ≡ ascii "refused 14\n"
  many : row_text (pos 0 ∷ pos 1 ∷ pos 2 ∷ pos 0 ∷ pos 0 ∷ pos 0 ∷ pos 0 ∷ pos 0 ∷ pos 7 ∷ pos 0 ∷ []) ≡ ascii "0 1 many 7 0\n"
  tags_last : row_text row_tagged ≡ ascii "3 4 point 0 5 0 6 1 7 12\n"
  none : (rows_text [] ≡ []) × (count_line rows_word (pos 0) ≡ ascii "rows 0\n")
  -- "14: list length not a multiple of" ten, "then 10", which "alone also returns the length needed"
  no_rows : (rows_refusal row_one ≡ pos 0) × (rows_refusal (pos 0 ∷ row_one) ≡ pos 14) × (rows_refusal (row_one ++ row_two) ≡ pos 0)
  room : put_answer (pos 0) line (lent 7) ≡ record { refusal = pos 0; length = 7 }
  no_room : put_answer (pos 0) line (lent 6) ≡ record { refusal = pos 10; length = 7 }
  fourteen_before_ten : put_answer (pos 14) line (lent 6) ≡ record { refusal = pos 14; length = 0 }
  -- "fills from the front and leaves the rest unchanged"
  bytes : (filled (pos 0) line (lent 9) ≡ line ++ lent 2) × (filled (pos 0) line (lent 6) ≡ lent 6) × (filled (pos 14) line (lent 9) ≡ lent 9)

pub example : Example
unfolding digits_to digits numbers row_text rows_to rows_text row_one row_two row_tagged text_one text_two clipped
example = record {
  one = refl;
  two = refl;
  both = refl;
  first = refl;
  last = refl;
  refused = refl;
  many = refl;
  tags_last = refl;
  none = (refl, refl);
  no_rows = (refl, refl, refl);
  room = refl;
  no_room = refl;
  fourteen_before_ten = refl;
  bytes = (refl, refl, refl);
}

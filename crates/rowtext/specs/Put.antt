-- What putting text into lent bytes answers, and how long text can be. Definitions only.
use Rattle.std.specs.Prelude.{ℕ, ◌+◌, ◌*◌, ◌%◌, cond, List, eqb, ℤ, pos, length, Result, Ok, Err}
use Rattle.sheet.specs.Lent.{room_refusal, length_given, clipped}
use Rattle.sheet.specs.Lists.{row_width}
use Rattle.sheet.specs.declared.refusal.Unfilled.{Unfilled}
use Rattle.sheet.specs.Refused.{unfilled_no, needed}
use Rattle.decimal.specs.Decimal.{number_most, field_most}

-- "14: list length not a multiple of" the width of a row
abbrev pub rows_refusal : List ℤ → ℤ
rows_refusal l = cond (eqb (length l % row_width) 0) (pos 0) (pos 14)

-- what a call that puts a text answers, in numbers: 0 and the length of the text, or the number of the refusal. With 10 comes the length needed
pub record Put : Type 0 where
  pub refusal : ℤ
  pub length : ℕ

abbrev pub put_told : Result ℕ Unfilled → Put
put_told (Ok n) = record { refusal = pos 0; length = n }
put_told (Err u) = record { refusal = unfilled_no u; length = needed u }

-- what putting a text into lent bytes answers, where n is the refusal before 10; what it leaves there is `filled` (sheet/specs/Lent). The
-- length is the text's own for a line, and for every list of rows below 2^62 bytes (`line-said`, `rows-said`)
abbrev pub put_answer : ℤ → List ℕ → List ℕ → Put
put_answer n text lent = record { refusal = room_refusal n (length text) (length lent); length = length_given n (clipped (length text)) }

-- ---- how long rows and lines can be

-- i and j, the blank and the word `point`, five numbers, two tags, the newline: 195 bytes, and no row is longer (`row-short`)
abbrev pub row_most : ℕ
row_most = number_most + field_most + 6 + 5 * field_most + 2 * field_most + 1

-- a word of seven letters, a number behind a blank, the newline (`line-short`)
abbrev pub line_most : ℕ
line_most = 7 + field_most + 1

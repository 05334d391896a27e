-- The text that the listing program prints (document 01, "Listing"), as lists of bytes in ASCII. Definitions only; the laws are in TextLaws.
use Rattle.std.specs.Prelude.{ℕ, zero, suc, ◌*◌, ◌/◌, cond, List, [], ◌∷◌, ◌++◌, ℤ, pos, length, get_or, take, drop}
use Rattle.whole.specs.Flag.{eq_z}
use Rattle.sheet.specs.Lists.{share_width, row_width}
use Rattle.decimal.specs.Decimal.{ascii, newline, blank, signed, numbers}

abbrev pub point_word : List ℕ
point_word = ascii "point"

abbrev pub many_word : List ℕ
many_word = ascii "many"

abbrev pub objects_word : List ℕ
objects_word = ascii "objects"

abbrev pub rows_word : List ℕ
rows_word = ascii "rows"

abbrev pub refused_word : List ℕ
refused_word = ascii "refused"

-- ---- rows: i, j, 1 for point or another number for many, the point's five numbers, and the tags of i and j

-- "the word `point` with mx nx my ny w, or the word `many` and nothing more", but the tags behind it
abbrev pub shared_text : List ℤ → List ℕ
shared_text r =
    cond (eq_z (get_or r 2 (pos 0)) (pos 1)) (blank ∷ point_word ++ numbers (take 5 (drop 3 r))) (blank ∷ many_word)

-- "prints them at the end of a row": the two tags (document 02)
abbrev pub tags_text : List ℤ → List ℕ
tags_text r = numbers (take 2 (drop share_width r))

unfoldable pub row_text : List ℤ → List ℕ
row_text r = signed (get_or r 0 (pos 0)) ++ numbers (take 1 (drop 1 r)) ++ shared_text r ++ tags_text r ++ (newline ∷ [])

-- row k of a list of rows
abbrev pub row_at : List ℤ → ℕ → List ℤ
row_at l k = take row_width (drop (k * row_width) l)

-- the first k rows
unfoldable pub rows_to : List ℤ → ℕ → List ℕ
rows_to l zero = []
rows_to l (suc k) = rows_to l k ++ row_text (row_at l k)

abbrev pub rows_of : List ℤ → ℕ
rows_of l = length l / row_width

unfoldable pub rows_text : List ℤ → List ℕ
rows_text l = rows_to l (rows_of l)

-- ---- lines of a word and a number: `objects 3`, `rows 2`, `refused 7`

abbrev pub count_line : List ℕ → ℤ → List ℕ
count_line word z = word ++ (blank ∷ []) ++ signed z ++ (newline ∷ [])

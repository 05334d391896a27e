-- Laws of the printed text. To cite:
--   shared-point, shared-many   what two objects share, by the third number of the row
--   rows_more                   one row more at the end
--   next-row, last-row          the next numbers are row k, and there are so many; where fewer than a row are left, all rows are done
--   row-short, rows_short       a row of i64 numbers is at most row_most bytes long, and k rows k times that
--   count-line                  the line of a word and a count
-- Assumes nothing.
use Rattle.std.specs.Prelude.{◌≡◌, Bool, true, false, cond, List, [], ◌∷◌, ◌++◌, ℕ, zero, suc, ◌+◌, ◌*◌, ◌≤◌, ◌<◌, ℤ, pos, length, take, drop, get_or}
use Rattle.std.proofs.Common.{sym, ap, ◌∙◌, add-one, arith, length-append, length-drop}
use Rattle.std.proofs.lemmas.List.{take_at, drop_at, drop-drop}
use Rattle.whole.specs.Flag.{eq_z}
use Rattle.whole.specs.Tests.{eq-eq_z, ne-eq_z}
use Rattle.sheet.specs.Lists.{share_width, row_width}
use Rattle.decimal.specs.Decimal.{newline, blank, sized, numbers, field_most}
use Rattle.decimal.specs.DecimalLaws.{signed-short, signed-pos, AllFit, fits-drop, fits-take, numbers-short}
use Rattle.rowtext.specs.Text.{point_word, many_word, shared_text, row_at, row_text, rows_to, rows_of, count_line}
use Rattle.rowtext.specs.Put.{row_most}

-- ---- rows

module _ (r : List ℤ) where
  pub shared-point : get_or r 2 (pos 0) ≡ pos 1 → shared_text r ≡ blank ∷ point_word ++ numbers (take 5 (drop 3 r))
  shared-point e = simp (eq-eq_z e)

  pub shared-many : (get_or r 2 (pos 0) ≡ pos 1 → ⊥) → shared_text r ≡ blank ∷ many_word
  shared-many n = simp (ne-eq_z n)

pub rows_more : (l : List ℤ) (k : ℕ) → rows_to l (k + 1) ≡ rows_to l k ++ row_text (row_at l k)
unfolding rows_to
rows_more l k = ap (rows_to l) (add-one k)

-- what is left of a list behind k rows is another row and the rest
pub next-row :
    (l : List ℤ) (k : ℕ) {row rest : List ℤ} → drop (k * row_width) l ≡ row ++ rest → length row ≡ row_width
    → (row ≡ row_at l k) × (rest ≡ drop ((k + 1) * row_width) l) × ((k + 1) * row_width ≤ length l)
next-row l k {row} {rest} e w =
    let more : k * row_width + row_width ≡ (k + 1) * row_width = omega arith in (
      sym (ap (take row_width) e ∙ take_at row rest row_width w),
      sym (ap (λ (n : ℕ). drop n l) (sym more) ∙ sym (drop-drop row_width (k * row_width) l) ∙ ap (drop row_width) e ∙ drop_at row rest row_width w),
      omega (arith, ap length e, length-drop (k * row_width) l, length-append row rest),
    )

-- nothing but a part of a row is left behind k rows
pub last-row : (l : List ℤ) (k : ℕ) → k * row_width ≤ length l → length (drop (k * row_width) l) < row_width → k ≡ rows_of l
last-row l k h m = omega (arith, length-drop (k * row_width) l)

shared-short : {r : List ℤ} → AllFit r → length (shared_text r) ≤ 6 + 5 * field_most
shared-short {r} f = go (eq_z (get_or r 2 (pos 0)) (pos 1)) (numbers-short 5 (fits-drop 3 f))
  where
    go : (t : Bool) → length (numbers (take 5 (drop 3 r))) ≤ 5 * field_most
        → length (cond t (blank ∷ point_word ++ numbers (take 5 (drop 3 r))) (blank ∷ many_word)) ≤ 6 + 5 * field_most
    go true h = omega arith
    go false h = omega arith

pub row-short : {r : List ℤ} → AllFit r → length (row_text r) ≤ row_most
unfolding row_text
row-short {r} f =
    let i = signed-short (get_or r 0 (pos 0)) (f.fit 0) in
    let j = numbers-short 1 (fits-drop 1 f) in
    let shared = shared-short f in
    let tags = numbers-short 2 (fits-drop share_width f) in
    simp length-append (omega arith)

pub rows_short : (l : List ℤ) (k : ℕ) → AllFit l → length (rows_to l k) ≤ k * row_most
unfolding rows_to
rows_short l zero f = omega arith
rows_short l (suc k) f =
    let before = rows_short l k f in
    let row = row-short (fits-take row_width (fits-drop (k * row_width) f)) in
    simp length-append (omega arith)

-- ---- lines

pub count-line : (word : List ℕ) (n : ℕ) → word ++ (blank ∷ []) ++ sized false n ++ (newline ∷ []) ≡ count_line word (pos n)
count-line word n = ap (λ (t : List ℕ). word ++ (blank ∷ []) ++ t ++ (newline ∷ [])) (sym (signed-pos n))

-- Laws of what a call answers and leaves. To cite:
--   end-as       how a call that puts a text ends, with the text in other words
--   told-one     answers that are told by the same numbers are equal
--   put-ends     what such an end answers, and what is in the bytes then
--   clipped-given      a length that is answered is cut at the largest before a refusal makes it 0, or behind: it is the same
--   no_rows, rows_taken   a list that is no list of rows is refused, and one that is is not
--   line-short   how long a line can be, by its number (decimal's count-short, signed-short)
--   line-said, rows-said   the length needed is answered as it is: of a line, and of a list of fewer than 2^59 numbers
-- Assumes nothing.
use Rattle.std.specs.Prelude.{◌≡◌, refl, Bool, true, false, cond, List, ℕ, ◌%◌, ◌^◌, ◌≤◌, ◌<◌, ℤ, pos, length, Result, Ok, Err}
use Rattle.std.proofs.Common.{sym, ap, subst, arith, length-append, eq-eqb, ne_eqb}
use Rattle.whole.specs.Flag.{eq_z}
use Rattle.sheet.specs.Lent.{length_given, filled, clipped}
use Rattle.sheet.specs.LentLaws.{clipped-is}
use Rattle.sheet.specs.Lists.{row_width}
use Rattle.sheet.specs.declared.refusal.Unfilled.{Unfilled}
use Rattle.sheet.specs.RefusedLaws.{unfilled-one, unfilled-zero}
use Rattle.decimal.specs.Decimal.{signed, number_most}
use Rattle.decimal.specs.DecimalLaws.{AllFit}
use Rattle.rowtext.specs.Text.{rows_of, rows_text, count_line}
use Rattle.rowtext.specs.TextLaws.{rows_short}
use Rattle.rowtext.specs.Put.{Put, line_most, rows_refusal, put_told, put_answer}
use Rattle.rowtext.specs.PutEnd.{PutEnd}

pub end-as : {n : ℤ} {text other lent after : List ℕ} {r : Put} → PutEnd n text lent r after → text ≡ other → PutEnd n other lent r after
end-as {n} {text} {other} {lent} {after} {r} e q = subst (λ (t : List ℕ). PutEnd n t lent r after) q e

pub told-one : (r s : Result ℕ Unfilled) → put_told r ≡ put_told s → r ≡ s
told-one (Ok n) (Ok m) e = ap Ok (ap (λ (p : Put). p.length) e)
told-one (Ok n) (Err u) e = absurd (unfilled-zero u (ap (λ (p : Put). p.refusal) (sym e)))
told-one (Err u) (Ok n) e = absurd (unfilled-zero u (ap (λ (p : Put). p.refusal) e))
told-one (Err u) (Err v) e = ap Err (unfilled-one u v (ap (λ (p : Put). p.refusal) e) (ap (λ (p : Put). p.length) e))

pub put-ends : {n : ℤ} {text lent after : List ℕ} {r : Put} → PutEnd n text lent r after → (r ≡ put_answer n text lent) × (after ≡ filled n text lent)
put-ends e = ((λ i. record { refusal = e.refusal i; length = e.given i }), e.cells)

pub clipped-given : (n : ℤ) (size : ℕ) → clipped (length_given n size) ≡ length_given n (clipped size)
clipped-given n size = go (eq_z n (pos 0))
  where
    go : (t : Bool) → clipped (cond t size 0) ≡ cond t (clipped size) 0
    go true = refl
    go false = clipped-is (omega arith)

-- ---- rows

module _ (l : List ℤ) where
  pub no_rows : (length l % row_width ≡ 0 → ⊥) → pos 14 ≡ rows_refusal l
  no_rows n = sym (simp (ne_eqb (length l % row_width) 0 n))

  pub rows_taken : length l % row_width ≡ 0 → rows_refusal l ≡ pos 0
  rows_taken z = simp (eq-eqb (length l % row_width) 0 z)

-- ---- the length needed is answered as it is

-- `objects`, `rows` and `refused` have at most seven letters
pub line-short : (word : List ℕ) (z : ℤ) → length word ≤ 7 → length (signed z) ≤ number_most → length (count_line word z) ≤ line_most
line-short word z h m = simp length-append (omega arith)

pub line-said : (word : List ℕ) (z : ℤ) → length word ≤ 7 → length (signed z) ≤ number_most
    → clipped (length (count_line word z)) ≡ length (count_line word z)
line-said word z h m = clipped-is (omega (arith, line-short word z h m))

-- a list of 2^59 numbers is 2^62 bytes long
pub rows-said : (l : List ℤ) → AllFit l → length l < 2 ^ 59 → clipped (length (rows_text l)) ≡ length (rows_text l)
unfolding rows_text
rows-said l f h = clipped-is (omega (arith, rows_short l (rows_of l) f))

-- "A coordinate or count of three groups now meets 2 or 11 where it met 8, and a kind or side number meets 1 or 4" (document 02): every number that
-- two groups do not hold, whatever stands behind it. To cite:
--   coordinate-meets, count_meets, kind_meets, side-meets   each in its place
-- Assumes nothing.
use Rattle.std.specs.Prelude.{◌≡◌, false, List, ◌++◌, ℕ, ◌<◌, ◌≤◌, ℤ, pos}
use Rattle.std.proofs.Common.{arith}
use borrow.Author.Tests.{lt-ltb}
use Rattle.sheet.specs.Limits.{most}
use Rattle.sheet.specs.Refusal.{beyond}
use Rattle.number.specs.Number.{limit, number_limit, write_number, no}
use Rattle.number.proofs.TripLaws.{number-back}
use Rattle.store.specs.declared.Form.{Form}
use Rattle.store.specs.Stored.{read_coordinate, read_side, read_object, read_count}
use Rattle.store.proofs.LongestLaws.{large-beyond, large-outside}

module _ (n : ℕ) (three : limit 2 ≤ n) (stored : n < number_limit) (rest : List ℕ) where
  pub coordinate-meets : (start : ℤ) → beyond start ≡ false → read_coordinate start (write_number n ++ rest) ≡ no (pos 2)
  unfolding read_coordinate
  coordinate-meets start h = simp (number-back n rest stored, large-beyond start h n three)

  pub count_meets : read_count (write_number n ++ rest) ≡ no (pos 11)
  unfolding read_count
  count_meets = simp (number-back n rest stored, lt-ltb most n (omega arith))

  pub kind_meets : (f : Form) → read_object f (write_number n ++ rest) ≡ no (pos 1)
  unfolding read_object
  kind_meets f = simp (number-back n rest stored, large-outside 1 4 n (omega arith))

  pub side-meets : (tag : ℤ) → read_side tag (write_number n ++ rest) ≡ no (pos 4)
  unfolding read_side
  side-meets tag = simp (number-back n rest stored, large-outside 1 4 n (omega arith))

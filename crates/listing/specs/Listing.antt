-- What a listing answers, refused calls too: "A list: 14, 11, each object in turn, .. then 10". What it leaves in the lent list is `filled`
-- (sheet/specs/Lent) with its rows.
use Rattle.std.specs.Prelude.{List, ℕ, ◌*◌, ℤ, pos, Result, Ok, Err}
use Rattle.whole.specs.Choice.{or_else}
use Rattle.sheet.specs.Lent.{room_refusal, other_number, length_given}
use Rattle.sheet.specs.Lists.{row_width, list_refusal, index_refusal}
use Rattle.sheet.specs.declared.refusal.Unfilled.{Unfilled}
use Rattle.sheet.specs.Refused.{unfilled_no, needed}
use Rattle.listing.specs.declared.Listed.{Listed}

-- the rows of one object: the list's own, then 13, then 10
abbrev pub one_refusal : List ℤ → ℕ → ℤ
one_refusal l i = or_else (list_refusal l) (index_refusal l i)

-- what a listing answers, in numbers: 0, how many rows, and how many numbers they are; or the number of the refusal with 0 and 0, 10 with the
-- length needed
pub record ListedTold : Type 0 where
  pub refusal : ℤ
  pub rows : ℕ
  pub length : ℕ

abbrev pub listed_told : Result Listed Unfilled → ListedTold
listed_told (Ok l) = record { refusal = pos 0; rows = l.rows; length = l.length }
listed_told (Err u) = record { refusal = unfilled_no u; rows = 0; length = needed u }

-- the answer where r is the refusal before 10, there are n rows, and the lent list has room for so many numbers
abbrev pub listed : ℤ → ℕ → ℕ → ListedTold
listed r n room =
    record {
      refusal = room_refusal r (n * row_width) room;
      rows = other_number (room_refusal r (n * row_width) room) n;
      length = length_given r (n * row_width);
    }

-- What the inner functions of the code ask and say of the pairs of a list that is not refused: their rows, how many there are, how they end.
use Rattle.std.specs.Prelude.{Bool, cond, List, ℕ, ◌-◌, ◌*◌, ◌/◌, ◌≤◌, ◌<◌, ltb, ℤ, pos, length, Result, Ok, Err}
use Rattle.whole.specs.InTurn.{all_between}
use Rattle.sheet.specs.declared.refusal.Unfilled.{Unfilled}
use Rattle.sheet.specs.declared.refusal.Unfilled.TheVariants as unfilled
use Rattle.sheet.specs.LentLaws.{End}
use Rattle.sheet.specs.Lists.{row_width, count_of}
use Rattle.sheet.specs.Listable.{Listable}
use Rattle.listing.specs.Listing.{ListedTold}
use Rattle.listing.specs.Rows.{rows_with}

-- two objects of it
pub record Pair (l : List ℤ) (i j : ℕ) : Type 0 where
  pub list : Listable l
  pub one : i < count_of l
  pub two : j < count_of l

-- the rows of the objects from one on before another, each with all later ones
abbrev pub rows_between : Bool → List ℤ → ℕ → ℕ → List ℤ
rows_between joints l from to = all_between (λ i. rows_with joints l i) from to

pub record Section (l : List ℤ) (from to : ℕ) : Type 0 where
  pub list : Listable l
  pub order : from ≤ to
  pub end : to ≤ count_of l

-- the pairs of n objects
abbrev pub pairs_of : ℕ → ℕ
pairs_of n = (n * n - n) / 2

-- the length that is needed where the lent list is too short
abbrev pub room_for : ℕ → ℕ → Result Unit Unfilled
room_for size room = cond (ltb room size) (Err (unfilled.NoRoom size)) (Ok tt)

-- how their listing ends
abbrev pub Listing : List ℤ → List ℤ → ListedTold → List ℤ → Type 0
Listing rows lent a after = End (pos 0) rows lent (length rows) (length rows / row_width) a.refusal a.length a.rows after

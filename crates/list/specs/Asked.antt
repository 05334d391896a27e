-- What the program asks a listing for (document 02, R-8): "The listing program .. count joints, so both must ask from now on";
-- and what it tells of an input. Definitions only.
use Rattle.std.specs.Prelude.{Bool, true, min, List, ℕ, ◌≡◌, ◌⊎◌, ◌-◌, ◌*◌, ℤ}
use Rattle.sheet.specs.Limits.{most}
use Rattle.sheet.specs.Lists.{row_width}
use Rattle.store.specs.Stored.{read_drawing}
use Rattle.stream.specs.declared.status.Status.{Status}
use Rattle.stream.specs.declared.status.Status.TheVariants.{Unread, Unwritten}
use Rattle.stream.specs.Status.{MayTell}
use Rattle.listing.specs.Rows.{sharing_with}
use Rattle.listing.specs.Listing.{one_refusal, listed}

-- a number, but no more than the most objects
abbrev pub of_most : ℕ → ℕ
of_most n = min n most

-- how many rows object i has with all later ones, joints among them
abbrev pub rows_asked : List ℤ → ℕ → ℕ
rows_asked l i = (listed (one_refusal l i) (sharing_with true l i) ((most - 1) * row_width)).rows

-- what is told of an input: that it could not be read, or what is told of a drawing of all its bytes
abbrev pub ListsInput : Status → List ℕ → Type 0
ListsInput status input = (status ≡ Unread) ⊎ MayTell (read_drawing input).refusal status

-- what may be told once the output stands so: that something did not go, or else all that was handed on went
abbrev pub ToldOfAll : Status → Bool → Type 0
ToldOfAll status whole = (status ≡ Unwritten) ⊎ (whole ≡ true)

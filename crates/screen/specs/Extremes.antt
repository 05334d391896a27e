-- What the inner functions of the code say of the lowest and the highest x and y of the places so far.
use Rattle.std.specs.Prelude.{false, true, List, [], ◌∷◌, ℕ, Option, Some, None}
use Rattle.whole.specs.Within.{Within}
use Rattle.sheet.specs.Figure.{Vec}
use Rattle.screen.specs.declared.SheetBox.{SheetBox}
use Rattle.screen.specs.declared.boxes.Extremes.{Extremes}
use Rattle.screen.specs.Quotient.{float}
use Rattle.screen.specs.Boxes.{farther}

-- of one place
abbrev pub extremes_at : Vec → Extremes
extremes_at v = record { low_x = v.x; low_y = v.y; high_x = v.x; high_y = v.y }

-- with one more
abbrev pub extremes_with : Extremes → Vec → Extremes
extremes_with e v = record {
  low_x = farther false e.low_x v.x;
  low_y = farther false e.low_y v.y;
  high_x = farther true e.high_x v.x;
  high_y = farther true e.high_y v.y;
}

-- of none and one more, or of some and one more
abbrev pub with_end : Option Extremes → Vec → Option Extremes
with_end None v = Some (extremes_at v)
with_end (Some e) v = Some (extremes_with e v)

-- and so with each of some places
unfoldable pub with_ends : Option Extremes → List Vec → Option Extremes
with_ends e [] = e
with_ends e (v ∷ vs) = with_ends (with_end e v) vs

-- all four are at most k in size
pub record AllWithin (k : ℕ) (e : Extremes) : Type 0 where
  pub low_x : Within k e.low_x
  pub low_y : Within k e.low_y
  pub high_x : Within k e.high_x
  pub high_y : Within k e.high_y

abbrev pub box_around : Extremes → SheetBox
box_around e = record { low = record { x = float e.low_x; y = float e.low_y }; high = record { x = float e.high_x; y = float e.high_y } }

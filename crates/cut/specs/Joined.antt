-- Joints at R (document 02, R-8): two cut pieces share one place, and it is the first or the last of both in their directions.
use Rattle.std.specs.Prelude.{ℤ}
use Rattle.sheet.specs.declared.Object.{Object}
use Rattle.sheet.specs.Figure.{figure}
use Rattle.cut.specs.Place.{Place, spot}
use Rattle.cut.specs.Cut.{Upto, Lies, OnlyShared}
use Rattle.cut.specs.Ordinary.{way}

-- "an end": P is on the piece of o, and no place of it is before P, or none is beyond
pub data EndPlace (R : ℤ) (o : Object) (P : Place) : Type 0 where
  is_first : Lies R o P → ((Q : Place) → Lies R o Q → Upto (way (figure o)) (spot P) (spot Q)) → EndPlace R o P
  is_last : Lies R o P → ((Q : Place) → Lies R o Q → Upto (way (figure o)) (spot Q) (spot P)) → EndPlace R o P

-- a "single common point" that "is an end of both objects"
pub record Joined (R : ℤ) (a b : Object) : Type 0 where
  pub place : Place
  pub only : OnlyShared R a b place
  pub end_of_first : EndPlace R a place
  pub end_of_second : EndPlace R b place

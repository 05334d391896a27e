-- Listings, worked out by document 01's words and document 02's: its own example, the ten numbers of every kind of row, their order, and what
-- is answered where a call is refused. A definition that says something else is refused here, whatever the code does.
use Rattle.std.specs.Prelude.{◌≡◌, refl, true, false, List, [], ◌∷◌, ◌++◌, ℕ, ℤ, pos, replicate}
use Rattle.whole.specs.Sign.{sgn}
use Rattle.whole.specs.Divisor.{steps, gcd, gcd_of}
use Rattle.sheet.specs.Figure.{side_of, figure_of}
use Rattle.sheet.specs.Refusal.{pair_refusal, side_refusal, object_refusal}
use Rattle.sheet.specs.Points.{divided}
use Rattle.sheet.specs.Ends.{far_raw, far_end}
use Rattle.sheet.specs.Crossing.{stretches, with_side, with_stretch, meeting, crossing_of}
use Rattle.sheet.specs.Joint.{joint, kept}
use Rattle.sheet.specs.Answers.{object_numbers}
use Rattle.sheet.specs.Lent.{filled}
use Rattle.sheet.specs.Lists.{list_refusal}
use Rattle.sheet.specs.Tags.{tagged}
use Rattle.sheet.specs.Cases.{minus, object, segment, ray, line, side}
use Rattle.whole.specs.InTurn.{in_turn}
use Rattle.listing.specs.Rows.{meeting_of, rows_with, rows_of, sharing_with, sharing}
use Rattle.listing.specs.Listing.{one_refusal, listed}

-- a line from (0,0) toward (2,1), a segment from (0,2) to (2,0) and side 3, each with its tag
abbrev objects : List ℤ
objects =
    pos 3 ∷ pos 0 ∷ pos 0 ∷ pos 2 ∷ pos 1 ∷ pos 0
    ∷ pos 1 ∷ pos 0 ∷ pos 2 ∷ pos 2 ∷ pos 0 ∷ pos 0
    ∷ pos 4 ∷ pos 3 ∷ pos 0 ∷ pos 0 ∷ pos 0 ∷ pos 0 ∷ []

pub record WorkedListing : Type 0 where
  not_refused : list_refusal objects ≡ pos 0
  -- "0 1 point 0 4 0 2 3", "0 2 point 2 0 1 0 2", each with its two tags
  two-rows :
      rows_of true objects
      ≡ pos 0 ∷ pos 1 ∷ pos 1 ∷ pos 0 ∷ pos 4 ∷ pos 0 ∷ pos 2 ∷ pos 3 ∷ pos 0 ∷ pos 0
      ∷ pos 0 ∷ pos 2 ∷ pos 1 ∷ pos 2 ∷ pos 0 ∷ pos 1 ∷ pos 0 ∷ pos 2 ∷ pos 0 ∷ pos 0 ∷ []
  -- "rows 2"
  two_pairs : sharing true objects ≡ 2
  -- "The worked listing in document 01 keeps both its rows: neither is a joint."
  neither_left_out : (rows_of false objects ≡ rows_of true objects) × (sharing false objects ≡ 2)

pub worked-listing : WorkedListing
unfolding in_turn list_refusal meeting_of kept joint pair_refusal side_refusal object_refusal stretches with_side with_stretch meeting crossing_of sgn steps gcd gcd_of side_of figure_of divided far_raw far_end
worked-listing = record {
  not_refused = refl;
  two-rows = refl;
  two_pairs = refl;
  neither_left_out = (refl, refl);
}

-- ---- rows and answers

-- segments along one line, from (0,0) to (4,0) and back from (6,0) to (2,0), and a ray from (3,0) upward, of three layers: every two share
-- something
abbrev three : List ℤ
three =
    object_numbers (tagged (pos 7) (segment (pos 0) (pos 0) (pos 4) (pos 0)))
    ++ object_numbers (tagged (pos 2000000) (segment (pos 6) (pos 0) (pos 2) (pos 0)))
    ++ object_numbers (tagged (pos 8) (ray (pos 3) (pos 0) (pos 3) (pos 1)))

-- "i, j, 1 for point or 2 for many, and the five numbers (0 for many)", "the tags of i and j"
abbrev many_row : ℤ → ℤ → List ℤ
many_row t u = pos 0 ∷ pos 1 ∷ pos 2 ∷ pos 0 ∷ pos 0 ∷ pos 0 ∷ pos 0 ∷ pos 0 ∷ t ∷ u ∷ []

abbrev point_row : ℤ → ℤ → ℤ → ℤ → List ℤ
point_row i j t u = i ∷ j ∷ pos 1 ∷ pos 0 ∷ pos 3 ∷ pos 0 ∷ pos 0 ∷ pos 1 ∷ t ∷ u ∷ []

-- its rows: of the first two, of the first with the third, of the second with the third
abbrev one : List ℤ
one = many_row (pos 7) (pos 2000000)

abbrev two : List ℤ
two = point_row (pos 0) (pos 2) (pos 7) (pos 8)

abbrev last : List ℤ
last = point_row (pos 1) (pos 2) (pos 2000000) (pos 8)

-- segments from (0,0) to (6,0), from there to (6,4), and from (3,0) to (3,4)
abbrev angle : List ℤ
angle =
    object_numbers (segment (pos 0) (pos 0) (pos 6) (pos 0))
    ++ object_numbers (segment (pos 6) (pos 0) (pos 6) (pos 4))
    ++ object_numbers (segment (pos 3) (pos 0) (pos 3) (pos 4))

-- its rows: the joint, and the touch in the middle
abbrev hinge : List ℤ
hinge = pos 0 ∷ pos 1 ∷ pos 1 ∷ pos 0 ∷ pos 6 ∷ pos 0 ∷ pos 0 ∷ pos 1 ∷ pos 0 ∷ pos 0 ∷ []

abbrev foot : List ℤ
foot = point_row (pos 0) (pos 2) (pos 0) (pos 0)

-- kind 5; and 2,001
abbrev no_kind : List ℤ
no_kind = object_numbers (object (pos 5) (pos 0) (pos 0) (pos 1) (pos 1))

abbrev too_far : List ℤ
too_far = object_numbers (line (pos 0) (minus 2001) (pos 0) (pos 0))

abbrev lent : ℕ → List ℤ
lent n = replicate n (pos 77)

pub record WorkedListed : Type 0 where
  -- "All pairs i < j, by i and then j, that share something."
  by_i_and_then_j : rows_of true three ≡ one ++ two ++ last
  many-row : rows_with true (object_numbers (side (pos 4)) ++ object_numbers (side (pos 4))) 0 ≡ many_row (pos 0) (pos 0)
  nothing_shared : (rows_of true (object_numbers (side (pos 1)) ++ object_numbers (side (pos 3))) ≡ []) × (rows_of true [] ≡ [])
  -- one object with all later ones
  rows_of_one : (rows_with true three 0 ≡ one ++ two) × (rows_with true three 1 ≡ last) × (rows_with true three 2 ≡ [])
  pairs : (sharing true three ≡ 3) × (sharing_with true three 0 ≡ 2) × (sharing_with true three 1 ≡ 1) × (sharing_with true three 2 ≡ 0)
  -- "left out of rows unless the caller asks for joints": of an angle and a segment that stands in its middle, and of two sides
  joints_asked_for : (rows_of true angle ≡ hinge ++ foot) × (sharing true angle ≡ 2) × (sharing_with true angle 0 ≡ 2)
  joints_left_out :
      (rows_of false angle ≡ foot) × (rows_with false angle 0 ≡ foot) × (rows_with false angle 1 ≡ [])
      × (sharing false angle ≡ 1) × (sharing_with false angle 0 ≡ 1)
  corner_left_out : rows_of false (object_numbers (side (pos 1)) ++ object_numbers (side (pos 2))) ≡ []
  many_stays : rows_of false (object_numbers (side (pos 4)) ++ object_numbers (side (pos 4))) ≡ many_row (pos 0) (pos 0)
  -- in lengths and cells too: room for one row is enough
  joints-take-no-room :
      (listed (list_refusal angle) (sharing false angle) 10 ≡ record { refusal = pos 0; rows = 1; length = 10 })
      × (listed (list_refusal angle) (sharing true angle) 10 ≡ record { refusal = pos 10; rows = 0; length = 20 })
      × (filled (list_refusal angle) (rows_of false angle) (lent 12) ≡ foot ++ lent 2)
  -- "A list: 14, 11, each object in turn, .. then 10."
  in-turn : (list_refusal (no_kind ++ too_far) ≡ pos 1) × (list_refusal (too_far ++ no_kind) ≡ pos 2)
  eleven_before_objects : list_refusal (too_far ++ lent 3072) ≡ pos 11
  fourteen_before_eleven : list_refusal (too_far ++ lent 3073) ≡ pos 14
  -- of one object: the list's own, then 13
  index : (one_refusal three 2 ≡ pos 0) × (one_refusal three 3 ≡ pos 13) × (one_refusal (no_kind ++ too_far) 9 ≡ pos 1)
  -- the number, how many rows, and the length: "A refused call returns its number with every other number 0 .. Refusal 10 alone also
  -- returns the length needed."
  room_for_all : listed (pos 0) 2 20 ≡ record { refusal = pos 0; rows = 2; length = 20 }
  no_room : listed (pos 0) 2 19 ≡ record { refusal = pos 10; rows = 0; length = 20 }
  own-before-ten :
      (listed (pos 14) 2 19 ≡ record { refusal = pos 14; rows = 0; length = 0 })
      × (listed (pos 1) 2 99 ≡ record { refusal = pos 1; rows = 0; length = 0 })
  no_rows : listed (pos 0) 0 0 ≡ record { refusal = pos 0; rows = 0; length = 0 }
  -- "Rows stand at the front of the lent list."
  at_the_front : filled (list_refusal three) (rows_of true three) (lent 32) ≡ rows_of true three ++ lent 2
  unchanged : (filled (list_refusal three) (rows_of true three) (lent 29) ≡ lent 29) × (filled (list_refusal too_far) (rows_of true too_far) (lent 32) ≡ lent 32)

pub worked-listed : WorkedListed
unfolding in_turn list_refusal meeting_of kept joint pair_refusal side_refusal object_refusal stretches with_side with_stretch meeting crossing_of sgn steps gcd gcd_of side_of figure_of divided far_raw far_end
worked-listed = record {
  by_i_and_then_j = refl;
  many-row = refl;
  nothing_shared = (refl, refl);
  rows_of_one = (refl, refl, refl);
  pairs = (refl, refl, refl, refl);
  joints_asked_for = (refl, refl, refl);
  joints_left_out = (refl, refl, refl, refl, refl);
  corner_left_out = refl;
  many_stays = refl;
  joints-take-no-room = (refl, refl, refl);
  in-turn = (refl, refl);
  eleven_before_objects = refl;
  fourteen_before_eleven = refl;
  index = (refl, refl, refl);
  room_for_all = refl;
  no_room = refl;
  own-before-ten = (refl, refl);
  no_rows = refl;
  at_the_front = refl;
  unchanged = (refl, refl);
}

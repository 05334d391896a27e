-- The viewer's calls, worked out by document 01's words. A definition that says something else is refused here, whatever the code does.
use Rattle.std.specs.Prelude.{◌≡◌, refl, List, [], ◌∷◌, ℕ, pos}
use Rattle.whole.specs.Sign.{sgn}
use Rattle.sheet.specs.Figure.{side_of, figure_of}
use Rattle.sheet.specs.Signs.{turn_poly, turn, side_sign}
use Rattle.sheet.specs.Cases.{minus}
use Rattle.store.specs.Forms.{read_tag}
use Rattle.store.specs.Stored.{read_coordinate, read_side, read_point, read_to, read_pair, read_shape, read_object, read_objects, read_form, read_count, read_head, read_drawing}
use Rattle.number.specs.Number.{value_of, needless, read_groups}
use Rattle.viewer.specs.Calls.{check_answer, side_in, side_answer}

-- `03 03 00 00 04 02 01 00 04 04 00 04 03`: a line from (0,0) toward (2,1), a segment from (0,2) to (2,0) and side 3
abbrev drawing : List ℕ
drawing = 3 ∷ 3 ∷ 0 ∷ 0 ∷ 4 ∷ 2 ∷ 1 ∷ 0 ∷ 4 ∷ 4 ∷ 0 ∷ 4 ∷ 3 ∷ []

-- the same in the new form, with tags 1, 2 and 3; and side 1 of tag 2,000,001
abbrev new_drawing : List ℕ
new_drawing = 232 ∷ 7 ∷ 3 ∷ 3 ∷ 1 ∷ 0 ∷ 0 ∷ 4 ∷ 2 ∷ 1 ∷ 2 ∷ 0 ∷ 4 ∷ 4 ∷ 3 ∷ 4 ∷ 3 ∷ 3 ∷ []

abbrev no_tag : List ℕ
no_tag = 232 ∷ 7 ∷ 1 ∷ 4 ∷ 129 ∷ 137 ∷ 122 ∷ 1 ∷ []

-- p equals q
abbrev damaged : List ℕ
damaged = 1 ∷ 1 ∷ 2 ∷ 2 ∷ 2 ∷ 2 ∷ []

pub record WorkedCalls : Type 0 where
  -- "check these stored bytes (0 or the refusal)"
  checks : (check_answer drawing ≡ pos 0) × (check_answer damaged ≡ pos 3) × (check_answer [] ≡ pos 7) × (check_answer (0 ∷ 0 ∷ []) ≡ pos 9)
  -- "give the side of object i for whole x, y. The second answers -1, 0, 1": left of the line, on it, right of it
  signs :
      (side_answer drawing (pos 0) (pos 0) (pos 1) ≡ pos 1) × (side_answer drawing (pos 0) (pos 4) (pos 2) ≡ pos 0)
      × (side_answer drawing (pos 0) (pos 1) (pos 0) ≡ minus 1)
  of-each :
      (side_answer drawing (pos 1) (pos 0) (pos 0) ≡ minus 1) × (side_answer drawing (pos 1) (pos 3) (pos 0) ≡ pos 1)
      × (side_answer drawing (pos 2) (pos 0) (pos 0) ≡ pos 1)
  -- ".. or 100 plus the refusal": "13: object index below 0 or not below the count", "2: a coordinate beyond 2,000 either way"
  bytes_own : (side_answer damaged (pos 0) (pos 0) (pos 0) ≡ pos 103) × (side_answer [] (pos 0) (pos 0) (pos 0) ≡ pos 107)
  index :
      (side_answer drawing (pos 3) (pos 0) (pos 0) ≡ pos 113) × (side_answer drawing (minus 1) (pos 0) (pos 0) ≡ pos 113)
      × (side_answer (0 ∷ []) (pos 0) (pos 0) (pos 0) ≡ pos 113)
  beyond :
      (side_answer drawing (pos 2) (pos 2001) (pos 0) ≡ pos 102) × (side_answer drawing (pos 2) (minus 2001) (pos 0) ≡ pos 102)
      × (side_answer drawing (pos 2) (pos 0) (pos 2001) ≡ pos 102) × (side_answer drawing (pos 2) (pos 0) (minus 2001) ≡ pos 102)
  at_the_limit : (side_answer drawing (pos 2) (pos 2000) (minus 2000) ≡ pos 1) × (side_answer drawing (pos 2) (minus 2000) (pos 2000) ≡ pos 1)
  -- "the bytes' own, then 13, then 2"
  bytes_before_index : side_answer damaged (pos 9) (pos 2001) (pos 0) ≡ pos 103
  index_before_place : (side_answer drawing (pos 3) (pos 2001) (pos 0) ≡ pos 113) × (side_answer drawing (minus 1) (pos 0) (minus 2001) ≡ pos 113)
  -- "The reader takes either form"
  either-form :
      (check_answer new_drawing ≡ pos 0) × (side_answer new_drawing (pos 0) (pos 0) (pos 1) ≡ pos 1) × (side_answer new_drawing (pos 1) (pos 0) (pos 0) ≡ minus 1)
      × (side_answer new_drawing (pos 2) (pos 0) (pos 0) ≡ pos 1) × (side_answer new_drawing (pos 3) (pos 0) (pos 0) ≡ pos 113)
  tag_refused : (check_answer no_tag ≡ pos 15) × (side_answer no_tag (pos 9) (pos 2001) (pos 0) ≡ pos 115)

pub worked-calls : WorkedCalls
unfolding sgn side_of figure_of turn_poly turn side_sign value_of needless read_groups read_coordinate read_side read_point read_to read_pair read_tag read_shape read_object read_objects read_form read_count read_head read_drawing side_in
worked-calls = record {
  checks = (refl, refl, refl, refl);
  signs = (refl, refl, refl);
  of-each = (refl, refl, refl);
  bytes_own = (refl, refl);
  index = (refl, refl, refl);
  beyond = (refl, refl, refl, refl);
  at_the_limit = (refl, refl);
  bytes_before_index = refl;
  index_before_place = (refl, refl);
  either-form = (refl, refl, refl, refl, refl);
  tag_refused = (refl, refl);
}

-- Calls of the reader, one after another, worked out by document 01's words. A definition that says something else is refused here, whatever
-- the code does.
use Rattle.std.specs.Prelude.{◌≡◌, refl, true, List, [], ◌∷◌, map, ℕ, pos}
use Rattle.sheet.specs.Cases.{side}
use Rattle.sheet.specs.Tags.{tagged}
use Rattle.store.specs.declared.Form.TheVariants.{Old, New}
use Rattle.store.specs.declared.Bookmark.{Bookmark}
use Rattle.store.specs.Reader.{Item, One, End, Refused}
use Rattle.number.specs.Number.{value_of, needless, read_groups}
use Rattle.store.specs.Forms.{read_tag}
use Rattle.store.specs.Stored.{read_coordinate, read_side, read_point, read_to, read_pair, read_shape, read_object, read_objects, read_form, read_count, read_head, read_drawing}
use Rattle.store.specs.Reader.{start_place, step_to, step_from, step_of, call_from, item_of, item_says}

-- what the first four calls give
abbrev four_calls : List ℕ → List Item
four_calls bytes = map (call_from bytes start_place) (0 ∷ 1 ∷ 2 ∷ 3 ∷ [])

-- sides 1 and 2; where the reader is after both
abbrev two_sides : List ℕ
two_sides = 2 ∷ 4 ∷ 1 ∷ 4 ∷ 2 ∷ []

abbrev new_sides : List ℕ
new_sides = 232 ∷ 7 ∷ 2 ∷ 4 ∷ 0 ∷ 1 ∷ 4 ∷ 7 ∷ 2 ∷ []

abbrev after_both : Bookmark
after_both = record { begun = true; form = Old; left = 0; at = 5 }

pub record WorkedReader : Type 0 where
  -- "gives one object per call. Opening it never refuses; its first call also reads the count. After the last it says end"
  one_a_call : four_calls two_sides ≡ One (side (pos 1)) ∷ One (side (pos 2)) ∷ End ∷ End ∷ []
  none_at_all : four_calls (0 ∷ []) ≡ End ∷ End ∷ End ∷ End ∷ []
  -- ".. or 9 if bytes remain"
  bytes-remain :
      four_calls (2 ∷ 4 ∷ 1 ∷ 4 ∷ 2 ∷ 0 ∷ []) ≡ One (side (pos 1)) ∷ One (side (pos 2)) ∷ Refused (pos 9) ∷ Refused (pos 9) ∷ []
  bytes_after_none : four_calls (0 ∷ 7 ∷ []) ≡ Refused (pos 9) ∷ Refused (pos 9) ∷ Refused (pos 9) ∷ Refused (pos 9) ∷ []
  -- "end and refusal keep its place, so the next call says the same"
  refused-again :
      four_calls (3 ∷ 4 ∷ 1 ∷ 4 ∷ 5 ∷ 4 ∷ 2 ∷ []) ≡ One (side (pos 1)) ∷ Refused (pos 4) ∷ Refused (pos 4) ∷ Refused (pos 4) ∷ []
  no_count : four_calls [] ≡ Refused (pos 7) ∷ Refused (pos 7) ∷ Refused (pos 7) ∷ Refused (pos 7) ∷ []
  too_large_a_count : four_calls (129 ∷ 4 ∷ []) ≡ Refused (pos 11) ∷ Refused (pos 11) ∷ Refused (pos 11) ∷ Refused (pos 11) ∷ []
  places :
      ((step_of two_sides start_place).place ≡ record { begun = true; form = Old; left = 1; at = 3 })
      × ((step_of two_sides (record { begun = true; form = Old; left = 1; at = 3 })).place ≡ after_both) × ((step_of two_sides after_both).place ≡ after_both)
  place_kept : ((step_of [] start_place).place ≡ start_place) × ((step_of (0 ∷ []) start_place).place ≡ start_place)
  -- "The reader takes either form": sides 1 and 2 of tags 0 and 7 in the new form; at a refusal in it, and where the head ends, the place is kept
  new-form :
      (four_calls new_sides ≡ One (side (pos 1)) ∷ One (tagged (pos 7) (side (pos 2))) ∷ End ∷ End ∷ [])
      × (four_calls (232 ∷ 7 ∷ 2 ∷ 4 ∷ 0 ∷ 1 ∷ 4 ∷ 7 ∷ 5 ∷ []) ≡ One (side (pos 1)) ∷ Refused (pos 4) ∷ Refused (pos 4) ∷ Refused (pos 4) ∷ [])
      × (four_calls (232 ∷ 7 ∷ []) ≡ Refused (pos 7) ∷ Refused (pos 7) ∷ Refused (pos 7) ∷ Refused (pos 7) ∷ [])
  new-places :
      ((step_of new_sides start_place).place ≡ record { begun = true; form = New; left = 1; at = 6 })
      × ((step_of (232 ∷ 7 ∷ 1 ∷ 9 ∷ []) start_place).place ≡ start_place)
      × (step_of new_sides (record { begun = true; form = New; left = 0; at = 8 }) ≡ step_to (Refused (pos 9)) (record { begun = true; form = New; left = 0; at = 8 }))
  -- a drawing's objects in order, then its end or its refusal
  items :
      (map (item_of (read_drawing two_sides)) (0 ∷ 1 ∷ 2 ∷ 3 ∷ []) ≡ One (side (pos 1)) ∷ One (side (pos 2)) ∷ End ∷ End ∷ [])
      × (map (item_of (read_drawing (2 ∷ 4 ∷ 1 ∷ 4 ∷ 5 ∷ []))) (0 ∷ 1 ∷ 2 ∷ []) ≡ One (side (pos 1)) ∷ Refused (pos 4) ∷ Refused (pos 4) ∷ [])
  -- an object is told by 0 and its numbers, a refusal by its own alone
  said :
      (item_says (One (side (pos 3))) ≡ pos 0 ∷ pos 4 ∷ pos 3 ∷ pos 0 ∷ pos 0 ∷ pos 0 ∷ pos 0 ∷ []) × (item_says End ≡ [])
      × (item_says (Refused (pos 9)) ≡ pos 9 ∷ [])

pub worked-reader : WorkedReader
unfolding value_of needless read_groups read_coordinate read_side read_point read_to read_pair read_tag read_shape read_object read_objects read_form read_count read_head read_drawing step_from step_of call_from item_of
worked-reader = record {
  one_a_call = refl;
  none_at_all = refl;
  bytes-remain = refl;
  bytes_after_none = refl;
  refused-again = refl;
  no_count = refl;
  too_large_a_count = refl;
  places = (refl, refl, refl);
  place_kept = (refl, refl);
  new-form = (refl, refl, refl);
  new-places = (refl, refl, refl);
  items = (refl, refl);
  said = (refl, refl, refl);
}

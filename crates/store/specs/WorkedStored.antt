-- Stored objects and drawings of document 01's form, worked out byte by byte by the documents' rules, with the refusal first met where two or
-- more would do. A definition that says something else is refused here, whatever the code does.
use Rattle.std.specs.Prelude.{◌≡◌, refl, List, [], ◌∷◌, ◌++◌, ℕ, ℤ, pos, replicate}
use Rattle.whole.specs.InTurn.{in_turn}
use Rattle.sheet.specs.Answers.{object_numbers}
use Rattle.sheet.specs.Refusal.{side_refusal, pair_refusal, object_refusal}
use Rattle.sheet.specs.Lists.{list_refusal}
use Rattle.sheet.specs.Tags.{tagged}
use Rattle.sheet.specs.Cases.{minus, object, segment, ray, side}
use Rattle.number.specs.Number.{got, groups_of, bytes_of, value_of, needless, read_groups}
use Rattle.store.specs.declared.Form.TheVariants.{Old}
use Rattle.store.specs.Forms.{write_mark, write_tag, read_tag}
use Rattle.store.specs.Stored.{write_shape, write_object, write_drawing, tags_refusal, write_refusal, read_coordinate, read_side, read_point, read_to, read_pair, read_shape, read_object, read_objects, read_form, read_count, read_head, read_drawing}
use Rattle.store.specs.Answers.{read_answer, read_into, write_answer, write_into}

-- the refusal of some bytes, and that of one object's bytes
abbrev refusal : List ℕ → ℤ
refusal bytes = (read_drawing bytes).refusal

abbrev of_one : List ℕ → ℤ
of_one bytes = refusal (1 ∷ bytes)

-- lent cells
abbrev lent : ℕ → List ℤ
lent n = replicate n (pos 77)

abbrev lent_bytes : ℕ → List ℕ
lent_bytes n = replicate n 170

-- sides 1 and 2, as bytes and as numbers
abbrev two_sides : List ℕ
two_sides = 2 ∷ 4 ∷ 1 ∷ 4 ∷ 2 ∷ []

abbrev their_numbers : List ℤ
their_numbers = pos 4 ∷ pos 1 ∷ pos 0 ∷ pos 0 ∷ pos 0 ∷ pos 0 ∷ pos 4 ∷ pos 2 ∷ pos 0 ∷ pos 0 ∷ pos 0 ∷ pos 0 ∷ []

-- side 1, and side 2 with a tag
abbrev one_tagged : List ℤ
one_tagged = object_numbers (side (pos 1)) ++ object_numbers (tagged (pos 1) (side (pos 2)))

-- refused by 15
abbrev no_tag : List ℤ
no_tag = object_numbers (tagged (pos 2000001) (side (pos 1)))

pub record WorkedStored : Type 0 where
  -- "First the count. Then each object: kind; for kinds 1 to 3 px, py, qx, qy ..; for kind 4 the Old side number."
  object-bytes :
      (write_object Old (segment (pos 1) (minus 2) (pos 3) (pos 100)) ≡ 1 ∷ 2 ∷ 3 ∷ 6 ∷ 200 ∷ 1 ∷ [])
      × (write_object Old (ray (pos 0) (pos 0) (minus 1) (pos 1)) ≡ 2 ∷ 0 ∷ 0 ∷ 1 ∷ 2 ∷ []) × (write_object Old (side (pos 3)) ≡ 4 ∷ 3 ∷ [])
  object-read :
      read_object Old (1 ∷ 2 ∷ 3 ∷ 6 ∷ 200 ∷ 1 ∷ 9 ∷ []) ≡ got (segment (pos 1) (minus 2) (pos 3) (pos 100)) (9 ∷ [])
  count_first : (write_drawing Old their_numbers ≡ two_sides) × (read_drawing two_sides ≡ record { objects = their_numbers; refusal = pos 0 })
  -- "7: stored bytes end where a number must begin or go on"
  bytes_end : (refusal [] ≡ pos 7) × (refusal (128 ∷ []) ≡ pos 7) × (of_one [] ≡ pos 7) × (of_one (4 ∷ []) ≡ pos 7) × (of_one (1 ∷ 0 ∷ 0 ∷ 0 ∷ []) ≡ pos 7)
  -- "8": "A last group equal to 0 after the first group, or a third byte with its top bit set" (at once, before any 7)
  third_top_bit :
      (refusal (128 ∷ 128 ∷ 128 ∷ []) ≡ pos 8) × (refusal (129 ∷ 129 ∷ 129 ∷ 1 ∷ []) ≡ pos 8) × (of_one (4 ∷ 129 ∷ 255 ∷ 128 ∷ []) ≡ pos 8)
  last-group-0 :
      (refusal (128 ∷ 0 ∷ []) ≡ pos 8) × (refusal (130 ∷ 0 ∷ 4 ∷ []) ≡ pos 8) × (of_one (4 ∷ 129 ∷ 0 ∷ []) ≡ pos 8)
      × (refusal (128 ∷ 128 ∷ 0 ∷ []) ≡ pos 8) × (of_one (1 ∷ 255 ∷ 128 ∷ 0 ∷ []) ≡ pos 8)
  -- `80 80`, which met 8 in document 01: the number goes on
  second_top_bit : (refusal (128 ∷ 128 ∷ []) ≡ pos 7) × (of_one (4 ∷ 129 ∷ 255 ∷ []) ≡ pos 7)
  -- "A coordinate or count of three groups now meets 2 or 11 where it met 8, and a kind or side number meets 1 or 4"
  three-groups-met :
      (of_one (1 ∷ 128 ∷ 128 ∷ 1 ∷ []) ≡ pos 2) × (of_one (2 ∷ 0 ∷ 255 ∷ 255 ∷ 127 ∷ []) ≡ pos 2) × (of_one (3 ∷ 0 ∷ 0 ∷ 129 ∷ 128 ∷ 1 ∷ []) ≡ pos 2)
      × (of_one (1 ∷ 0 ∷ 0 ∷ 0 ∷ 128 ∷ 128 ∷ 1 ∷ []) ≡ pos 2) × (refusal (129 ∷ 129 ∷ 1 ∷ []) ≡ pos 11) × (of_one (129 ∷ 128 ∷ 1 ∷ []) ≡ pos 1)
      × (of_one (4 ∷ 129 ∷ 128 ∷ 1 ∷ []) ≡ pos 4)
  -- "11: more than 512 objects", as soon as the count is read
  count_at_the_limit : (refusal (128 ∷ 4 ∷ []) ≡ pos 7) × (refusal (129 ∷ 4 ∷ []) ≡ pos 11) × (refusal (129 ∷ 4 ∷ 128 ∷ 128 ∷ 128 ∷ []) ≡ pos 11)
  none_stored : read_drawing (0 ∷ []) ≡ record { objects = []; refusal = pos 0 }
  -- "Each number is read whole, then checked, before the next": 1, 2 and 4 before 7 and before what comes later
  kind_checked : (of_one (0 ∷ []) ≡ pos 1) × (of_one (5 ∷ []) ≡ pos 1) × (of_one (129 ∷ 1 ∷ []) ≡ pos 1) × (of_one (129 ∷ 0 ∷ []) ≡ pos 8)
  coordinate-checked :
      (of_one (1 ∷ 161 ∷ 31 ∷ []) ≡ pos 2) × (of_one (2 ∷ 0 ∷ 162 ∷ 31 ∷ []) ≡ pos 2) × (of_one (3 ∷ 0 ∷ 0 ∷ 161 ∷ 31 ∷ []) ≡ pos 2)
      × (of_one (1 ∷ 0 ∷ 0 ∷ 0 ∷ 161 ∷ 31 ∷ []) ≡ pos 2)
  coordinate_at_the_limit : (of_one (1 ∷ 160 ∷ 31 ∷ 159 ∷ 31 ∷ 159 ∷ 31 ∷ 160 ∷ 31 ∷ []) ≡ pos 0) × (of_one (1 ∷ 160 ∷ 31 ∷ []) ≡ pos 7)
  side_checked : (of_one (4 ∷ 0 ∷ []) ≡ pos 4) × (of_one (4 ∷ 5 ∷ []) ≡ pos 4) × (of_one (4 ∷ 1 ∷ []) ≡ pos 0) × (of_one (4 ∷ 4 ∷ []) ≡ pos 0)
  -- "p against q comes after qy": after a 7, an 8 and a 2 of qy, and before the next object
  three-after-qy :
      (of_one (1 ∷ 3 ∷ 3 ∷ 3 ∷ []) ≡ pos 7) × (of_one (1 ∷ 3 ∷ 3 ∷ 3 ∷ 131 ∷ 0 ∷ []) ≡ pos 8) × (of_one (1 ∷ 3 ∷ 3 ∷ 3 ∷ 161 ∷ 31 ∷ []) ≡ pos 2)
      × (refusal (2 ∷ 1 ∷ 3 ∷ 3 ∷ 3 ∷ 3 ∷ 5 ∷ []) ≡ pos 3)
  -- and only where both coordinates are equal: (0, 1) and (1, 1), (1, 0) and (1, 1), (1, 1) and (0, 1), (1, 1) and (1, 0)
  three-by-both :
      (of_one (1 ∷ 0 ∷ 2 ∷ 2 ∷ 2 ∷ []) ≡ pos 0) × (of_one (1 ∷ 2 ∷ 0 ∷ 2 ∷ 2 ∷ []) ≡ pos 0) × (of_one (1 ∷ 2 ∷ 2 ∷ 0 ∷ 2 ∷ []) ≡ pos 0)
      × (of_one (1 ∷ 2 ∷ 2 ∷ 2 ∷ 0 ∷ []) ≡ pos 0)
  object_by_object : (refusal (2 ∷ 4 ∷ 5 ∷ 9 ∷ []) ≡ pos 4) × (refusal (2 ∷ 9 ∷ 4 ∷ 5 ∷ []) ≡ pos 1) × (refusal (2 ∷ 4 ∷ 1 ∷ 9 ∷ []) ≡ pos 1)
  -- "9: bytes after the last object": "with 9 after the last object"
  bytes_after : (refusal (0 ∷ 0 ∷ []) ≡ pos 9) × (refusal (two_sides ++ (128 ∷ [])) ≡ pos 9)
  nine_after_the_last : (refusal (1 ∷ 4 ∷ 5 ∷ 0 ∷ []) ≡ pos 4) × (refusal (1 ∷ 3 ∷ 1 ∷ 1 ∷ 1 ∷ 1 ∷ 0 ∷ []) ≡ pos 3)
  -- ".. then 10." The number, the count, and the length, which 10 alone gives too
  read_taken : read_answer (read_drawing two_sides) (lent 12) ≡ record { refusal = pos 0; count = 2; length = 12 }
  read_no_room : read_answer (read_drawing two_sides) (lent 11) ≡ record { refusal = pos 10; count = 0; length = 12 }
  nine_before_ten : read_answer (read_drawing (two_sides ++ (0 ∷ []))) (lent 9) ≡ record { refusal = pos 9; count = 0; length = 0 }
  read-cells :
      (read_into (read_drawing two_sides) (lent 14) ≡ their_numbers ++ lent 2) × (read_into (read_drawing two_sides) (lent 11) ≡ lent 11)
      × (read_into (read_drawing (two_sides ++ (0 ∷ []))) (lent 14) ≡ lent 14)
  written_taken : write_answer Old their_numbers (lent_bytes 5) ≡ record { refusal = pos 0; length = 5 }
  written_no_room : write_answer Old their_numbers (lent_bytes 4) ≡ record { refusal = pos 10; length = 5 }
  list-before-ten :
      (write_answer Old (their_numbers ++ lent 1) (lent_bytes 0) ≡ record { refusal = pos 14; length = 0 })
      × (write_answer Old (object_numbers (object (pos 9) (pos 0) (pos 0) (pos 0) (pos 0))) (lent_bytes 0) ≡ record { refusal = pos 1; length = 0 })
  -- "16 a tag other than 0 written in the old form, after all objects and before 10"
  tag_not_written : (write_answer Old one_tagged (lent_bytes 5) ≡ record { refusal = pos 16; length = 0 }) × (write_into Old one_tagged (lent_bytes 7) ≡ lent_bytes 7)
  sixteen_before_ten : write_answer Old one_tagged (lent_bytes 0) ≡ record { refusal = pos 16; length = 0 }
  sixteen-after-all-objects :
      (write_refusal Old (one_tagged ++ no_tag) ≡ pos 15) × (write_refusal Old (one_tagged ++ object_numbers (object (pos 9) (pos 0) (pos 0) (pos 0) (pos 0))) ≡ pos 1)
      × (write_refusal Old (one_tagged ++ lent 1) ≡ pos 14) × (write_refusal Old one_tagged ≡ pos 16) × (write_refusal Old their_numbers ≡ pos 0)
  written-bytes :
      (write_into Old their_numbers (lent_bytes 7) ≡ two_sides ++ lent_bytes 2) × (write_into Old their_numbers (lent_bytes 4) ≡ lent_bytes 4)
      × (write_into Old (their_numbers ++ lent 1) (lent_bytes 7) ≡ lent_bytes 7)

pub worked-stored : WorkedStored
unfolding side_refusal pair_refusal object_refusal in_turn list_refusal groups_of bytes_of write_mark write_tag write_shape write_object write_drawing tags_refusal write_refusal value_of needless read_groups read_coordinate read_side read_point read_to read_pair read_tag read_shape read_object read_objects read_form read_count read_head read_drawing read_answer read_into write_answer write_into
worked-stored = record {
  object-bytes = (refl, refl, refl);
  object-read = refl;
  count_first = (refl, refl);
  bytes_end = (refl, refl, refl, refl, refl);
  third_top_bit = (refl, refl, refl);
  last-group-0 = (refl, refl, refl, refl, refl);
  second_top_bit = (refl, refl);
  three-groups-met = (refl, refl, refl, refl, refl, refl, refl);
  count_at_the_limit = (refl, refl, refl);
  none_stored = refl;
  kind_checked = (refl, refl, refl, refl);
  coordinate-checked = (refl, refl, refl, refl);
  coordinate_at_the_limit = (refl, refl);
  side_checked = (refl, refl, refl, refl);
  three-after-qy = (refl, refl, refl, refl);
  three-by-both = (refl, refl, refl, refl);
  object_by_object = (refl, refl, refl);
  bytes_after = (refl, refl);
  nine_after_the_last = (refl, refl);
  read_taken = refl;
  read_no_room = refl;
  nine_before_ten = refl;
  read-cells = (refl, refl, refl);
  written_taken = refl;
  written_no_room = refl;
  list-before-ten = (refl, refl);
  tag_not_written = (refl, refl);
  sixteen_before_ten = refl;
  sixteen-after-all-objects = (refl, refl, refl, refl, refl);
  written-bytes = (refl, refl, refl);
}

-- The new form, moves and the form of a drawing, worked out byte by byte by document 02's words, with the refusal first met where two or more
-- would do. A definition that says something else is refused here, whatever the code does.
use Rattle.std.specs.Prelude.{◌≡◌, refl, List, [], ◌∷◌, ◌++◌, ℕ, ℤ, pos, replicate, Ok, Err}
use Rattle.whole.specs.InTurn.{in_turn}
use Rattle.sheet.specs.declared.refusal.Refusal.TheVariants.{BytesAfter}
use Rattle.sheet.specs.Answers.{object_numbers}
use Rattle.sheet.specs.Refusal.{side_refusal, pair_refusal, object_refusal}
use Rattle.sheet.specs.Lists.{list_refusal}
use Rattle.sheet.specs.Tags.{tagged}
use Rattle.sheet.specs.Cases.{minus, segment, ray, line, side}
use Rattle.number.specs.Number.{got, groups_of, bytes_of, value_of, needless, read_groups}
use Rattle.store.specs.declared.Form.TheVariants.{Old, New}
use Rattle.store.specs.Forms.{write_mark, write_tag, read_tag, longest_of, longest}
use Rattle.store.specs.Stored.{refused, write_shape, write_object, write_drawing, tags_refusal, write_refusal, read_coordinate, read_side, read_point, read_to, read_pair, read_shape, read_object, read_objects, read_form, read_count, read_head, read_drawing, old_reader, form_of, move_refusal, moved}
use Rattle.store.specs.Answers.{write_answer, write_into, move_answer, move_into, formed_says, form_answer}

-- the refusal of some bytes, and that of the bytes of one object in the new form
abbrev refusal : List ℕ → ℤ
refusal bytes = (read_drawing bytes).refusal

abbrev of_one : List ℕ → ℤ
of_one bytes = refusal (232 ∷ 7 ∷ 1 ∷ bytes)

abbrev lent_bytes : ℕ → List ℕ
lent_bytes n = replicate n 170

-- document 01's line, segment and side, in its 13 bytes and in the new form
abbrev old_bytes : List ℕ
old_bytes = 3 ∷ 3 ∷ 0 ∷ 0 ∷ 4 ∷ 2 ∷ 1 ∷ 0 ∷ 4 ∷ 4 ∷ 0 ∷ 4 ∷ 3 ∷ []

abbrev new_bytes : List ℕ
new_bytes = 232 ∷ 7 ∷ 3 ∷ 3 ∷ 0 ∷ 0 ∷ 0 ∷ 4 ∷ 2 ∷ 1 ∷ 0 ∷ 0 ∷ 4 ∷ 4 ∷ 3 ∷ 4 ∷ 0 ∷ 3 ∷ []

abbrev their_numbers : List ℤ
their_numbers =
    object_numbers (line (pos 0) (pos 0) (pos 2) (pos 1)) ++ object_numbers (segment (pos 0) (pos 2) (pos 2) (pos 0)) ++ object_numbers (side (pos 3))

-- side 1, and side 2 of tag 300
abbrev one_tagged : List ℤ
one_tagged = object_numbers (side (pos 1)) ++ object_numbers (tagged (pos 300) (side (pos 2)))

abbrev tagged_bytes : List ℕ
tagged_bytes = 232 ∷ 7 ∷ 2 ∷ 4 ∷ 0 ∷ 1 ∷ 4 ∷ 172 ∷ 2 ∷ 2 ∷ []

pub record WorkedForms : Type 0 where
  -- "The new form starts with the number 1000 .. Then come the count and for each object kind, tag, px, py and the signed differences .."
  object-bytes :
      (write_object New (tagged (pos 7) (segment (pos 1) (minus 2) (pos 3) (pos 100))) ≡ 1 ∷ 7 ∷ 2 ∷ 3 ∷ 4 ∷ 204 ∷ 1 ∷ [])
      × (write_object New (tagged (pos 2000000) (ray (pos 5) (pos 6) (pos 4) (pos 6))) ≡ 2 ∷ 128 ∷ 137 ∷ 122 ∷ 10 ∷ 12 ∷ 1 ∷ 0 ∷ [])
      × (write_object New (tagged (pos 300) (side (pos 3))) ≡ 4 ∷ 172 ∷ 2 ∷ 3 ∷ [])
  object-read :
      (read_object New (1 ∷ 7 ∷ 2 ∷ 3 ∷ 4 ∷ 204 ∷ 1 ∷ 9 ∷ []) ≡ got (tagged (pos 7) (segment (pos 1) (minus 2) (pos 3) (pos 100))) (9 ∷ []))
      × (read_object New (4 ∷ 172 ∷ 2 ∷ 3 ∷ []) ≡ got (tagged (pos 300) (side (pos 3))) [])
  sheet_written : (write_drawing New their_numbers ≡ new_bytes) × (write_drawing Old their_numbers ≡ old_bytes)
  sheet-read :
      (read_drawing new_bytes ≡ record { objects = their_numbers; refusal = pos 0 })
      × (read_drawing tagged_bytes ≡ record { objects = one_tagged; refusal = pos 0 }) × (read_drawing (232 ∷ 7 ∷ 0 ∷ []) ≡ refused (pos 0))
  -- "which no old drawing has as its count, so an old reader refuses with 11"
  old-reader : (old_reader new_bytes ≡ refused (pos 11)) × (old_reader (232 ∷ 7 ∷ []) ≡ refused (pos 11)) × (old_reader old_bytes ≡ read_drawing old_bytes)
  -- the mark, and then the count, refused by 11 as ever; 1000 is taken once
  head :
      (refusal (232 ∷ []) ≡ pos 7) × (refusal (232 ∷ 7 ∷ []) ≡ pos 7) × (refusal (232 ∷ 7 ∷ 128 ∷ 4 ∷ []) ≡ pos 7)
      × (refusal (232 ∷ 7 ∷ 129 ∷ 4 ∷ []) ≡ pos 11) × (refusal (232 ∷ 7 ∷ 232 ∷ 7 ∷ 0 ∷ []) ≡ pos 11) × (refusal (232 ∷ 7 ∷ 128 ∷ 0 ∷ []) ≡ pos 8)
      × (refusal (231 ∷ 7 ∷ []) ≡ pos 11) × (refusal (233 ∷ 7 ∷ []) ≡ pos 11) × (refusal (232 ∷ 135 ∷ 0 ∷ []) ≡ pos 8)
  -- kind 1; "a tag out of range is 15, met at the tag": before px, and behind the kind
  kind_checked : (of_one (0 ∷ []) ≡ pos 1) × (of_one (5 ∷ 129 ∷ 137 ∷ 122 ∷ []) ≡ pos 1)
  tag-checked :
      (of_one (1 ∷ 129 ∷ 137 ∷ 122 ∷ []) ≡ pos 15) × (of_one (4 ∷ 129 ∷ 137 ∷ 122 ∷ 9 ∷ []) ≡ pos 15) × (of_one (1 ∷ 129 ∷ 137 ∷ 122 ∷ 161 ∷ 31 ∷ []) ≡ pos 15)
      × (of_one (2 ∷ 255 ∷ 255 ∷ 127 ∷ []) ≡ pos 15) × (of_one (3 ∷ 128 ∷ 137 ∷ 122 ∷ []) ≡ pos 7) × (of_one (4 ∷ 128 ∷ 137 ∷ 122 ∷ 1 ∷ []) ≡ pos 0)
      × (of_one (1 ∷ []) ≡ pos 7) × (of_one (1 ∷ 129 ∷ 0 ∷ []) ≡ pos 8)
  point_checked : (of_one (1 ∷ 0 ∷ 161 ∷ 31 ∷ []) ≡ pos 2) × (of_one (1 ∷ 0 ∷ 0 ∷ 162 ∷ 31 ∷ []) ≡ pos 2)
  -- "a q beyond 2,000 is 2, met at the difference that makes it": p = (2000, -2000) and a difference of 1, of -1, of -4000 and 4000, one more
  difference-checked :
      (of_one (1 ∷ 0 ∷ 160 ∷ 31 ∷ 159 ∷ 31 ∷ 2 ∷ []) ≡ pos 2) × (of_one (1 ∷ 0 ∷ 160 ∷ 31 ∷ 159 ∷ 31 ∷ 0 ∷ 1 ∷ []) ≡ pos 2)
      × (of_one (1 ∷ 0 ∷ 160 ∷ 31 ∷ 159 ∷ 31 ∷ 191 ∷ 62 ∷ 192 ∷ 62 ∷ []) ≡ pos 0) × (of_one (1 ∷ 0 ∷ 160 ∷ 31 ∷ 159 ∷ 31 ∷ 193 ∷ 62 ∷ []) ≡ pos 2)
      × (of_one (1 ∷ 0 ∷ 160 ∷ 31 ∷ 159 ∷ 31 ∷ 191 ∷ 62 ∷ 194 ∷ 62 ∷ []) ≡ pos 2) × (of_one (1 ∷ 0 ∷ 0 ∷ 0 ∷ 128 ∷ 128 ∷ 1 ∷ []) ≡ pos 2)
  -- "both differences 0 is 3", after the second
  three-after-both :
      (of_one (1 ∷ 0 ∷ 2 ∷ 4 ∷ 0 ∷ []) ≡ pos 7) × (of_one (1 ∷ 0 ∷ 2 ∷ 4 ∷ 0 ∷ 0 ∷ []) ≡ pos 3) × (of_one (1 ∷ 0 ∷ 2 ∷ 4 ∷ 0 ∷ 2 ∷ []) ≡ pos 0)
      × (of_one (1 ∷ 0 ∷ 2 ∷ 4 ∷ 2 ∷ 0 ∷ []) ≡ pos 0) × (of_one (1 ∷ 0 ∷ 2 ∷ 2 ∷ 2 ∷ 2 ∷ []) ≡ pos 0)
  side_checked : (of_one (4 ∷ 0 ∷ 0 ∷ []) ≡ pos 4) × (of_one (4 ∷ 0 ∷ 5 ∷ []) ≡ pos 4) × (of_one (4 ∷ 0 ∷ 4 ∷ []) ≡ pos 0)
  bytes_after : (refusal (new_bytes ++ (0 ∷ [])) ≡ pos 9) × (refusal (232 ∷ 7 ∷ 0 ∷ 0 ∷ []) ≡ pos 9)
  -- "16 a tag other than 0 written in the old form", and in no other
  written :
      (write_answer New one_tagged (lent_bytes 10) ≡ record { refusal = pos 0; length = 10 })
      × (write_answer New one_tagged (lent_bytes 9) ≡ record { refusal = pos 10; length = 10 })
      × (write_into New one_tagged (lent_bytes 11) ≡ tagged_bytes ++ lent_bytes 1) × (write_into New one_tagged (lent_bytes 9) ≡ lent_bytes 9)
      × (write_refusal New (one_tagged ++ (pos 1 ∷ [])) ≡ pos 14) × (write_refusal New (object_numbers (tagged (pos 2000001) (side (pos 1)))) ≡ pos 15)
      × (write_answer Old one_tagged (lent_bytes 0) ≡ record { refusal = pos 16; length = 0 })
  -- "There and back gives the same bytes"; "A drawing moved to the form it already has keeps its bytes"
  there_and_back : (moved New old_bytes ≡ new_bytes) × (moved Old new_bytes ≡ old_bytes) × (moved Old old_bytes ≡ old_bytes) × (moved New tagged_bytes ≡ tagged_bytes)
  -- the bytes' own, then 16, "for the move back", then 10 with the length needed
  moves :
      (move_answer New old_bytes (lent_bytes 18) ≡ record { refusal = pos 0; length = 18 })
      × (move_answer New old_bytes (lent_bytes 17) ≡ record { refusal = pos 10; length = 18 })
      × (move_answer Old new_bytes (lent_bytes 12) ≡ record { refusal = pos 10; length = 13 })
      × (move_answer Old tagged_bytes (lent_bytes 0) ≡ record { refusal = pos 16; length = 0 })
      × (move_answer Old (tagged_bytes ++ (0 ∷ [])) (lent_bytes 0) ≡ record { refusal = pos 9; length = 0 })
      × (move_refusal New tagged_bytes ≡ pos 0) × (move_refusal New [] ≡ pos 7)
  moved-cells :
      (move_into New old_bytes (lent_bytes 20) ≡ new_bytes ++ lent_bytes 2) × (move_into New old_bytes (lent_bytes 17) ≡ lent_bytes 17)
      × (move_into Old tagged_bytes (lent_bytes 20) ≡ lent_bytes 20)
  -- which form, and what is told of it
  forms : (form_answer old_bytes ≡ pos 0 ∷ pos 1 ∷ []) × (form_answer new_bytes ≡ pos 0 ∷ pos 2 ∷ []) × (form_answer (232 ∷ 7 ∷ []) ≡ pos 7 ∷ [])
      × (form_answer (0 ∷ 0 ∷ []) ≡ pos 9 ∷ [])
  told : (formed_says (Ok Old) ≡ pos 0 ∷ pos 1 ∷ []) × (formed_says (Ok New) ≡ pos 0 ∷ pos 2 ∷ []) × (formed_says (Err BytesAfter) ≡ pos 9 ∷ [])
  lengths : (longest_of Old ≡ 4610) × (longest ≡ 6148)

pub worked-forms : WorkedForms
unfolding side_refusal pair_refusal object_refusal in_turn list_refusal groups_of bytes_of write_mark write_tag write_shape write_object write_drawing tags_refusal write_refusal value_of needless read_groups read_coordinate read_side read_point read_to read_pair read_tag read_shape read_object read_objects read_form read_count read_head read_drawing old_reader form_of move_refusal moved write_answer write_into move_answer move_into form_answer
worked-forms = record {
  object-bytes = (refl, refl, refl);
  object-read = (refl, refl);
  sheet_written = (refl, refl);
  sheet-read = (refl, refl, refl);
  old-reader = (refl, refl, refl);
  head = (refl, refl, refl, refl, refl, refl, refl, refl, refl);
  kind_checked = (refl, refl);
  tag-checked = (refl, refl, refl, refl, refl, refl, refl, refl);
  point_checked = (refl, refl);
  difference-checked = (refl, refl, refl, refl, refl, refl);
  three-after-both = (refl, refl, refl, refl, refl);
  side_checked = (refl, refl, refl);
  bytes_after = (refl, refl);
  written = (refl, refl, refl, refl, refl, refl, refl);
  there_and_back = (refl, refl, refl, refl);
  moves = (refl, refl, refl, refl, refl, refl, refl);
  moved-cells = (refl, refl, refl);
  forms = (refl, refl, refl, refl);
  told = (refl, refl, refl);
  lengths = (refl, refl);
}

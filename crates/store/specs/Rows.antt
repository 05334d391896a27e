-- The worked rows of document 01, 1 to 10, proved of the definitions, all together as a single checked list.
use Rattle.std.specs.Prelude.{◌≡◌, refl, List, [], ◌∷◌, ℕ, ℤ, pos, negsuc}
use Rattle.whole.specs.InTurn.{in_turn}
use Rattle.whole.specs.Sign.{sgn}
use Rattle.whole.specs.Divisor.{steps, gcd, gcd_of}
use Rattle.sheet.specs.declared.Point.{Point}
use Rattle.sheet.specs.Figure.{side_of, figure_of}
use Rattle.sheet.specs.Points.{divided}
use Rattle.sheet.specs.Ends.{far_raw, far_end, first_end, last_end}
use Rattle.sheet.specs.Signs.{order, turn_poly, turn}
use Rattle.sheet.specs.Crossing as crossing
use Rattle.sheet.specs.Refusal.{side_refusal, pair_refusal, object_refusal}
use Rattle.sheet.specs.Lists.{list_refusal}
use Rattle.sheet.specs.Cases.{line, ray, side, point, at}
use Rattle.number.specs.Number.{groups_of, bytes_of, value_of, needless, read_groups}
use Rattle.store.specs.declared.Form.TheVariants.{Old}
use Rattle.store.specs.Forms.{write_mark, write_tag, read_tag}
use Rattle.store.specs.Stored.{write_shape, write_object, write_drawing, tags_refusal, write_refusal, read_coordinate, read_side, read_point, read_to, read_pair, read_shape, read_object, read_objects, read_form, read_count, read_head, read_drawing}

row-4 : Point
row-4 = last_end (line (pos 0) (pos 1) (pos 2) (pos 2))

-- `03 03 00 00 04 02 01 00 04 04 00 04 03`
row-bytes : List ℕ
row-bytes = 3 ∷ 3 ∷ 0 ∷ 0 ∷ 4 ∷ 2 ∷ 1 ∷ 0 ∷ 4 ∷ 4 ∷ 0 ∷ 4 ∷ 3 ∷ []

-- "a line from (0,0) toward (2,1), a segment from (0,2) to (2,0) and side 3", each with tag 0
row-objects : List ℤ
row-objects =
    pos 3 ∷ pos 0 ∷ pos 0 ∷ pos 2 ∷ pos 1 ∷ pos 0
    ∷ pos 1 ∷ pos 0 ∷ pos 2 ∷ pos 2 ∷ pos 0 ∷ pos 0
    ∷ pos 4 ∷ pos 3 ∷ pos 0 ∷ pos 0 ∷ pos 0 ∷ pos 0 ∷ []

pub record WorkedRows : Type 0 where
  -- 1. Line (0,3) to (1,4): far end (1, -3, 1, 0, 1). 2. Its other end: (-1, 0, -1, 3, 1).
  one : last_end (line (pos 0) (pos 3) (pos 1) (pos 4)) ≡ point (pos 1) (negsuc 2) (pos 1) (pos 0) (pos 1)
  two : first_end (line (pos 0) (pos 3) (pos 1) (pos 4)) ≡ point (negsuc 0) (pos 0) (negsuc 0) (pos 3) (pos 1)
  -- 3. Line (5,0) to (5,1): far end (0, 5, 1, 0, 1).
  three : last_end (line (pos 5) (pos 0) (pos 5) (pos 1)) ≡ point (pos 0) (pos 5) (pos 1) (pos 0) (pos 1)
  -- 4. Line (0,1) to (2,2): far end (2, 0, 1, 2, 2).
  four : row-4 ≡ point (pos 2) (pos 0) (pos 1) (pos 2) (pos 2)
  -- 5. Turn of (0,0), (2,1) and row 4's point: 1.
  five : turn (at (pos 0) (pos 0)) (at (pos 2) (pos 1)) row-4 ≡ pos 1
  -- 6. Turn of (0,0), (2,1) and (2, 0, 1, 0, 2): 0.
  six : turn (at (pos 0) (pos 0)) (at (pos 2) (pos 1)) (point (pos 2) (pos 0) (pos 1) (pos 0) (pos 2)) ≡ pos 0
  -- 7. Order of (-1,-R) against (0,0): -1; of (0,0) against (1,-R): -1.
  seven : order (point (pos 0) (negsuc 0) (negsuc 0) (pos 0) (pos 1)) (at (pos 0) (pos 0)) ≡ negsuc 0
  seven_too : order (at (pos 0) (pos 0)) (point (pos 0) (pos 1) (negsuc 0) (pos 0) (pos 1)) ≡ negsuc 0
  -- 8. Rays from (0,0) through (1,0) and through (-1,0): point (0, 0, 0, 0, 1).
  eight :
      crossing.crossing_of (ray (pos 0) (pos 0) (pos 1) (pos 0)) (ray (pos 0) (pos 0) (negsuc 0) (pos 0))
      ≡ crossing.point (at (pos 0) (pos 0))
  -- 9. Line (0,0) to (1,1) with side 3, and with side 4: (1, 0, 1, 0, 1) both times.
  nine :
      crossing.crossing_of (line (pos 0) (pos 0) (pos 1) (pos 1)) (side (pos 3))
      ≡ crossing.point (point (pos 1) (pos 0) (pos 1) (pos 0) (pos 1))
  nine-too :
      crossing.crossing_of (line (pos 0) (pos 0) (pos 1) (pos 1)) (side (pos 4))
      ≡ crossing.point (point (pos 1) (pos 0) (pos 1) (pos 0) (pos 1))
  -- 10. The 13 bytes above give their three objects and come back.
  ten : read_drawing row-bytes ≡ record { objects = row-objects; refusal = pos 0 }
  ten_taken : write_refusal Old row-objects ≡ pos 0
  ten_back : write_drawing Old row-objects ≡ row-bytes

pub worked-rows : WorkedRows
unfolding crossing.stretches crossing.with_side crossing.with_stretch crossing.meeting crossing.crossing_of sgn steps gcd gcd_of side_of figure_of divided far_raw far_end first_end last_end row-4 order turn_poly turn row-bytes row-objects groups_of bytes_of write_mark write_tag write_shape write_object write_drawing tags_refusal write_refusal in_turn list_refusal value_of needless read_groups read_coordinate read_side read_point read_to read_pair read_tag read_shape read_object read_objects read_form read_count read_head read_drawing side_refusal pair_refusal object_refusal
worked-rows = record {
  one = refl;
  two = refl;
  three = refl;
  four = refl;
  five = refl;
  six = refl;
  seven = refl;
  seven_too = refl;
  eight = refl;
  nine = refl;
  nine-too = refl;
  ten = refl;
  ten_taken = refl;
  ten_back = refl;
}

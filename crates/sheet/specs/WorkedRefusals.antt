-- Which refusal comes first, worked out by document 01's order and document 02's, where two or more would do: of several points and objects, of lists, and
-- with lent cells. A definition that has another order is refused here, whatever the code does.
use Rattle.std.specs.Prelude.{◌≡◌, refl, true, false, List, [], ◌∷◌, ◌++◌, map, ℕ, ℤ, pos, replicate, take}
use Rattle.whole.specs.InTurn.{in_turn}
use Rattle.whole.specs.Sign.{sgn}
use Rattle.whole.specs.Divisor.{steps, gcd, gcd_of}
use Rattle.sheet.specs.declared.Object.{Object}
use Rattle.sheet.specs.declared.Point.{Point}
use Rattle.sheet.specs.Refusal.{pair_refusal, side_refusal, object_refusal}
use Rattle.sheet.specs.RefusalTable.{refusals, among}
use Rattle.sheet.specs.Points.{standard, narrow, frame, is_point, point_refusal}
use Rattle.sheet.specs.Signs.{order_refusal, turn_refusal, side_sign_refusal}
use Rattle.sheet.specs.Crossing.{crossing_refusal}
use Rattle.sheet.specs.Answers.{answer, object_numbers}
use Rattle.sheet.specs.Lists.{list_refusal, index_refusal}
use Rattle.sheet.specs.Lent.{room_refusal, other_number, length_given, filled}
use Rattle.sheet.specs.Tags.{tagged}
use Rattle.sheet.specs.Cases.{object, segment, ray, side, point, at}

-- ---- what is taken, and what is refused by one number alone

-- narrow; a point, and too wide for a turn; no point
abbrev good : Point
good = at (pos 1) (pos 2)

abbrev wide : Point
wide = point (pos 0) (pos 1) (pos 0) (pos 1) (pos 4001)

abbrev no_point : Point
no_point = point (pos 0) (pos 0) (pos 0) (pos 0) (pos 2)

-- taken; and refused by 1, 2, 3, 4 and 15
abbrev fine : Object
fine = segment (pos 0) (pos 0) (pos 1) (pos 1)

abbrev no_kind : Object
no_kind = object (pos 5) (pos 0) (pos 0) (pos 1) (pos 1)

abbrev too_far : Object
too_far = segment (pos 0) (pos 0) (pos 2001) (pos 1)

abbrev one_place : Object
one_place = ray (pos 7) (pos 8) (pos 7) (pos 8)

abbrev no_side : Object
no_side = side (pos 5)

abbrev no_tag : Object
no_tag = tagged (pos 2000001) fine

-- two objects as a list; and so many zeros, of which six are an object of kind 0
abbrev both : Object → Object → List ℤ
both a b = object_numbers a ++ object_numbers b

abbrev zeros : ℕ → List ℤ
zeros n = replicate n (pos 0)

pub record WorkedRefusals : Type 0 where
  -- "Points: 5 for each in turn, then 6."
  points_taken : turn_refusal good good good ≡ pos 0
  no_point_of_two : (order_refusal no_point good ≡ pos 5) × (order_refusal good no_point ≡ pos 5) × (order_refusal good good ≡ pos 0)
  no-point-of-three :
      (turn_refusal no_point good good ≡ pos 5) × (turn_refusal good no_point good ≡ pos 5) × (turn_refusal good good no_point ≡ pos 5)
  wide_of_three : (turn_refusal wide good good ≡ pos 6) × (turn_refusal good wide good ≡ pos 6) × (turn_refusal good good wide ≡ pos 6)
  five-before-six :
      (turn_refusal wide good no_point ≡ pos 5) × (turn_refusal wide no_point good ≡ pos 5) × (turn_refusal good wide no_point ≡ pos 5)
      × (turn_refusal no_point wide wide ≡ pos 5)
  -- "Any point is taken, wide ones too", by order and side
  wide_taken : (order_refusal wide wide ≡ pos 0) × (side_sign_refusal fine wide ≡ pos 0)
  -- "An object with a point: the object's, then 5."
  object-before-point :
      (side_sign_refusal no_kind no_point ≡ pos 1) × (side_sign_refusal too_far no_point ≡ pos 2) × (side_sign_refusal one_place no_point ≡ pos 3)
      × (side_sign_refusal no_side no_point ≡ pos 4) × (side_sign_refusal no_tag no_point ≡ pos 15)
  then_the_point : side_sign_refusal fine no_point ≡ pos 5
  -- "Two objects: the first one's, then the second's"
  first-before-second :
      (crossing_refusal no_kind too_far ≡ pos 1) × (crossing_refusal too_far no_kind ≡ pos 2) × (crossing_refusal one_place no_side ≡ pos 3)
      × (crossing_refusal no_side one_place ≡ pos 4) × (crossing_refusal no_tag no_kind ≡ pos 15) × (crossing_refusal no_kind no_tag ≡ pos 1)
  then_the_second : (crossing_refusal fine no_side ≡ pos 4) × (crossing_refusal no_side fine ≡ pos 4) × (crossing_refusal fine fine ≡ pos 0)
  -- "Numbers that say no": of 0, 1, .., 22 those from 1 to 14; of 12 "The number is not used again"; and 15, 16 and 21 (document 02)
  numbers-that-say-no :
      map (λ n. among n refusals) (0 ∷ 1 ∷ 2 ∷ 3 ∷ 4 ∷ 5 ∷ 6 ∷ 7 ∷ 8 ∷ 9 ∷ 10 ∷ 11 ∷ 12 ∷ 13 ∷ 14 ∷ 15 ∷ 16 ∷ 17 ∷ 18 ∷ 19 ∷ 20 ∷ 21 ∷ 22 ∷ [])
      ≡ false ∷ (replicate 11 true ++ (false ∷ (replicate 4 true ++ (replicate 4 false ++ (true ∷ false ∷ [])))))
  -- "refusal 14 speaks of six". "11: more than 512 objects": 3,078 numbers are 513 objects, 3,072 are 512
  list_taken : (list_refusal [] ≡ pos 0) × (list_refusal (both fine fine) ≡ pos 0)
  no-multiple-of-six :
      (list_refusal (zeros 1) ≡ pos 14) × (list_refusal (take 5 (object_numbers fine)) ≡ pos 14) × (list_refusal (object_numbers fine ++ zeros 5) ≡ pos 14)
  too_many : list_refusal (zeros 3078) ≡ pos 11
  not_too_many : list_refusal (zeros 3072) ≡ pos 1
  -- "A list: 14, 11, each object in turn, .. then 10."
  fourteen_before_eleven : (list_refusal (zeros 3079) ≡ pos 14) × (list_refusal (zeros 3083) ≡ pos 14)
  fourteen_before_objects : list_refusal (object_numbers too_far ++ zeros 1) ≡ pos 14
  eleven_before_objects : list_refusal (object_numbers too_far ++ zeros 3072) ≡ pos 11
  each-in-turn :
      (list_refusal (both no_kind too_far) ≡ pos 1) × (list_refusal (both too_far no_kind) ≡ pos 2) × (list_refusal (both one_place no_side) ≡ pos 3)
      × (list_refusal (both no_side one_place) ≡ pos 4) × (list_refusal (both no_tag no_kind) ≡ pos 15) × (list_refusal (both no_kind no_tag) ≡ pos 1)
  the_second_alone : (list_refusal (both fine too_far) ≡ pos 2) × (list_refusal (both too_far fine) ≡ pos 2) × (list_refusal (both fine no_tag) ≡ pos 15)
  -- "13: object index below 0 or not below the count"
  index_of_two : (index_refusal (both fine fine) 1 ≡ pos 0) × (index_refusal (both fine fine) 2 ≡ pos 13) × (index_refusal [] 0 ≡ pos 13)
  -- ".. then 10": "the lent list or byte buffer is too short for the result"
  room : (room_refusal (pos 0) 5 5 ≡ pos 0) × (room_refusal (pos 0) 5 4 ≡ pos 10) × (room_refusal (pos 0) 0 0 ≡ pos 0)
  room_last : (room_refusal (pos 14) 5 4 ≡ pos 14) × (room_refusal (pos 1) 5 4 ≡ pos 1) × (room_refusal (pos 9) 5 5 ≡ pos 9)
  -- "A refused call returns its number with every other number 0"; "Refusal 10 alone also returns the length needed."
  refused_alone : (answer (pos 3) (pos 7 ∷ pos 8 ∷ []) ≡ pos 3 ∷ []) × (answer (pos 0) (pos 7 ∷ pos 8 ∷ []) ≡ pos 0 ∷ pos 7 ∷ pos 8 ∷ [])
  others_zero : (other_number (pos 10) 6 ≡ 0) × (other_number (pos 14) 6 ≡ 0) × (other_number (pos 0) 6 ≡ 6)
  length_needed : (length_given (pos 0) 6 ≡ 6) × (length_given (pos 9) 6 ≡ 0) × (length_given (pos 1) 6 ≡ 0)
  -- ".. and changes no lent buffer. An accepted one fills from the front and leaves the rest unchanged."
  from_the_front : filled {A = ℕ} (pos 0) (1 ∷ 2 ∷ []) (7 ∷ 8 ∷ 9 ∷ []) ≡ 1 ∷ 2 ∷ 9 ∷ []
  just_room : filled {A = ℕ} (pos 0) (1 ∷ 2 ∷ []) (7 ∷ 8 ∷ []) ≡ 1 ∷ 2 ∷ []
  too_short : filled {A = ℕ} (pos 0) (1 ∷ 2 ∷ []) (7 ∷ []) ≡ 7 ∷ []
  unchanged : filled {A = ℕ} (pos 3) (1 ∷ []) (7 ∷ 8 ∷ []) ≡ 7 ∷ 8 ∷ []

pub worked-refusals : WorkedRefusals
unfolding sgn steps gcd gcd_of pair_refusal side_refusal object_refusal standard narrow frame is_point point_refusal order_refusal turn_refusal side_sign_refusal crossing_refusal in_turn list_refusal
worked-refusals = record {
  points_taken = refl;
  no_point_of_two = (refl, refl, refl);
  no-point-of-three = (refl, refl, refl);
  wide_of_three = (refl, refl, refl);
  five-before-six = (refl, refl, refl, refl);
  wide_taken = (refl, refl);
  object-before-point = (refl, refl, refl, refl, refl);
  then_the_point = refl;
  first-before-second = (refl, refl, refl, refl, refl, refl);
  then_the_second = (refl, refl, refl);
  numbers-that-say-no = refl;
  list_taken = (refl, refl);
  no-multiple-of-six = (refl, refl, refl);
  too_many = refl;
  not_too_many = refl;
  fourteen_before_eleven = (refl, refl);
  fourteen_before_objects = refl;
  eleven_before_objects = refl;
  each-in-turn = (refl, refl, refl, refl, refl, refl);
  the_second_alone = (refl, refl, refl);
  index_of_two = (refl, refl, refl);
  room = (refl, refl, refl);
  room_last = (refl, refl, refl);
  refused_alone = (refl, refl);
  others_zero = (refl, refl, refl);
  length_needed = (refl, refl, refl);
  from_the_front = refl;
  just_room = refl;
  too_short = refl;
  unchanged = refl;
}

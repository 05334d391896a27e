-- Lists of objects: "Objects, each of five whole numbers: kind, px, py, qx, qy"; "Each object gets a sixth number, a tag" (document 02). One
-- object after another. Which lists are refused.
use Rattle.std.specs.Prelude.{cond, List, ℕ, ◌+◌, ◌*◌, ◌/◌, ◌%◌, eqb, ltb, ℤ, pos, length, get_or}
use Rattle.sheet.specs.declared.Object.{Object}
use Rattle.sheet.specs.Limits.{most}
use Rattle.sheet.specs.Refusal.{object_refusal}
use Rattle.whole.specs.Choice.{or_else}
use Rattle.whole.specs.InTurn.{in_turn}

-- "Lists are then of six numbers an object": the numbers of an object in a list
abbrev pub width : ℕ
width = 6

-- "Each row is eight numbers": those that say what a pair shares; and all of a row of a listing, which "ends with the tags of i and j (ten
-- numbers)" (document 02)
abbrev pub share_width : ℕ
share_width = 8

abbrev pub row_width : ℕ
row_width = share_width + 2

abbrev pub count_of : List ℤ → ℕ
count_of l = length l / width

-- the number at a place of a list, 0 past its end
abbrev pub number : List ℤ → ℕ → ℤ
number l at = get_or l at (pos 0)

-- the object whose numbers begin at a place of a list
abbrev pub object_from : List ℤ → ℕ → Object
object_from l at = record {
  kind = number l at;
  px = number l (at + 1);
  py = number l (at + 2);
  qx = number l (at + 3);
  qy = number l (at + 4);
  tag = number l (at + 5);
}

-- object i of a list
abbrev pub object_at : List ℤ → ℕ → Object
object_at l i = object_from l (i * width)

-- "in turn": the first of n numbers f 0, f 1, .. that is not 0; 0 for none
abbrev pub first_refusal : (ℕ → ℤ) → ℕ → ℤ
first_refusal f n = in_turn or_else (pos 0) f n

-- "each object in turn": the first n objects of a list
abbrev pub objects_refusal : List ℤ → ℕ → ℤ
objects_refusal l n = first_refusal (λ i. object_refusal (object_at l i)) n

-- "A list: 14, 11, each object in turn"
unfoldable pub list_refusal : List ℤ → ℤ
list_refusal l =
    cond (eqb (length l % width) 0)
    (cond (ltb most (count_of l)) (pos 11) (objects_refusal l (count_of l)))
    (pos 14)

-- "13: object index .. not below the count"
abbrev pub index_refusal : List ℤ → ℕ → ℤ
index_refusal l i = cond (ltb i (count_of l)) (pos 0) (pos 13)

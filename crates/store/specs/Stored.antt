-- "Stored drawing" of document 01, in the two forms of document 02 (R-3): what is written for a list of objects, what is read of bytes, and what
-- bytes are moved to. What the forms differ in is in Forms; all else is said once, over the form. Definitions alone; their laws are in
-- StoredLaws and MoveLaws. Lists of objects are those of sheet/specs/Lists, and stored numbers those of number/specs/Number.
use Rattle.std.specs.Prelude.{◌≡◌, Bool, true, cond, ◌&&◌, List, [], ◌∷◌, ◌++◌, ℕ, zero, suc, ◌<◌, ltb, eqb, ℤ, pos, nat_abs, ◌+ℤ◌, ◌-ℤ◌}
use Rattle.whole.specs.Flag.{eq_z}
use Rattle.whole.specs.Choice.{or_else}
use Rattle.whole.specs.InTurn.{in_turn, all_of}
use Rattle.sheet.specs.declared.Object.{Object}
use Rattle.sheet.specs.Figure.{Vec, vec}
use Rattle.sheet.specs.Limits.{most}
use Rattle.sheet.specs.Refusal.{outside, beyond, equal}
use Rattle.sheet.specs.Answers.{object_numbers}
use Rattle.sheet.specs.Lists.{count_of, object_at, list_refusal}
use Rattle.number.specs.Number.{write_number, zigzag, Reading, got, no, next, checked, read_number, unzigzag}
use Rattle.store.specs.declared.Form.{Form}
use Rattle.store.specs.declared.Form.TheVariants.{Old, New}
use Rattle.store.specs.declared.reading.Head.{Head}
use Rattle.store.specs.Forms.{mark, write_mark, untagged, write_tag, read_tag, origin_of, nought}

-- ---- writing

-- a coordinate is counted from a start, and so is a point
abbrev pub write_coordinate : ℤ → ℤ → List ℕ
write_coordinate start z = write_number (zigzag (z -ℤ start))

abbrev pub write_point : Vec → Vec → List ℕ
write_point start p = write_coordinate start.x p.x ++ write_coordinate start.y p.y

abbrev pub write_pair : Form → Vec → Vec → List ℕ
write_pair f p q = write_point nought p ++ write_point (origin_of f p) q

-- "Then each object: kind; for kinds 1 to 3 px, py, qx, qy ..; for kind 4 the plain side number."
unfoldable pub write_shape : Form → ℤ → ℤ → ℤ → ℤ → ℤ → List ℕ
write_shape f kind px py qx qy = cond (eq_z kind (pos 4)) (write_number (nat_abs px)) (write_pair f (vec px py) (vec qx qy))

-- "for each object kind, tag, px, py and the signed differences ..; a side has kind, tag, side number"
unfoldable pub write_object : Form → Object → List ℕ
write_object f o =
    write_number (nat_abs o.kind) ++ (write_tag f o.tag ++ write_shape f o.kind o.px o.py o.qx o.qy)

-- the first n objects of a list, one after another
abbrev pub write_objects : Form → ℕ → List ℤ → List ℕ
write_objects f n l = all_of (λ i. write_object f (object_at l i)) n

-- "First the count.", behind the mark of the form
unfoldable pub write_drawing : Form → List ℤ → List ℕ
write_drawing f l = write_mark f ++ (write_number (count_of l) ++ write_objects f (count_of l) l)

-- "tags that are all 0": of a list; and as a flag, of its first n objects
pub record Untagged (l : List ℤ) : Type 0 where
  pub each : (i : ℕ) → i < count_of l → (object_at l i).tag ≡ untagged

abbrev pub all_untagged : List ℤ → ℕ → Bool
all_untagged l n = in_turn ◌&&◌ true (λ i. eq_z (object_at l i).tag untagged) n

-- "16 a tag other than 0 written in the old form"; the new one has a place for every tag
unfoldable pub tags_refusal : Form → List ℤ → ℤ
tags_refusal Old l = cond (all_untagged l (count_of l)) (pos 0) (pos 16)
tags_refusal New l = pos 0

-- what a list that is to be written is refused by: 16 "after all objects and before 10"
unfoldable pub write_refusal : Form → List ℤ → ℤ
write_refusal f l = or_else (list_refusal l) (tags_refusal f l)

-- ---- reading

-- "2: a coordinate beyond 2,000 either way"; "a q beyond 2,000 is 2, met at the difference that makes it"
unfoldable pub read_coordinate : ℤ → List ℕ → Reading ℤ
read_coordinate start bs = next (read_number bs) (λ n rest. checked (beyond (start +ℤ unzigzag n)) (pos 2) (start +ℤ unzigzag n) rest)

-- an object by what is stored of it: kind, tag, px, py, qx, qy
abbrev pub object_of : ℤ → ℤ → ℤ → ℤ → ℤ → ℤ → Object
object_of kind tag px py qx qy = record { kind = kind; px = px; py = py; qx = qx; qy = qy; tag = tag }

-- "Kind 4, a whole frame side. px is its number .. The other three numbers are 0."
abbrev pub side_object : ℤ → ℤ → Object
side_object tag n = object_of (pos 4) tag n (pos 0) (pos 0) (pos 0)

-- "4: side number not 1 to 4"
unfoldable pub read_side : ℤ → List ℕ → Reading Object
read_side tag bs =
    next (read_number bs)
    (λ n rest. checked (outside (pos 1) (pos 4) (pos n)) (pos 4) (side_object tag (pos n)) rest)

unfoldable pub read_point : Vec → List ℕ → Reading Vec
read_point start bs =
    next (read_coordinate start.x bs) (λ x rest. next (read_coordinate start.y rest) (λ y rest. got (vec x y) rest))

-- "p against q comes after qy"; "both differences 0 is 3"
unfoldable pub read_to : Form → ℕ → ℤ → Vec → List ℕ → Reading Object
read_to f kind tag p bs =
    next (read_point (origin_of f p) bs)
    (λ q rest. checked (equal p.x p.y q.x q.y) (pos 3)
    (object_of (pos kind) tag p.x p.y q.x q.y) rest)

unfoldable pub read_pair : Form → ℕ → ℤ → List ℕ → Reading Object
read_pair f kind tag bs = next (read_point nought bs) (λ p rest. read_to f kind tag p rest)

-- "for kinds 1 to 3 px, py, qx, qy ..; for kind 4 the plain side number"
unfoldable pub read_shape : Form → ℕ → ℤ → List ℕ → Reading Object
read_shape f kind tag bs = cond (eqb kind 4) (read_side tag bs) (read_pair f kind tag bs)

-- behind the kind: the tag, and then the shape
abbrev pub read_tagged : Form → ℕ → List ℕ → Reading Object
read_tagged f kind bs = next (read_tag f bs) (λ tag rest. read_shape f kind tag rest)

-- "1: kind not 1 to 4"
unfoldable pub read_object : Form → List ℕ → Reading Object
read_object f bs =
    next (read_number bs)
    (λ kind rest. cond (outside (pos 1) (pos 4) (pos kind)) (no (pos 1)) (read_tagged f kind rest))

-- the objects read, and the refusal first met, 0 for none
pub record Drawing : Type 0 where
  pub objects : List ℤ
  pub refusal : ℤ

abbrev pub refused : ℤ → Drawing
refused n = record { objects = []; refusal = n }

abbrev pub before : Object → Drawing → Drawing
before o d = record { objects = object_numbers o ++ d.objects; refusal = d.refusal }

abbrev pub and_then : Reading Object → (List ℕ → Drawing) → Drawing
and_then (got o rest) f = before o (f rest)
and_then (no n) f = refused n

-- "The bytes after the count are read object by object." "9: bytes after the last object"
unfoldable pub read_objects : Form → ℕ → List ℕ → Drawing
read_objects f zero [] = refused (pos 0)
read_objects f zero (b ∷ bs) = refused (pos 9)
read_objects f (suc n) bs = and_then (read_object f bs) (λ rest. read_objects f n rest)

-- "The reader takes either form": the mark is taken, and any other number is left to be the count
unfoldable pub read_form : List ℕ → Reading Form
read_form bs = next (read_number bs) (λ n rest. cond (eqb n mark) (got New rest) (got Old bs))

-- "11: more than 512 objects"
unfoldable pub read_count : List ℕ → Reading ℕ
read_count bs = next (read_number bs) (λ n rest. checked (ltb most n) (pos 11) n rest)

-- what stands before the objects
abbrev pub head_of : Form → ℕ → Head
head_of f n = record { form = f; count = n }

abbrev pub head_in : Form → List ℕ → Reading Head
head_in f bs = next (read_count bs) (λ n rest. got (head_of f n) rest)

unfoldable pub read_head : List ℕ → Reading Head
read_head bs = next (read_form bs) (λ f rest. head_in f rest)

abbrev pub counted : Reading Head → Drawing
counted (got h rest) = read_objects h.form h.count rest
counted (no n) = refused n

unfoldable pub read_drawing : List ℕ → Drawing
read_drawing bs = counted (read_head bs)

-- "an old reader", which knows document 01's form alone and takes the first number for the count
unfoldable pub old_reader : List ℕ → Drawing
old_reader bs = counted (head_in Old bs)

-- the form that accepted bytes have; of others it says nothing
abbrev pub form_in : Reading Head → Form
form_in (got h rest) = h.form
form_in (no n) = Old

unfoldable pub form_of : List ℕ → Form
form_of bs = form_in (read_head bs)

-- ---- moving bytes to a form

-- the bytes' own, then "16 for the move back"
unfoldable pub move_refusal : Form → List ℕ → ℤ
move_refusal f bs = or_else (read_drawing bs).refusal (tags_refusal f (read_drawing bs).objects)

-- the objects that are read, written in the form
unfoldable pub moved : Form → List ℕ → List ℕ
moved f bs = write_drawing f (read_drawing bs).objects

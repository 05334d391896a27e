-- "Above the plain functions stands a reader that holds the lent bytes and its place, and gives one object per call." Definitions alone;
-- what calling it again and again gives is in ReaderLaws.
use Rattle.std.specs.Prelude.{cond, true, false, List, [], ◌∷◌, ℕ, zero, suc, ◌*◌, ◌-◌, ltb, ℤ, pos, length, drop}
use Rattle.whole.specs.Flag.{eq_z}
use Rattle.sheet.specs.declared.Object.{Object}
use Rattle.sheet.specs.Answers.{object_numbers}
use Rattle.sheet.specs.Lists.{width, object_at}
use Rattle.store.specs.declared.Form.{Form}
use Rattle.store.specs.declared.Form.TheVariants.{Old}
use Rattle.store.specs.declared.Bookmark.{Bookmark}
use Rattle.store.specs.declared.Reader.{Reader}
use Rattle.number.specs.Number.{Reading, got, no}
use Rattle.store.specs.Stored.{Drawing, read_object, read_head}
use Rattle.store.specs.declared.reading.Head.{Head}

-- "one object per call": what a call gives, an object, the end, or the number of the refusal
pub data Item : Type 0 where
  One : Object → Item
  End : Item
  Refused : ℤ → Item

-- an item, and the place after it
pub record Step : Type 0 where
  pub item : Item
  pub place : Bookmark

-- an item, and the reader after it
pub record Take : Type 0 where
  pub reader : Reader
  pub item : Item

-- before the first call: "its first call also reads the count", and with it the form
abbrev pub start_place : Bookmark
start_place = record { begun = false; form = Old; left = 0; at = 0 }

-- where the rest of the bytes begins
abbrev pub rest_begins : List ℕ → List ℕ → ℕ
rest_begins bs rest = length bs - length rest

abbrev pub step_to : Item → Bookmark → Step
step_to i p = record { item = i; place = p }

-- "end and refusal keep its place"
abbrev pub step_object : List ℕ → Bookmark → Form → ℕ → Reading Object → Step
step_object bs p f left (got o rest) = step_to (One o) (record { begun = true; form = f; left = left; at = rest_begins bs rest })
step_object bs p f left (no n) = step_to (Refused n) p

-- one call at the place p, where left objects of the form f are left and the next one begins at `at`.
-- "After the last it says end, or 9 if bytes remain"
unfoldable pub step_from : List ℕ → Bookmark → Form → ℕ → ℕ → Step
step_from bs p f zero at = step_to (cond (ltb at (length bs)) (Refused (pos 9)) End) p
step_from bs p f (suc left) at = step_object bs p f left (read_object f (drop at bs))

abbrev pub step_head : List ℕ → Bookmark → Reading Head → Step
step_head bs p (got h rest) = step_from bs p h.form h.count (rest_begins bs rest)
step_head bs p (no n) = step_to (Refused n) p

unfoldable pub step_of : List ℕ → Bookmark → Step
step_of bs p = cond p.begun (step_from bs p p.form p.left p.at) (step_head bs p (read_head bs))

-- a call of a reader: the same bytes, at the place after the step
abbrev pub taken_of : Reader → Take
taken_of r =
    record {
      reader = record { bytes = r.bytes; place = (step_of r.bytes.now r.place).place };
      item = (step_of r.bytes.now r.place).item;
    }

-- what call number k gives, where the first call (number 0) is at the place p
unfoldable pub call_from : List ℕ → Bookmark → ℕ → Item
call_from bs p zero = (step_of bs p).item
call_from bs p (suc k) = call_from bs (step_of bs p).place k

-- the objects of a drawing in order, and then its end or its refusal
abbrev pub end_of : ℤ → Item
end_of n = cond (eq_z n (pos 0)) End (Refused n)

unfoldable pub item_of : Drawing → ℕ → Item
item_of d k = cond (ltb (k * width) (length d.objects)) (One (object_at d.objects k)) (end_of d.refusal)

-- what an item says, as the paper's numbers: 0 and the six of an object, nothing at the end, the number of a refusal
abbrev pub item_says : Item → List ℤ
item_says (One o) = pos 0 ∷ object_numbers o
item_says End = []
item_says (Refused n) = n ∷ []

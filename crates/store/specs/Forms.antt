-- The two forms of a stored drawing: document 01's, and the shorter one of document 02 (R-3). All that they differ in stands here: the number
-- that the new one starts with, the tag, where q is counted from, and how long they can be. Definitions alone.
use Rattle.std.specs.Prelude.{List, [], ℕ, ◌+◌, ◌*◌, ℤ, pos, nat_abs}
use Rattle.sheet.specs.Figure.{Vec, vec}
use Rattle.sheet.specs.Limits.{most, last_tag}
use Rattle.sheet.specs.Refusal.{outside}
use Rattle.number.specs.Number.{write_number, Reading, got, next, checked, read_number}
use Rattle.store.specs.declared.Form.{Form}
use Rattle.store.specs.declared.Form.TheVariants.{Old, New}

-- ---- the mark

-- "The new form starts with the number 1000, which no old drawing has as its count"
abbrev pub mark : ℕ
mark = 1000

-- what stands before the count
unfoldable pub write_mark : Form → List ℕ
write_mark Old = []
write_mark New = write_number mark

-- ---- the tag

-- "The stored form of document 01 has no place for" a tag (document 02): the one that its objects have
abbrev pub untagged : ℤ
untagged = pos 0

-- ".. for each object kind, tag, .."; in the old form nothing
unfoldable pub write_tag : Form → ℤ → List ℕ
write_tag Old tag = []
write_tag New tag = write_number (nat_abs tag)

-- "a tag out of range is 15, met at the tag"; in the old form "reading gives 0"
unfoldable pub read_tag : Form → List ℕ → Reading ℤ
read_tag Old bs = got untagged bs
read_tag New bs = next (read_number bs) (λ n rest. checked (outside (pos 0) last_tag (pos n)) (pos 15) (pos n) rest)

-- ---- where q is counted from

-- "the signed differences qx - px and qy - py": a coordinate of q is counted from the same coordinate of p, and in the old form from 0
abbrev pub origin : Form → ℤ → ℤ
origin Old z = pos 0
origin New z = z

abbrev pub origin_of : Form → Vec → Vec
origin_of f p = vec (origin f p.x) (origin f p.y)

-- p is counted from here
abbrev pub nought : Vec
nought = vec (pos 0) (pos 0)

-- ---- the largest lengths

-- before the objects: the count in two bytes, and behind the mark, which takes two
abbrev pub mark_most : Form → ℕ
mark_most Old = 0
mark_most New = 2

abbrev pub head_most : Form → ℕ
head_most f = 2 + mark_most f

-- an object: its kind in one byte, four coordinates in two each, and its tag in three
abbrev pub tag_most : Form → ℕ
tag_most Old = 0
tag_most New = 3

abbrev pub object_most : Form → ℕ
object_most f = 9 + tag_most f

abbrev pub longest_of : Form → ℕ
longest_of f = head_most f + most * object_most f

-- of a drawing of either form
abbrev pub longest : ℕ
longest = longest_of New

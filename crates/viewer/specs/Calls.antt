-- "The C viewer can call: check these stored bytes (0 or the refusal), and give the side of object i for whole x, y. The second answers
-- -1, 0, 1, or 100 plus the refusal: the bytes' own, then 13, then 2." Definitions alone; their laws are in CallsLaws.
use Rattle.std.specs.Prelude.{cond, ◌||◌, List, ℕ, ℤ, pos, negsuc, nat_abs, ◌+ℤ◌}
use Rattle.whole.specs.Flag.{eq_z}
use Rattle.sheet.specs.declared.Object.{Object}
use Rattle.sheet.specs.declared.Point.{Point}
use Rattle.sheet.specs.Refusal.{beyond}
use Rattle.sheet.specs.Points.{given}
use Rattle.sheet.specs.Signs.{side_sign}
use Rattle.whole.specs.Choice.{or_else}
use Rattle.sheet.specs.Lists.{object_at}
use Rattle.sheet.specs.Lists as lists
use Rattle.store.specs.Stored.{Drawing, read_drawing}

-- "check these stored bytes (0 or the refusal)"
abbrev pub check_answer : List ℕ → ℤ
check_answer bytes = (read_drawing bytes).refusal

-- the object of index i
abbrev pub object : Drawing → ℤ → Object
object d i = object_at d.objects (nat_abs i)

-- the point of whole x, y
abbrev pub whole : ℤ → ℤ → Point
whole x y = given (record { x = x; y = y })

-- "13: object index below 0 or not below the count"
abbrev pub index_refusal : Drawing → ℤ → ℤ
index_refusal d (pos k) = lists.index_refusal d.objects k
index_refusal d (negsuc k) = pos 13

-- "2: a coordinate beyond 2,000 either way"
abbrev pub place_refusal : ℤ → ℤ → ℤ
place_refusal x y = cond (beyond x || beyond y) (pos 2) (pos 0)

-- "the bytes' own, then 13, then 2"
abbrev pub call_refusal : Drawing → ℤ → ℤ → ℤ → ℤ
call_refusal d i x y = or_else d.refusal (or_else (index_refusal d i) (place_refusal x y))

-- "-1, 0, 1, or 100 plus the refusal"
abbrev pub sign_or : ℤ → ℤ → ℤ
sign_or refusal sign = cond (eq_z refusal (pos 0)) sign (pos 100 +ℤ refusal)

-- "give the side of object i for whole x, y", of a drawing that was read
unfoldable pub side_in : Drawing → ℤ → ℤ → ℤ → ℤ
side_in d i x y = sign_or (call_refusal d i x y) (side_sign (object d i) (whole x y))

abbrev pub side_answer : List ℕ → ℤ → ℤ → ℤ → ℤ
side_answer bytes i x y = side_in (read_drawing bytes) i x y

-- What the writing functions of the code ask and say. Accepted objects are bounded.
use Rattle.std.specs.Prelude.{List, [], ◌∷◌, ℕ, ◌≤◌, T, pos, nat_abs, ◌-ℤ◌}
use Rattle.std.specs.Int.Signed.{non_neg}
use Rattle.sheet.specs.declared.Object.{Object}
use Rattle.sheet.specs.Limits.{reach_size, last_tag}
use Rattle.number.specs.Number.{zigzag}
use Rattle.store.specs.declared.Form.{Form}
use Rattle.store.specs.declared.Form.TheVariants.{Old, New}
use Rattle.store.specs.Forms.{mark, origin}

-- a kind and a tag of 0 or more, the tag within its limit, and every other number within the limits of coordinates
pub record Bounded (o : Object) : Type 0 where
  pub above : T (non_neg o.kind)
  pub kind : nat_abs o.kind ≤ reach_size
  pub px : nat_abs o.px ≤ reach_size
  pub py : nat_abs o.py ≤ reach_size
  pub qx : nat_abs o.qx ≤ reach_size
  pub qy : nat_abs o.qy ≤ reach_size
  pub tag_above : T (non_neg o.tag)
  pub tag : nat_abs o.tag ≤ nat_abs last_tag

-- the numbers that a form stores for the kind and the tag of an object, and for its points
abbrev pub front_numbers : Form → Object → List ℕ
front_numbers Old o = nat_abs o.kind ∷ []
front_numbers New o = nat_abs o.kind ∷ nat_abs o.tag ∷ []

abbrev pub pair_numbers : Form → Object → List ℕ
pair_numbers f o =
    zigzag (o.px -ℤ pos 0)
    ∷ zigzag (o.py -ℤ pos 0)
    ∷ zigzag (o.qx -ℤ origin f o.px)
    ∷ zigzag (o.qy -ℤ origin f o.py)
    ∷ []

-- and those before the objects
abbrev pub head_numbers : Form → ℕ → List ℕ
head_numbers Old n = n ∷ []
head_numbers New n = mark ∷ n ∷ []

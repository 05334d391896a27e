-- Which objects are refused: "One object: 1, then 4 for kind 4; else 2, then 3.", and "15 tag out of range, after 3 or 4" (document 02).
use Rattle.std.specs.Prelude.{◌≡◌, Bool, cond, not, ◌&&◌, ◌||◌, ℤ, pos, neg_ℤ}
use Rattle.std.specs.Int.Signed.{lt_z}
use Rattle.whole.specs.Flag.{eq_z}
use Rattle.sheet.specs.declared.Object.{Object}
use Rattle.whole.specs.Choice.{or_else}
use Rattle.sheet.specs.Limits.{reach, last_tag}

-- z is none of lo, lo + 1, .., hi
abbrev pub outside : ℤ → ℤ → ℤ → Bool
outside lo hi z = lt_z z lo || lt_z hi z

-- "2: a coordinate beyond 2,000 either way"
abbrev pub beyond : ℤ → Bool
beyond z = outside (neg_ℤ reach) reach z

abbrev pub any_beyond : ℤ → ℤ → ℤ → ℤ → Bool
any_beyond px py qx qy = beyond px || beyond py || beyond qx || beyond qy

-- "3: p equals q"
abbrev pub equal : ℤ → ℤ → ℤ → ℤ → Bool
equal px py qx qy = eq_z px qx && eq_z py qy

unfoldable pub pair_refusal : ℤ → ℤ → ℤ → ℤ → ℤ
pair_refusal px py qx qy = cond (any_beyond px py qx qy) (pos 2) (cond (equal px py qx qy) (pos 3) (pos 0))

-- "4: side number not 1 to 4, or one of the other three numbers not 0"
abbrev pub no_side : ℤ → ℤ → ℤ → ℤ → Bool
no_side n a b c = outside (pos 1) (pos 4) n || not (eq_z a (pos 0)) || not (eq_z b (pos 0)) || not (eq_z c (pos 0))

unfoldable pub side_refusal : ℤ → ℤ → ℤ → ℤ → ℤ
side_refusal n a b c = cond (no_side n a b c) (pos 4) (pos 0)

-- "1: kind not 1 to 4"
abbrev pub refusal_of : ℤ → ℤ → ℤ → ℤ → ℤ → ℤ
refusal_of kind px py qx qy =
    cond (outside (pos 1) (pos 4) kind) (pos 1)
    (cond (eq_z kind (pos 4)) (side_refusal px py qx qy) (pair_refusal px py qx qy))

-- "15 tag out of range"
abbrev pub tag_refusal : ℤ → ℤ
tag_refusal tag = cond (outside (pos 0) last_tag tag) (pos 15) (pos 0)

unfoldable pub object_refusal : Object → ℤ
object_refusal o = or_else (refusal_of o.kind o.px o.py o.qx o.qy) (tag_refusal o.tag)

-- an accepted object
pub record Accepted (o : Object) : Type 0 where
  pub accepted : object_refusal o ≡ pos 0

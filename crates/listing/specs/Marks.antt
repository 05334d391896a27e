-- What the inner functions of the code say of marks: x of an end, (m R + n)/w, in lists, and which of two is left.
use Rattle.std.specs.Prelude.{◌≡◌, Bool, cond, List, ℕ, ◌<◌, ◌≤◌, ℤ, pos, ◌-ℤ◌, ◌*ℤ◌, length, get_or}
use Rattle.std.specs.Int.Signed.{lt_z}
use Rattle.whole.specs.Flag.{eq_z}
use Rattle.whole.specs.Within.{Within}
use Rattle.sheet.specs.declared.Object.{Object}
use Rattle.sheet.specs.declared.Point.{Point}
use Rattle.sheet.proofs.EndsLaws.{Fine}
use Rattle.sheet.specs.Extent.{is_left, left_end, right_end}
use Rattle.sheet.specs.Lists.{object_at}
use Rattle.listing.specs.declared.extents.Mark.{Mark}
use Rattle.listing.specs.declared.extents.Extent.{Extent}

abbrev pub mark : ℤ → ℤ → ℤ → Mark
mark m n w = record { m = m; n = n; w = w }

abbrev pub mark_of : Point → Mark
mark_of p = mark p.mx p.nx p.w

-- a mark that an end has
pub record OfEnd (a : Mark) : Type 0 where
  pub point : Point
  pub fine : Fine point
  pub is : a ≡ mark_of point

-- the numbers of such a mark are so small that the code may reckon with them
pub record Sound (a : Mark) : Type 0 where
  pub in_m : Within 4000 a.m
  pub in_n : Within 8000000 a.n
  pub in-w : Within 4000 a.w

-- the first of two marks is left of the second
unfoldable pub is_left_mark : Mark → Mark → Bool
is_left_mark a b =
    cond (eq_z (a.m *ℤ b.w -ℤ b.m *ℤ a.w) (pos 0))
    (lt_z (a.n *ℤ b.w -ℤ b.n *ℤ a.w) (pos 0))
    (lt_z (a.m *ℤ b.w -ℤ b.m *ℤ a.w) (pos 0))

-- ---- extents

abbrev pub extent_by : Point → Point → Extent
extent_by e f = record { left = mark_of (cond (is_left f e) f e); right = mark_of (cond (is_left f e) e f) }

abbrev pub extent_of : Object → Extent
extent_of o = record { left = mark_of (left_end o); right = mark_of (right_end o) }

-- ---- lists of marks

abbrev pub mark_at : List Mark → ℕ → Mark
mark_at marks i = get_or marks i (mark (pos 0) (pos 0) (pos 0))

-- those of the left ends, and of the right ends, of a list's objects
abbrev pub left_mark : List ℤ → ℕ → Mark
left_mark l i = mark_of (left_end (object_at l i))

abbrev pub right_mark : List ℤ → ℕ → Mark
right_mark l i = mark_of (right_end (object_at l i))

-- a list holds the first n of some marks
pub record Held (f : ℕ → Mark) (marks : List Mark) (n : ℕ) : Type 0 where
  pub long : n ≤ length marks
  pub holds : (i : ℕ) → i < n → mark_at marks i ≡ f i

-- a list has n marks of ends
pub record Marked (marks : List Mark) (n : ℕ) : Type 0 where
  pub long : n ≤ length marks
  pub ends : (i : ℕ) → i < n → OfEnd (mark_at marks i)

-- What the code's inner functions say of joints: what is left out of what two figures share, and by which numbers it is told. JointsLaws says that
-- it is the paper's.
use Rattle.std.specs.Prelude.{Bool, false, cond, not, ◌&&◌, ◌||◌, ℤ, pos, negsuc, ◌*ℤ◌}
use Rattle.std.specs.Int.Signed.{le_z}
use Rattle.whole.specs.Sign.{sgn}
use Rattle.whole.specs.Flag.{eq_z}
use Rattle.sheet.specs.declared.Point.{Point}
use Rattle.sheet.specs.declared.Crossing.{Crossing}
use Rattle.sheet.specs.declared.Crossing.TheVariants as crossing
use Rattle.sheet.specs.Figure.{◌⇀◌, Figure}
use Rattle.sheet.specs.Refusal.{equal}
use Rattle.sheet.specs.Points.{size}
use Rattle.sheet.specs.Crossing.{Meeting, none, point, many, Stretch, cross, skew, together, meeting}
use Rattle.sheet.specs.Joint.{joint_by}
use Rattle.kernel.specs.Stretches.{stretch}

-- nothing of a joint, where joints are not asked for
abbrev pub left_out : Bool → Bool → Meeting → Meeting
left_out joints ends m = cond (not joints && ends) none m

-- of figures
abbrev pub figures_kept : Bool → Figure → Figure → Meeting
figures_kept joints f g = left_out joints (joint_by f g (meeting f g)) (meeting f g)

-- ---- not parallel: by how far along each

-- the place p + (h / w) d is p, where h is 0, or q, where h is w: of a segment either, of a ray p
abbrev pub place_end : ℤ → ℤ → ℤ → Bool
place_end kind h w = (le_z kind (pos 2) && eq_z h (pos 0)) || (eq_z kind (pos 1) && eq_z h w)

abbrev pub ends_meet : ℤ → Stretch → ℤ → Stretch → Bool
ends_meet ka A kb B =
    place_end ka (sgn (cross A.d B.d) *ℤ cross (A.p ⇀ B.p) B.d) (size (cross A.d B.d))
    && place_end kb (sgn (cross A.d B.d) *ℤ cross (A.p ⇀ B.p) A.d) (size (cross A.d B.d))

-- ---- on one line: a shared point is given

-- p of a segment or a ray, or q of a segment
abbrev pub own_end : ℤ → ℤ → ℤ → ℤ → ℤ → ℤ → ℤ → Bool
own_end kind px py qx qy x y = (le_z kind (pos 2) && equal x y px py) || (eq_z kind (pos 1) && equal x y qx qy)

-- of what two share
abbrev pub touches : ℤ → ℤ → ℤ → ℤ → ℤ → ℤ → ℤ → ℤ → ℤ → ℤ → Meeting → Bool
touches ka px py qx qy kb rx ry sx sy none = false
touches ka px py qx qy kb rx ry sx sy (point e) = own_end ka px py qx qy e.nx e.ny && own_end kb rx ry sx sy e.nx e.ny
touches ka px py qx qy kb rx ry sx sy many = false

-- ---- two stretches, by their numbers

module _ (joints : Bool) (ka px py qx qy kb rx ry sx sy : ℤ) where
  abbrev A : Stretch
  A = stretch ka px py qx qy

  abbrev B : Stretch
  B = stretch kb rx ry sx sy

  abbrev pub touch_left : Crossing → Crossing
  touch_left crossing.Nothing = crossing.Nothing
  touch_left (crossing.Once e) = cond (not joints && touches ka px py qx qy kb rx ry sx sy (point e)) crossing.Nothing (crossing.Once e)
  touch_left crossing.Many = crossing.Many

  abbrev pub skew_kept : Meeting
  skew_kept = left_out joints (ends_meet ka A kb B) (skew A B)

  abbrev pub together_kept : Meeting
  together_kept = left_out joints (touches ka px py qx qy kb rx ry sx sy (together A B)) (together A B)

  abbrev pub stretches_kept : Meeting
  stretches_kept =
      cond (eq_z (cross A.d B.d) (pos 0))
      (cond (eq_z (cross A.d (A.p ⇀ B.p)) (pos 0)) together_kept none)
      skew_kept

-- ---- with a side

-- 1 or -1
abbrev pub is_unit : ℤ → Bool
is_unit m = eq_z m (pos 1) || eq_z m (negsuc 0)

-- a corner of the frame
abbrev pub is_corner : ℤ → ℤ → ℤ → ℤ → ℤ → Bool
is_corner mx nx my ny w = eq_z w (pos 1) && is_unit mx && is_unit my && eq_z nx (pos 0) && eq_z ny (pos 0)

abbrev pub corner_at : Point → Bool
corner_at e = is_corner e.mx e.nx e.my e.ny e.w

abbrev pub corner_in : Meeting → Bool
corner_in none = false
corner_in (point e) = corner_at e
corner_in many = false

abbrev pub corners_left : Bool → Meeting → Meeting
corners_left joints m = left_out joints (corner_in m) m

abbrev pub corner_left : Bool → Crossing → Crossing
corner_left joints crossing.Nothing = crossing.Nothing
corner_left joints (crossing.Once e) = cond (not joints && corner_at e) crossing.Nothing (crossing.Once e)
corner_left joints crossing.Many = crossing.Many

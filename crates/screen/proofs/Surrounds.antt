-- What the box of the definitions is, in whole numbers. To cite:
--   standards, givens, ends-standard   the standard ends of an accepted object are those of its two ends that are standard points
--   Met, extreme-met           the lowest and the highest of a coordinate is that of one of the places
--   AtLeast, extreme-all       no place is beyond it
--   Surrounds, surrounds       so for all four sides of a box
--   none-zero                  of no places the box is +0 four times, and the flag
-- Assumes nothing.
use Rattle.std.specs.Prelude.{◌≡◌, refl, ◌⊎◌, Bool, true, false, cond, ℕ, ℤ, pos, ◌≤ℤ◌}
use Rattle.std.proofs.Common.{sym, ap₂, subst, inl, inr, true≢false}
use mathlib.Core.List.{List, [], ◌∷◌}
use Rattle.std.specs.Int.Signed.{lt_z, ≤ℤ_refl}
use Rattle.whole.specs.Order.{≤_trans, <-≤}
use Rattle.whole.specs.Tests.{cond-by, lt_z-true, lt_z-false}
use Rattle.sheet.specs.declared.Object.{Object}
use Rattle.sheet.specs.declared.Point.{Point}
use Rattle.sheet.specs.Figure.{Vec, ◌⇀◌, Side, left, bottom, right, top, Figure, first, second, figure}
use Rattle.sheet.specs.Refusal.{Accepted}
use Rattle.sheet.proofs.RefusalLaws.{WithinBoth, Taken, a_segment, a_ray, a_line, a_side, accepted-taken}
use Rattle.sheet.specs.Points.{given, standard}
use Rattle.sheet.specs.PointsLaws.{frame-divided}
use Rattle.sheet.specs.Ends.{moment, far_end, reverse, begins, next_side, first_of, last_of, first_end, last_end}
use Rattle.sheet.proofs.EndsLaws.{Way, proper-way, reverse-way, far-frame, given-fine}
use Rattle.screen.specs.Quotient.{float, zero+}
use Rattle.screen.proofs.QuotientLaws.{float_zero}
use Rattle.screen.specs.Shown.{Among, here, later}
use Rattle.screen.proofs.PlacesLaws.{flat-is, frame-standard}
use Rattle.screen.specs.Boxes.{standard_ends, passes, farther, part, farthest, extreme, is_none, box_of, box_says}

-- ---- the standard ends

-- those of some points that are standard
abbrev pub standards : List Point → List Point
standards [] = []
standards (p ∷ ps) = cond (standard p) (p ∷ standards ps) (standards ps)

abbrev pub givens : List Vec → List Point
givens [] = []
givens (v ∷ vs) = given v ∷ givens vs

given-standard : {v : Vec} → WithinBoth 2000 v → standard (given v) ≡ true
given-standard s = sym (flat-is (given-fine s).point)

far-standard : (p d : Vec) → Way d.x d.y (moment p d) → standard (far_end p d) ≡ false
unfolding far_end
far-standard p d h = frame-standard (frame-divided (far-frame d.x d.y (moment p d) h))

begins-standard : (n : Side) → standard (begins n) ≡ false
unfolding standard
begins-standard left = refl
begins-standard bottom = refl
begins-standard right = refl
begins-standard top = refl

module _ (p q : Point) where
  -- by the flags of two points
  abbrev by : Bool → Bool → List Point
  by s t = cond s (p ∷ cond t (q ∷ []) []) (cond t (q ∷ []) [])

  two-standards : {s t : Bool} → standard p ≡ s → standard q ≡ t → standards (p ∷ q ∷ []) ≡ by s t
  two-standards e f = ap₂ by e f

pub ends-standard : {o : Object} → Accepted o → standards (first_end o ∷ last_end o ∷ []) ≡ givens (standard_ends (figure o))
unfolding first_end last_end
ends-standard {o} a = go (accepted-taken a)
  where
    is : {f : Figure} → figure o ≡ f → standards (first_of f ∷ last_of f ∷ []) ≡ givens (standard_ends f)
        → standards (first_of (figure o) ∷ last_of (figure o) ∷ []) ≡ givens (standard_ends (figure o))
    is e = subst (λ (g : Figure). standards (first_of g ∷ last_of g ∷ []) ≡ givens (standard_ends g)) (sym e)

    go : Taken o → standards (first_of (figure o) ∷ last_of (figure o) ∷ []) ≡ givens (standard_ends (figure o))
    go (a_segment k e h) = is e (two-standards _ _ (given-standard h.small_p) (given-standard h.small_q))
    go (a_ray k e h) = is e (two-standards _ _ (given-standard h.small_p) (far-standard (first o) (first o ⇀ second o) (proper-way h)))
    go (a_line k e h) =
        let d = first o ⇀ second o in
        let w = proper-way h in
        is e (two-standards _ _ (far-standard (first o) (reverse d) (reverse-way (first o) d w)) (far-standard (first o) d w))
    go (a_side k s e) = is e (two-standards _ _ (begins-standard s.which) (begins-standard (next_side s.which)))

-- ---- a coordinate of one of the places

pub record Met (axis : ℕ) (z : ℤ) (vs : List Vec) : Type 0 where
  pub place : Vec
  pub among : Among place vs
  pub equal : part axis place ≡ z

more : {axis : ℕ} {z : ℤ} {u : Vec} {vs : List Vec} → Met axis z vs → Met axis z (u ∷ vs)
more m = record { place = m.place; among = later m.among; equal = m.equal }

-- z itself, or a coordinate of one of the places
abbrev From : ℕ → ℤ → ℤ → List Vec → Type 0
From axis z far vs = (far ≡ z) ⊎ Met axis far vs

-- a coordinate of the first place, or of a later one
from_first : {axis : ℕ} {far : ℤ} {v : Vec} {vs : List Vec} → From axis (part axis v) far vs → Met axis far (v ∷ vs)
from_first {v = v} (inl e) = record { place = v; among = here; equal = sym e }
from_first (inr m) = more m

from-later : {axis : ℕ} {z far : ℤ} {u : Vec} {vs : List Vec} → From axis z far vs → From axis z far (u ∷ vs)
from-later (inl e) = inl e
from-later (inr m) = inr (more m)

farthest-met : (up : Bool) (axis : ℕ) (z : ℤ) (vs : List Vec) → From axis z (farthest up axis z vs) vs
unfolding farthest
farthest-met up axis z [] = inl refl
farthest-met up axis z (v ∷ vs) =
    cond-by (λ (y : ℤ). From axis z (farthest up axis y vs) (v ∷ vs)) (passes up z (part axis v))
    (λ e. inr (from_first (farthest-met up axis (part axis v) vs)))
    (λ e. from-later (farthest-met up axis z vs))

pub extreme-met : (up : Bool) (axis : ℕ) (vs : List Vec) → is_none vs ≡ false → Met axis (extreme up axis vs) vs
unfolding extreme
extreme-met up axis [] e = absurd (true≢false e)
extreme-met up axis (v ∷ vs) e = from_first (farthest-met up axis (part axis v) vs)

-- ---- no place is beyond

-- a is as far as b, or farther
pub data AtLeast : Bool → ℤ → ℤ → Type 0 where
  not_above : {a b : ℤ} → a ≤ℤ b → AtLeast false a b
  not_below : {a b : ℤ} → b ≤ℤ a → AtLeast true a b

lowest : {a b : ℤ} → AtLeast false a b → a ≤ℤ b
lowest (not_above h) = h

highest : {a b : ℤ} → AtLeast true a b → b ≤ℤ a
highest (not_below h) = h

as-far : (up : Bool) (a : ℤ) → AtLeast up a a
as-far false a = not_above (≤ℤ_refl a)
as-far true a = not_below (≤ℤ_refl a)

farther-on : {up : Bool} {a b c : ℤ} → AtLeast up a b → AtLeast up b c → AtLeast up a c
farther-on (not_above h) (not_above k) = not_above (≤_trans h k)
farther-on (not_below h) (not_below k) = not_below (≤_trans k h)

farther-first : (up : Bool) (a b : ℤ) → AtLeast up (farther up a b) a
farther-first false a b = cond-by (λ (z : ℤ). AtLeast false z a) (lt_z b a) (λ e. not_above (<-≤ (lt_z-true e))) (λ e. as-far false a)
farther-first true a b = cond-by (λ (z : ℤ). AtLeast true z a) (lt_z a b) (λ e. not_below (<-≤ (lt_z-true e))) (λ e. as-far true a)

farther-second : (up : Bool) (a b : ℤ) → AtLeast up (farther up a b) b
farther-second false a b = cond-by (λ (z : ℤ). AtLeast false z b) (lt_z b a) (λ e. as-far false b) (λ e. not_above (lt_z-false e))
farther-second true a b = cond-by (λ (z : ℤ). AtLeast true z b) (lt_z a b) (λ e. as-far true b) (λ e. not_below (lt_z-false e))

module _ (up : Bool) where
  farthest-start : (axis : ℕ) (z : ℤ) (vs : List Vec) → AtLeast up (farthest up axis z vs) z
  unfolding farthest
  farthest-start axis z [] = as-far up z
  farthest-start axis z (v ∷ vs) = farther-on (farthest-start axis (farther up z (part axis v)) vs) (farther-first up z (part axis v))

  farthest-all : (axis : ℕ) {v : Vec} (z : ℤ) {vs : List Vec} → Among v vs → AtLeast up (farthest up axis z vs) (part axis v)
  unfolding farthest
  farthest-all axis {v} z (here {vs = vs}) =
      farther-on (farthest-start axis (farther up z (part axis v)) vs) (farther-second up z (part axis v))
  farthest-all axis z (later {u = u} m) = farthest-all axis (farther up z (part axis u)) m

  pub extreme-all : (axis : ℕ) {v : Vec} {vs : List Vec} → Among v vs → AtLeast up (extreme up axis vs) (part axis v)
  unfolding extreme
  extreme-all axis {v} (here {vs = vs}) = farthest-start axis (part axis v) vs
  extreme-all axis (later {u = u} m) = farthest-all axis (part axis u) m

-- ---- the box

-- each of the four numbers is a coordinate of one of the places, and no place lies outside
pub record Surrounds (vs : List Vec) (lx ly hx hy : ℤ) : Type 0 where
  pub met : Met 0 lx vs × Met 0 hx vs × Met 1 ly vs × Met 1 hy vs
  pub inside : (v : Vec) → Among v vs → (lx ≤ℤ v.x) × (v.x ≤ℤ hx) × (ly ≤ℤ v.y) × (v.y ≤ℤ hy)

pub surrounds : (vs : List Vec) → is_none vs ≡ false
    → Surrounds vs (extreme false 0 vs) (extreme false 1 vs) (extreme true 0 vs) (extreme true 1 vs)
surrounds vs e = record {
  met = (extreme-met false 0 vs e, extreme-met true 0 vs e, extreme-met false 1 vs e, extreme-met true 1 vs e);
  inside = λ v m. (
    lowest (extreme-all false 0 m),
    highest (extreme-all true 0 m),
    lowest (extreme-all false 1 m),
    highest (extreme-all true 1 m),
  );
}

-- "with none, all four are +0 and a flag says so"
pub none-zero : box_says (box_of []) ≡ record { wholes = pos 0 ∷ pos 1 ∷ []; floats = zero+ ∷ zero+ ∷ zero+ ∷ zero+ ∷ [] }
none-zero = refl

-- which is also what is found of no places
pub extreme-none : (up : Bool) (axis : ℕ) → float (extreme up axis []) ≡ zero+
unfolding extreme
extreme-none up axis = float_zero

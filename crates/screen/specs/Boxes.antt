-- "A whole sheet's box is a pair of positions, lowest and highest x and y over its standard ends; with none, all four are +0 and a flag
-- says so." The lowest and the highest are found over whole numbers.
use Rattle.std.specs.Prelude.{Bool, true, false, cond, List, [], ◌∷◌, ℕ, zero, suc, ℤ, pos, Float, Option, Some, None, Result}
use Rattle.std.specs.Int.Signed.{lt_z}
use Rattle.whole.specs.InTurn.{all_of}
use Rattle.sheet.specs.declared.refusal.Refusal.{Refusal}
use Rattle.sheet.specs.Figure.{Vec, Figure, segment, ray, line, side, figure}
use Rattle.sheet.specs.Lists.{count_of, object_at}
use Rattle.screen.specs.declared.SheetBox.{SheetBox}
use Rattle.screen.specs.Quotient.{float, zero+}
use Rattle.screen.specs.Values.{Values, float_says}

-- ---- the standard ends

-- a segment's p and q, a ray's p: every other end lies on the frame
abbrev pub standard_ends : Figure → List Vec
standard_ends (segment p q) = p ∷ q ∷ []
standard_ends (ray p q) = p ∷ []
standard_ends (line p q) = []
standard_ends (side n) = []

abbrev pub ends_at : List ℤ → ℕ → List Vec
ends_at l i = standard_ends (figure (object_at l i))

-- those of all objects of a list
abbrev pub ends_of : List ℤ → List Vec
ends_of l = all_of (λ i. ends_at l i) (count_of l)

-- ---- the lowest and the highest

-- b lies beyond a: above it where up is true, else below it
abbrev pub passes : Bool → ℤ → ℤ → Bool
passes up a b = cond up (lt_z a b) (lt_z b a)

abbrev pub farther : Bool → ℤ → ℤ → ℤ
farther up a b = cond (passes up a b) b a

-- a coordinate: x at 0, y at 1
abbrev pub part : ℕ → Vec → ℤ
part zero v = v.x
part (suc n) v = v.y

-- the farthest of z and a coordinate of some places
unfoldable pub farthest : Bool → ℕ → ℤ → List Vec → ℤ
farthest up axis z [] = z
farthest up axis z (v ∷ vs) = farthest up axis (farther up z (part axis v)) vs

-- the lowest of a coordinate, or the highest where up is true; 0 of no places
unfoldable pub extreme : Bool → ℕ → List Vec → ℤ
unfolding farthest
extreme up axis [] = pos 0
extreme up axis (v ∷ vs) = farthest up axis (part axis v) vs

abbrev pub is_none : List Vec → Bool
is_none [] = true
is_none (v ∷ vs) = false

-- ---- the box

-- "with none, all four are +0"
abbrev pub nothing : SheetBox
nothing = record { low = record { x = zero+; y = zero+ }; high = record { x = zero+; y = zero+ } }

-- of no places there is none
abbrev pub box_of : List Vec → Option SheetBox
box_of [] = None
box_of (v ∷ vs) = Some (record {
  low = record { x = float (extreme false 0 (v ∷ vs)); y = float (extreme false 1 (v ∷ vs)) };
  high = record { x = float (extreme true 0 (v ∷ vs)); y = float (extreme true 1 (v ∷ vs)) };
})

-- a flag as a number
abbrev pub flag : Bool → ℤ
flag false = pos 0
flag true = pos 1

-- the lowest x and y and the highest x and y
abbrev pub corners : SheetBox → List Float
corners e = e.low.x ∷ e.low.y ∷ e.high.x ∷ e.high.y ∷ []

-- 0, the flag that says that there is none, and the four
abbrev pub box_says : Option SheetBox → Values
box_says None = record { wholes = pos 0 ∷ flag true ∷ []; floats = corners nothing }
box_says (Some e) = record { wholes = pos 0 ∷ flag false ∷ []; floats = corners e }

abbrev pub boxed_says : Result (Option SheetBox) Refusal → Values
boxed_says = float_says box_says

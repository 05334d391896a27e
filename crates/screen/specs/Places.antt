-- "A place is either a position with x and y as 64-bit floats, or an edge with its side number and a slope as a float." "An edge must also
-- give n/w of the coordinate along the side": its offset.
use Rattle.std.specs.Prelude.{Bool, cond, not, ◌&&◌, [], ◌∷◌, ℤ, pos, neg_ℤ, Result}
use Rattle.whole.specs.Flag.{eq_z}
use Rattle.sheet.specs.declared.Point.{Point}
use Rattle.sheet.specs.declared.refusal.Refusal.{Refusal}
use Rattle.sheet.specs.Figure.{Side, left, bottom, right, top, side_number}
use Rattle.sheet.specs.Ends.{next_side}
use Rattle.sheet.specs.Points.{standard}
use Rattle.screen.specs.declared.OnScreen.{OnScreen}
use Rattle.screen.specs.declared.OnScreen.TheVariants.{At, Edge}
use Rattle.screen.specs.Quotient.{quotient}
use Rattle.screen.specs.Values.{Values, float_says}

-- what each place says: 0, then x and y, or the side number, the slope and the offset
abbrev pub on_screen_says : OnScreen → Values
on_screen_says (At x y) = record { wholes = pos 0 ∷ []; floats = x ∷ y ∷ [] }
on_screen_says (Edge n t o) = record { wholes = pos 0 ∷ n ∷ []; floats = t ∷ o ∷ [] }

abbrev pub place_says : Result OnScreen Refusal → Values
place_says = float_says on_screen_says

-- ---- the side of a frame point

-- a coordinate (m R + n)/v is exactly R; of -w in place of w, exactly -R
abbrev pub exactly : ℤ → ℤ → ℤ → Bool
exactly m n v = eq_z m v && eq_z n (pos 0)

-- x is -R on the left side and R on the right one, y is -R on the bottom one and R on the top one
abbrev pub is_on : Side → Point → Bool
is_on left p = exactly p.mx p.nx (neg_ℤ p.w)
is_on bottom p = exactly p.my p.ny (neg_ℤ p.w)
is_on right p = exactly p.mx p.nx p.w
is_on top p = exactly p.my p.ny p.w

-- "A corner goes to the side that begins there", so not to the one that ends there, which is where the next one begins
abbrev pub goes_to : Side → Point → Bool
goes_to s p = is_on s p && not (is_on (next_side s) p)

unfoldable pub side_where : Point → Side
side_where p = cond (goes_to left p) left (cond (goes_to bottom p) bottom (cond (goes_to right p) right top))

-- of x and y "the coordinate along that side"
abbrev pub along : Side → ℤ → ℤ → ℤ
along left x y = y
along bottom x y = x
along right x y = y
along top x y = x

-- its m and its n
abbrev pub m_along : Side → Point → ℤ
m_along s p = along s p.mx p.my

abbrev pub n_along : Side → Point → ℤ
n_along s p = along s p.nx p.ny

-- ---- the place

-- "A standard point gives nx/w and ny/w"
abbrev pub position_of : Point → Values
position_of p = record { wholes = pos 0 ∷ []; floats = quotient p.nx p.w ∷ quotient p.ny p.w ∷ [] }

-- "a frame point gives its side and m/w of the coordinate along that side", and n/w of it
abbrev pub edge_of : Point → Values
edge_of p = record {
  wholes = pos 0 ∷ side_number (side_where p) ∷ [];
  floats = quotient (m_along (side_where p) p) p.w ∷ quotient (n_along (side_where p) p) p.w ∷ [];
}

unfoldable pub place_of : Point → Values
place_of p = cond (standard p) (position_of p) (edge_of p)

-- "Side of circle": "the report's fourth predicate: the sign of its four by four determinant, as printed in section 3.3". Its rows are 1, x, y
-- and x x + y y, its columns the four points in order. Where the first three turn left the sign is 1 outside of the circle through them, 0 on
-- it and -1 inside; where they turn right it is the other way round; `cut/proofs/Round` proves it.
use Rattle.std.specs.Prelude.{◌≡◌, Bool, cond, not, ◌&&◌, ◌||◌, ℤ, pos}
use Rattle.whole.specs.Poly.{Poly, ◌⊞◌, ◌⊟◌, ◌⊠◌, leading}
use Rattle.whole.specs.Flag.{eq_z}
use Rattle.sheet.specs.declared.Point.{Point}
use Rattle.sheet.specs.Limits.{reach}
use Rattle.sheet.specs.Points.{X, Y, W, within, standard, point_refusal}
use Rattle.whole.specs.Choice.{or_else}

pub record Column : Type 0 where
  pub one : Poly
  pub x : Poly
  pub y : Poly
  pub square : Poly

-- (1, x, y, x x + y y) of a point, each taken w w times, so that no fraction is left: w is above 0, and the sign stays
abbrev pub column : Point → Column
column p = record { one = W p ⊠ W p; x = W p ⊠ X p; y = W p ⊠ Y p; square = X p ⊠ X p ⊞ Y p ⊠ Y p }

-- the determinant of the first three rows of three columns
abbrev pub minor : Column → Column → Column → Poly
minor a b c =
    a.one ⊠ (b.x ⊠ c.y ⊟ c.x ⊠ b.y) ⊟ b.one ⊠ (a.x ⊠ c.y ⊟ c.x ⊠ a.y) ⊞ c.one ⊠ (a.x ⊠ b.y ⊟ b.x ⊠ a.y)

-- of four columns, by the last row
abbrev pub four_by_four : Column → Column → Column → Column → Poly
four_by_four a b c d =
    d.square ⊠ minor a b c ⊟ c.square ⊠ minor a b d ⊞ b.square ⊠ minor a c d ⊟ a.square ⊠ minor b c d

unfoldable pub circle_poly : Point → Point → Point → Point → Poly
circle_poly p q s u = four_by_four (column p) (column q) (column s) (column u)

unfoldable pub side_of_circle : Point → Point → Point → Point → ℤ
unfolding circle_poly
side_of_circle p q s u = leading (circle_poly p q s u)

-- ---- refusals

-- "given points (standard, w of 1, nx and ny within 2,000 either way)"
unfoldable pub is_given : Point → Bool
is_given p = standard p && eq_z p.w (pos 1) && within reach p.nx && within reach p.ny

-- "21 if one of the first three isn't a given point, or the fourth is a standard point that isn't one"
unfoldable pub given_refusal : Point → Point → Point → Point → ℤ
given_refusal p q s u = cond (is_given p && is_given q && is_given s && (is_given u || not (standard u))) (pos 0) (pos 21)

-- "5 for each in turn, then 21"
unfoldable pub circle_refusal : Point → Point → Point → Point → ℤ
circle_refusal p q s u =
    or_else (point_refusal p) (or_else (point_refusal q) (or_else (point_refusal s) (or_else (point_refusal u) (given_refusal p q s u))))

-- two of the four points are equal
pub data Repeats (p q s u : Point) : Type 0 where
  first_second : p ≡ q → Repeats p q s u
  first_third : p ≡ s → Repeats p q s u
  first_fourth : p ≡ u → Repeats p q s u
  second_third : q ≡ s → Repeats p q s u
  second_fourth : q ≡ u → Repeats p q s u
  third_fourth : s ≡ u → Repeats p q s u

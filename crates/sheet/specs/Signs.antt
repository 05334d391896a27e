-- "Signs (document 002, 3.3 and 3.5)". Signs are -1, 0 or 1; `leading` is the sign of a polynomial in R.
use Rattle.std.specs.Prelude.{cond, ◌&&◌, ℤ, pos}
use Rattle.whole.specs.Poly.{Poly, ◌⊞◌, ◌⊟◌, ◌⊠◌, leading}
use Rattle.whole.specs.Choice.{or_else}
use Rattle.sheet.specs.declared.Object.{Object}
use Rattle.sheet.specs.declared.Point.{Point}
use Rattle.sheet.specs.Figure.{Figure, segment, ray, line, side, figure, figure_of}
use Rattle.sheet.specs.Refusal.{object_refusal}
use Rattle.sheet.specs.Points.{X, Y, W, narrow, point_refusal, given}
use Rattle.sheet.specs.Ends.{begins, next_side}

-- the sign of x of p less that of q, and the same of y
abbrev pub order_in_x : Point → Point → ℤ
order_in_x p q = leading (X p ⊠ W q ⊟ X q ⊠ W p)

abbrev pub order_in_y : Point → Point → ℤ
order_in_y p q = leading (Y p ⊠ W q ⊟ Y q ⊠ W p)

-- "Order of two points: x first, then y."
unfoldable pub order : Point → Point → ℤ
order p q = or_else (leading (X p ⊠ W q ⊟ X q ⊠ W p)) (leading (Y p ⊠ W q ⊟ Y q ⊠ W p))

-- "w1(X2 Y3 - X3 Y2) - w2(X1 Y3 - X3 Y1) + w3(X1 Y2 - X2 Y1)"
unfoldable pub turn_poly : Point → Point → Point → Poly
turn_poly p q s =
    W p ⊠ (X q ⊠ Y s ⊟ X s ⊠ Y q) ⊟ W q ⊠ (X p ⊠ Y s ⊟ X s ⊠ Y p) ⊞ W s ⊠ (X p ⊠ Y q ⊟ X q ⊠ Y p)

-- "Turn of three points: the sign of .."
unfoldable pub turn : Point → Point → Point → ℤ
unfolding turn_poly
turn p q s = leading (turn_poly p q s)

-- "the turn of the object's p, q (for a side, its two corners in order) and the point, 1 meaning left"
abbrev pub side_of_figure : Figure → Point → ℤ
side_of_figure (segment p q) s = turn (given p) (given q) s
side_of_figure (ray p q) s = turn (given p) (given q) s
side_of_figure (line p q) s = turn (given p) (given q) s
side_of_figure (side n) s = turn (begins n) (begins (next_side n)) s

unfoldable pub side_sign : Object → Point → ℤ
unfolding figure_of
side_sign o s = side_of_figure (figure o) s

-- ---- refusals

-- "Points: 5 for each in turn"
unfoldable pub order_refusal : Point → Point → ℤ
order_refusal p q = or_else (point_refusal p) (point_refusal q)

-- ".. then 6": "a point too wide for a turn"
abbrev pub wide_refusal : Point → Point → Point → ℤ
wide_refusal p q s = cond (narrow p && narrow q && narrow s) (pos 0) (pos 6)

unfoldable pub turn_refusal : Point → Point → Point → ℤ
turn_refusal p q s = or_else (point_refusal p) (or_else (point_refusal q) (or_else (point_refusal s) (wide_refusal p q s)))

-- "An object with a point: the object's, then 5."
unfoldable pub side_sign_refusal : Object → Point → ℤ
side_sign_refusal o s = or_else (object_refusal o) (point_refusal s)

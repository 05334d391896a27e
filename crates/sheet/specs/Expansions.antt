-- The signs of order, turn and side as signs of plain whole numbers, for code. To cite:
--   turn-poly-is, turn_is          turn is the first of three signs that is not 0: the coefficients of R R, R and 1
--   order-in-x, order_is           order in x: mx, nx over a common w; and order: my, ny behind them
--   turn_by                        the same from other words for the three
--   side_b, side_c, pair-side-is     the side of a segment, ray or line (all three compute to this turn)
--   left-side-is, bottom-side-is, right-side-is, top-side-is   the side of each frame side
--   frame-side-is                  the same in one: by the way out over the side
--   side-of-figure                 side_sign of an object whose figure is known
-- Assumes nothing.
use Rattle.std.specs.Prelude.{◌≡◌, List, [], ◌∷◌, ℤ, pos, neg_ℤ, ◌+ℤ◌, ◌-ℤ◌, ◌*ℤ◌}
use Rattle.std.proofs.Common.{◌∙◌, ap}
use Rattle.std.proofs.Math.IntN.{+ℤ_idr}
use Rattle.whole.specs.Ring.{Expr, var, lit, ◌⊕◌, ◌⊖◌, ◌⊗◌, ⊝◌, ring}
use Rattle.whole.specs.Sign.{sgn}
use Rattle.whole.specs.SignLaws.{sgn-mul-pos, sgn-zero}
use Rattle.whole.specs.Order.{pp-pos}
use Rattle.whole.specs.Poly.{leading}
use Rattle.whole.specs.Choice.{or_else}
use Rattle.whole.specs.ChoiceLaws.{or_zero_right}
use Rattle.sheet.specs.declared.Object.{Object}
use Rattle.sheet.specs.declared.Point.{Point}
use Rattle.sheet.specs.Figure.{Vec, ◌⇀◌, Side, left, bottom, right, top, out_x, out_y, Figure, side, figure}
use Rattle.sheet.specs.Points.{given}
use Rattle.sheet.specs.Ends.{moment, begins}
use Rattle.sheet.specs.Signs.{order_in_x, order_in_y, order, turn_poly, turn, side_of_figure, side_sign}
use Rattle.sheet.specs.Coefficients.{order_x, order_y, turn_a, turn_b, turn_c}

-- ---- order

pub order-in-x : (p q : Point) → order_in_x p q ≡ order_x p q
order-in-x p q = simp +ℤ_idr

order-in-y : (p q : Point) → order_in_y p q ≡ order_y p q
order-in-y p q = simp +ℤ_idr

pub order_is : (p q : Point) → order p q ≡ or_else (order_x p q) (order_y p q)
unfolding order
order_is p q = λ i. or_else (order-in-x p q i) (order-in-y p q i)

-- ---- turn

-- the determinant's coefficients, the lowest first
pub turn-poly-is : (p q s : Point) → turn_poly p q s ≡ turn_c p q s ∷ turn_b p q s ∷ turn_a p q s ∷ []
unfolding turn_poly
turn-poly-is p q s = simp +ℤ_idr

pub turn_is : (p q s : Point) → turn p q s ≡ or_else (or_else (sgn (turn_a p q s)) (sgn (turn_b p q s))) (sgn (turn_c p q s))
unfolding turn
turn_is p q s = ap leading (turn-poly-is p q s)

-- from the three coefficients in other words
pub turn_by : (p q s : Point) {a b c : ℤ} → turn_a p q s ≡ a → turn_b p q s ≡ b → turn_c p q s ≡ c
    → turn p q s ≡ or_else (or_else (sgn a) (sgn b)) (sgn c)
turn_by p q s e f g = turn_is p q s ∙ (λ i. or_else (or_else (sgn (e i)) (sgn (f i))) (sgn (g i)))

-- ---- the same three as expressions, so that literals among their numbers are no matter

record PointE : Type 0 where
  mx : Expr
  nx : Expr
  my : Expr
  ny : Expr
  w : Expr

abbrev det_e : Expr → Expr → Expr → Expr → Expr → Expr → Expr → Expr → Expr → Expr
det_e w1 x1 y1 w2 x2 y2 w3 x3 y3 = w1 ⊗ (x2 ⊗ y3 ⊖ x3 ⊗ y2) ⊖ w2 ⊗ (x1 ⊗ y3 ⊖ x3 ⊗ y1) ⊕ w3 ⊗ (x1 ⊗ y2 ⊖ x2 ⊗ y1)

abbrev mixed_e : PointE → PointE → Expr
mixed_e p q = p.nx ⊗ q.my ⊕ p.mx ⊗ q.ny ⊖ (q.nx ⊗ p.my ⊕ q.mx ⊗ p.ny)

abbrev e_a : PointE → PointE → PointE → Expr
e_a p q s = det_e p.w p.mx p.my q.w q.mx q.my s.w s.mx s.my

abbrev e_b : PointE → PointE → PointE → Expr
e_b p q s = p.w ⊗ mixed_e q s ⊖ q.w ⊗ mixed_e p s ⊕ s.w ⊗ mixed_e p q

abbrev e_c : PointE → PointE → PointE → Expr
e_c p q s = det_e p.w p.nx p.ny q.w q.nx q.ny s.w s.nx s.ny

-- ---- the side of an object of kind 1 to 3

-- the point, then the two given places
abbrev point_e : PointE
point_e = record { mx = var 0; nx = var 1; my = var 2; ny = var 3; w = var 4 }

abbrev p_e : PointE
p_e = record { mx = lit 0; nx = var 5; my = lit 0; ny = var 6; w = lit 1 }

abbrev q_e : PointE
q_e = record { mx = lit 0; nx = var 7; my = lit 0; ny = var 8; w = lit 1 }

abbrev dx_e : Expr
dx_e = var 7 ⊖ var 5

abbrev dy_e : Expr
dy_e = var 8 ⊖ var 6

-- with d from p to q and k its moment: dx my - dy mx, and dx ny - dy nx - w k
module _ (p q : Vec) (s : Point) where
  abbrev pub side_b : ℤ
  side_b = (p ⇀ q).x *ℤ s.my -ℤ (p ⇀ q).y *ℤ s.mx

  abbrev pub side_c : ℤ
  side_c = (p ⇀ q).x *ℤ s.ny -ℤ (p ⇀ q).y *ℤ s.nx -ℤ s.w *ℤ moment p (p ⇀ q)

  pub pair-side-is : turn (given p) (given q) s ≡ or_else (sgn side_b) (sgn side_c)
  pair-side-is =
      let ρ = s.mx ∷ s.nx ∷ s.my ∷ s.ny ∷ s.w ∷ p.x ∷ p.y ∷ q.x ∷ q.y ∷ [] in
      turn_by (given p) (given q) s
      (ring ρ (e_a p_e q_e point_e) (lit 0) tt)
      (ring ρ (e_b p_e q_e point_e) (dx_e ⊗ var 2 ⊖ dy_e ⊗ var 0) tt)
      (ring ρ (e_c p_e q_e point_e) (dx_e ⊗ var 3 ⊖ dy_e ⊗ var 1 ⊖ var 4 ⊗ (dx_e ⊗ var 6 ⊖ dy_e ⊗ var 5)) tt)
      ∙ ap (λ (u : ℤ). or_else (or_else u (sgn side_b)) (sgn side_c)) sgn-zero

-- ---- the side of each frame side

-- the corners are a side of length 2 R apart
module _ (p q s : Point) (a b : ℤ) where
  twice : turn_a p q s ≡ a *ℤ pos 2 → turn_b p q s ≡ b *ℤ pos 2 → turn_c p q s ≡ pos 0 → turn p q s ≡ or_else (sgn a) (sgn b)
  twice e f g =
      turn_by p q s e f g
      ∙ (λ i. or_else (or_else (sgn-mul-pos a (pos 2) (pp-pos 1) i) (sgn-mul-pos b (pos 2) (pp-pos 1) i)) (sgn-zero i))
      ∙ or_zero_right (or_else (sgn a) (sgn b))

-- the corner at (mx R, my R)
abbrev corner_e : Expr → Expr → PointE
corner_e mx my = record { mx = mx; nx = lit 0; my = my; ny = lit 0; w = lit 1 }

abbrev left_top : PointE
left_top = corner_e (⊝ lit 1) (lit 1)

abbrev left_bottom : PointE
left_bottom = corner_e (⊝ lit 1) (⊝ lit 1)

abbrev right_bottom : PointE
right_bottom = corner_e (lit 1) (⊝ lit 1)

abbrev right_top : PointE
right_top = corner_e (lit 1) (lit 1)

module _ (s : Point) where
  abbrev ρ : List ℤ
  ρ = s.mx ∷ s.nx ∷ s.my ∷ s.ny ∷ s.w ∷ []

  pub left-side-is : side_of_figure (side left) s ≡ or_else (sgn (s.mx +ℤ s.w)) (sgn s.nx)
  left-side-is =
      twice (begins left) (begins bottom) s (s.mx +ℤ s.w) s.nx
      (ring ρ (e_a left_top left_bottom point_e) ((var 0 ⊕ var 4) ⊗ lit 2) tt)
      (ring ρ (e_b left_top left_bottom point_e) (var 1 ⊗ lit 2) tt)
      (ring ρ (e_c left_top left_bottom point_e) (lit 0) tt)

  pub bottom-side-is : side_of_figure (side bottom) s ≡ or_else (sgn (s.my +ℤ s.w)) (sgn s.ny)
  bottom-side-is =
      twice (begins bottom) (begins right) s (s.my +ℤ s.w) s.ny
      (ring ρ (e_a left_bottom right_bottom point_e) ((var 2 ⊕ var 4) ⊗ lit 2) tt)
      (ring ρ (e_b left_bottom right_bottom point_e) (var 3 ⊗ lit 2) tt)
      (ring ρ (e_c left_bottom right_bottom point_e) (lit 0) tt)

  pub right-side-is : side_of_figure (side right) s ≡ or_else (sgn (s.w -ℤ s.mx)) (sgn (neg_ℤ s.nx))
  right-side-is =
      twice (begins right) (begins top) s (s.w -ℤ s.mx) (neg_ℤ s.nx)
      (ring ρ (e_a right_bottom right_top point_e) ((var 4 ⊖ var 0) ⊗ lit 2) tt)
      (ring ρ (e_b right_bottom right_top point_e) (⊝ var 1 ⊗ lit 2) tt)
      (ring ρ (e_c right_bottom right_top point_e) (lit 0) tt)

  pub top-side-is : side_of_figure (side top) s ≡ or_else (sgn (s.w -ℤ s.my)) (sgn (neg_ℤ s.ny))
  top-side-is =
      twice (begins top) (begins left) s (s.w -ℤ s.my) (neg_ℤ s.ny)
      (ring ρ (e_a right_top left_top point_e) ((var 4 ⊖ var 2) ⊗ lit 2) tt)
      (ring ρ (e_b right_top left_top point_e) (⊝ var 3 ⊗ lit 2) tt)
      (ring ρ (e_c right_top left_top point_e) (lit 0) tt)

  -- w less the point's way out over the side
  abbrev away_m : Expr → Expr → Expr
  away_m a b = var 4 ⊖ (a ⊗ var 0 ⊕ b ⊗ var 2)

  abbrev away_n : Expr → Expr → Expr
  away_n a b = ⊝ (a ⊗ var 1 ⊕ b ⊗ var 3)

  pub frame-side-is : (n : Side) → side_of_figure (side n) s
      ≡ or_else (sgn (s.w -ℤ (out_x n *ℤ s.mx +ℤ out_y n *ℤ s.my))) (sgn (neg_ℤ (out_x n *ℤ s.nx +ℤ out_y n *ℤ s.ny)))
  frame-side-is left =
      left-side-is
      ∙ (λ i. or_else (sgn (ring ρ (var 0 ⊕ var 4) (away_m (⊝ lit 1) (lit 0)) tt i)) (sgn (ring ρ (var 1) (away_n (⊝ lit 1) (lit 0)) tt i)))
  frame-side-is bottom =
      bottom-side-is
      ∙ (λ i. or_else (sgn (ring ρ (var 2 ⊕ var 4) (away_m (lit 0) (⊝ lit 1)) tt i)) (sgn (ring ρ (var 3) (away_n (lit 0) (⊝ lit 1)) tt i)))
  frame-side-is right =
      right-side-is
      ∙ (λ i. or_else (sgn (ring ρ (var 4 ⊖ var 0) (away_m (lit 1) (lit 0)) tt i)) (sgn (ring ρ (⊝ var 1) (away_n (lit 1) (lit 0)) tt i)))
  frame-side-is top =
      top-side-is
      ∙ (λ i. or_else (sgn (ring ρ (var 4 ⊖ var 2) (away_m (lit 0) (lit 1)) tt i)) (sgn (ring ρ (⊝ var 3) (away_n (lit 0) (lit 1)) tt i)))

-- ---- of an object whose figure is known

pub side-of-figure : (o : Object) {f : Figure} (s : Point) → figure o ≡ f → side_sign o s ≡ side_of_figure f s
unfolding side_sign
side-of-figure o s e = ap (λ (f : Figure). side_of_figure f s) e

-- What the kernel's inner functions say of order and turn: by the coefficients of R R, R and 1. That the signs are so is in Expansions.
use Rattle.std.specs.Prelude.{ℤ, ◌+ℤ◌, ◌-ℤ◌, ◌*ℤ◌}
use Rattle.whole.specs.Sign.{sgn}
use Rattle.whole.specs.Choice.{or_else}
use Rattle.sheet.specs.declared.Point.{Point}

-- ---- order

abbrev pub order_x : Point → Point → ℤ
order_x p q = or_else (sgn (p.mx *ℤ q.w -ℤ q.mx *ℤ p.w)) (sgn (p.nx *ℤ q.w -ℤ q.nx *ℤ p.w))

abbrev pub order_y : Point → Point → ℤ
order_y p q = or_else (sgn (p.my *ℤ q.w -ℤ q.my *ℤ p.w)) (sgn (p.ny *ℤ q.w -ℤ q.ny *ℤ p.w))

-- ---- turn

abbrev pub det : ℤ → ℤ → ℤ → ℤ → ℤ → ℤ → ℤ → ℤ → ℤ → ℤ
det w1 x1 y1 w2 x2 y2 w3 x3 y3 =
    w1 *ℤ (x2 *ℤ y3 -ℤ x3 *ℤ y2) -ℤ w2 *ℤ (x1 *ℤ y3 -ℤ x3 *ℤ y1) +ℤ w3 *ℤ (x1 *ℤ y2 -ℤ x2 *ℤ y1)

-- the coefficient of R in X Y' - X' Y
abbrev pub mixed : Point → Point → ℤ
mixed p q = p.nx *ℤ q.my +ℤ p.mx *ℤ q.ny -ℤ (q.nx *ℤ p.my +ℤ q.mx *ℤ p.ny)

abbrev pub turn_a : Point → Point → Point → ℤ
turn_a p q s = det p.w p.mx p.my q.w q.mx q.my s.w s.mx s.my

abbrev pub turn_b : Point → Point → Point → ℤ
turn_b p q s = p.w *ℤ mixed q s -ℤ q.w *ℤ mixed p s +ℤ s.w *ℤ mixed p q

abbrev pub turn_c : Point → Point → Point → ℤ
turn_c p q s = det p.w p.nx p.ny q.w q.nx q.ny s.w s.nx s.ny

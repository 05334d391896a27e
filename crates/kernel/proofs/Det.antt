-- The determinant of rows that are handed on. To cite:
--   mm, mn, nm, nn   the rows of a narrow point: w with mx or nx, and my or ny
--   row_out   a row read out of locals;  det-out  the determinant is that of the numbers
--   one, two, three, det_e, rows   the code's expressions, and the bounds of their variables;  det-within  its size
use mathlib.Core.Path.{◌≡◌}
use mathlib.Core.List.{List, [], ◌∷◌}
use Prim.Native.Nat.{ℕ}
use lib.IntN.{ℤ}
use Rattle.whole.specs.Ring.{Expr, var, ◌⊕◌, ◌⊖◌, ◌⊗◌}
use Rattle.whole.specs.Flat.{All, none, ◌also◌, small, back, within-out}
use Rattle.whole.specs.Within.{Within}
use Rattle.whole.specs.Tests.{out}
use Rattle.sheet.specs.declared.Point.{Point}
use Rattle.sheet.specs.Coefficients.{det}
use Rattle.kernel.specs.Bounds.{Row, NarrowSizes}

module _ {p : Point} (h : NarrowSizes p) where
  pub mm : Row p.w p.mx p.my
  mm = record { bw = h.bw; bx = h.bmx; by = h.bmy }

  pub mn : Row p.w p.mx p.ny
  mn = record { bw = h.bw; bx = h.bmx; by = h.bny }

  pub nm : Row p.w p.nx p.my
  nm = record { bw = h.bw; bx = h.bnx; by = h.bmy }

  pub nn : Row p.w p.nx p.ny
  nn = record { bw = h.bw; bx = h.bnx; by = h.bny }

pub row_out : {w x y : ℤ} → Row w x y → Row (out w) (out x) (out y)
row_out r = record {
  bw = within-out r.bw tt;
  bx = within-out r.bx tt;
  by = within-out r.by tt;
}

pub det-out :
    {w1 x1 y1 w2 x2 y2 w3 x3 y3 : ℤ} → Row w1 x1 y1 → Row w2 x2 y2 → Row w3 x3 y3
    → det (out w1) (out x1) (out y1) (out w2) (out x2) (out y2) (out w3) (out x3) (out y3) ≡ det w1 x1 y1 w2 x2 y2 w3 x3 y3
det-out p q s =
    λ i. det
    (back p.bw tt i) (back p.bx tt i) (back p.by tt i)
    (back q.bw tt i) (back q.bx tt i) (back q.by tt i)
    (back s.bw tt i) (back s.bx tt i) (back s.by tt i)

-- ---- the determinant as an expression

-- w1, x1, y1, w2, .. are 0, 1, 2, 3, ..
abbrev pub one : Expr
one = var 4 ⊗ var 8 ⊖ var 7 ⊗ var 5

abbrev pub two : Expr
two = var 1 ⊗ var 8 ⊖ var 7 ⊗ var 2

abbrev pub three : Expr
three = var 1 ⊗ var 5 ⊖ var 4 ⊗ var 2

abbrev pub det_e : Expr
det_e = var 0 ⊗ one ⊖ var 3 ⊗ two ⊕ var 6 ⊗ three

abbrev β : List ℕ
β = 4000 ∷ 8000000 ∷ 8000000 ∷ 4000 ∷ 8000000 ∷ 8000000 ∷ 4000 ∷ 8000000 ∷ 8000000 ∷ []

pub rows :
    {w1 x1 y1 w2 x2 y2 w3 x3 y3 : ℤ} → Row w1 x1 y1 × Row w2 x2 y2 × Row w3 x3 y3
    → All β (w1 ∷ x1 ∷ y1 ∷ w2 ∷ x2 ∷ y2 ∷ w3 ∷ x3 ∷ y3 ∷ [])
rows r =
    r.0.bw also r.0.bx also r.0.by also r.1.bw also r.1.bx also r.1.by
    also r.2.bw also r.2.bx also r.2.by also none

pub det-within :
    {w1 x1 y1 w2 x2 y2 w3 x3 y3 : ℤ} → Row w1 x1 y1 × Row w2 x2 y2 × Row w3 x3 y3
    → Within 1536000000000000000 (det w1 x1 y1 w2 x2 y2 w3 x3 y3)
det-within r = small (rows r) det_e tt

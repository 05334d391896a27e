-- The code of two stretches: its eight numbers px, py, qx, qy, rx, ry, sx, sy as locals 0 to 7, what it computes of them, and how they are
-- handed on. To cite:
--   dx_e, dy_e, fx_e, fy_e, ex_e, ey_e, across_e   the differences and the cross product, as the code writes them
--   near-out, apart_out     what an inner function asks, of the numbers as they come out of locals
--   stretch-out               the stretch of numbers out of locals
--   times-sign-is, times-sign-size  what `times_sign` gives, by numbers equal to those that it was given; of a number with itself
use mathlib.Core.Path.{◌≡◌, sym, ◌∙◌}
use lib.IntN.{ℤ, ◌-ℤ◌, ◌*ℤ◌}
use mir.Syntax.{w64}
use mir.Val.{SFits}
use Rattle.whole.specs.Sign.{sgn}
use Rattle.whole.specs.SignLaws.{sgn-mul-self}
use Rattle.whole.specs.Ring.{Expr, var, ◌⊖◌, ◌⊗◌}
use Rattle.whole.specs.Flat.{none, ◌also◌, gives, held}
use Rattle.whole.specs.Tests.{out, Fit, gave}
use Rattle.sheet.specs.Points.{size}
use Rattle.kernel.specs.Bounds.{FourPoints, Apart}
use Rattle.kernel.specs.Stretches.{stretch}
use Rattle.kernel.proofs.Handed.{by-five}

abbrev pub dx_e : Expr
dx_e = var 2 ⊖ var 0

abbrev pub dy_e : Expr
dy_e = var 3 ⊖ var 1

abbrev pub fx_e : Expr
fx_e = var 6 ⊖ var 4

abbrev pub fy_e : Expr
fy_e = var 7 ⊖ var 5

abbrev pub ex_e : Expr
ex_e = var 4 ⊖ var 0

abbrev pub ey_e : Expr
ey_e = var 5 ⊖ var 1

abbrev pub across_e : Expr
across_e = dx_e ⊗ fy_e ⊖ dy_e ⊗ fx_e

module _ {px py qx qy rx ry sx sy : ℤ} where
  pub near-out : FourPoints px py qx qy rx ry sx sy → FourPoints (out px) (out py) (out qx) (out qy) (out rx) (out ry) (out sx) (out sy)
  near-out h =
      let b = h.near in
      record {
        near =
            held b (var 0) tt also held b (var 1) tt also held b (var 2) tt also held b (var 3) tt
            also held b (var 4) tt also held b (var 5) tt also held b (var 6) tt also held b (var 7) tt also none;
      }

  pub apart_out : Apart px py qx qy rx ry sx sy → Apart (out px) (out py) (out qx) (out qy) (out rx) (out ry) (out sx) (out sy)
  apart_out h =
      let b = h.near.near in
      let across : ((out qx -ℤ out px) *ℤ (out sy -ℤ out ry) -ℤ (out qy -ℤ out py) *ℤ (out sx -ℤ out rx))
      ≡ ((qx -ℤ px) *ℤ (sy -ℤ ry) -ℤ (qy -ℤ py) *ℤ (sx -ℤ rx)) =
      λ i.
      (gives b (var 2) tt i -ℤ gives b (var 0) tt i) *ℤ (gives b (var 7) tt i -ℤ gives b (var 5) tt i)
      -ℤ (gives b (var 3) tt i -ℤ gives b (var 1) tt i) *ℤ (gives b (var 6) tt i -ℤ gives b (var 4) tt i)
      in
      record { near = near-out h.near; apart = λ e. h.apart (sym across ∙ e) }

pub stretch-out :
    {kind px py qx qy : ℤ} → SFits w64 kind → SFits w64 px → SFits w64 py → SFits w64 qx → SFits w64 qy
    → stretch (out kind) (out px) (out py) (out qx) (out qy) ≡ stretch kind px py qx qy
stretch-out k a b c d = by-five k a b c d stretch

pub times-sign-is : {r a z D y : ℤ} → Fit r → r ≡ sgn a *ℤ z → a ≡ D → z ≡ y → out r ≡ sgn D *ℤ y
times-sign-is h e f g = gave h e ∙ (λ i. sgn (f i) *ℤ g i)

pub times-sign-size : {r a D : ℤ} → Fit r → r ≡ sgn a *ℤ a → a ≡ D → out r ≡ size D
times-sign-size {D = D} h e f = times-sign-is h e f f ∙ sgn-mul-self D

-- Numbers that are handed on are the numbers: each comes out of a local as it went in. To cite:
--   by-five, by_ten             whatever is said of five numbers, or of ten: `by-five s.fits.kind s.fits.px .. figure_of`
--   numbers-out                 five numbers of an accepted object are such as they are handed on
--   figure-told, numbers-told   an object's numbers, from what `struct_told` says of the first five: `figure-told o c.struct_told.given`
--   point_of, point_out, point    the point of five numbers, and of numbers that come out of locals, which is the point
--   point-told                  .. from what `struct_told` says
use mathlib.Core.Path.{◌≡◌, ◌∙◌}
use lib.IntN.{ℤ}
use mir.Syntax.{w64}
use mir.Val.{SFits}
use Rattle.whole.specs.Tests.{out, out-is, Fit, fits-ok}
use Rattle.sheet.specs.declared.Object.{Object}
use Rattle.sheet.specs.declared.Point.{Point}
use Rattle.sheet.specs.Figure.{figure_of, figure}
use Rattle.sheet.specs.Refusal.{refusal_of, Accepted}
use Rattle.sheet.proofs.RefusalLaws.{by-numbers}
use Rattle.kernel.specs.Bounds.{Numbers}

module _ {a b c d e : ℤ} (fa : SFits w64 a) (fb : SFits w64 b) (fc : SFits w64 c) (fd : SFits w64 d) (fe : SFits w64 e) where
  pub by-five : {X : Type 0} (f : ℤ → ℤ → ℤ → ℤ → ℤ → X) → f (out a) (out b) (out c) (out d) (out e) ≡ f a b c d e
  by-five f = λ i. f (out-is fa i) (out-is fb i) (out-is fc i) (out-is fd i) (out-is fe i)

  pub numbers-out : Numbers a b c d e → Numbers (out a) (out b) (out c) (out d) (out e)
  numbers-out n = record { not_refused = by-five refusal_of ∙ n.not_refused }

  module _ {g h i j k : ℤ} (fg : SFits w64 g) (fh : SFits w64 h) (fi : SFits w64 i) (fj : SFits w64 j) (fk : SFits w64 k) where
    pub by_ten : {X : Type 0} (f : ℤ → ℤ → ℤ → ℤ → ℤ → ℤ → ℤ → ℤ → ℤ → ℤ → X)
        → f (out a) (out b) (out c) (out d) (out e) (out g) (out h) (out i) (out j) (out k) ≡ f a b c d e g h i j k
    by_ten f = λ n. f (out-is fa n) (out-is fb n) (out-is fc n) (out-is fd n) (out-is fe n) (out-is fg n) (out-is fh n) (out-is fi n) (out-is fj n) (out-is fk n)

abbrev pub point_of : ℤ → ℤ → ℤ → ℤ → ℤ → Point
point_of mx nx my ny w = record { mx = mx; nx = nx; my = my; ny = ny; w = w }

abbrev pub point_out : Point → Point
point_out p = point_of (out p.mx) (out p.nx) (out p.my) (out p.ny) (out p.w)

pub point : (p : Point) → Fit p.mx → Fit p.nx → Fit p.my → Fit p.ny → Fit p.w → point_out p ≡ p
point p a b c d e =
    by-five (fits-ok p.mx a) (fits-ok p.nx b) (fits-ok p.my c) (fits-ok p.ny d) (fits-ok p.w e) point_of

-- of each number something else is told first
abbrev Told : (A B C D E F : Type 0) → ℤ → ℤ → ℤ → ℤ → ℤ → Type 0
Told A B C D E F a b c d e = (A × Fit a) × ((B × Fit b) × ((C × Fit c) × ((D × Fit d) × ((E × Fit e) × F))))

module _ {A B C D E F : Type 0} where
  by-told : {X : Type 0} (f : ℤ → ℤ → ℤ → ℤ → ℤ → X) (a b c d e : ℤ) → Told A B C D E F a b c d e → f (out a) (out b) (out c) (out d) (out e) ≡ f a b c d e
  by-told f a b c d e t =
      by-five
      (fits-ok a t.0.1) (fits-ok b t.1.0.1) (fits-ok c t.1.1.0.1)
      (fits-ok d t.1.1.1.0.1) (fits-ok e t.1.1.1.1.0.1) f

  module _ (o : Object) (t : Told A B C D E F o.kind o.px o.py o.qx o.qy) where
    pub figure-told : figure_of (out o.kind) (out o.px) (out o.py) (out o.qx) (out o.qy) ≡ figure o
    figure-told = by-told figure_of o.kind o.px o.py o.qx o.qy t

    pub numbers-told : Accepted o → Numbers (out o.kind) (out o.px) (out o.py) (out o.qx) (out o.qy)
    numbers-told a = record { not_refused = by-told refusal_of o.kind o.px o.py o.qx o.qy t ∙ by-numbers a }

  pub point-told : (p : Point) → Told A B C D E F p.mx p.nx p.my p.ny p.w → point_out p ≡ p
  point-told p t = by-told point_of p.mx p.nx p.my p.ny p.w t

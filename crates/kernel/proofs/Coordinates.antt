-- The coordinates of a point as they are handed on. To cite:
--   x-of, y_of, coordinate-out   each of them, and out of locals
--   along-out                    the order of two coordinates is that of the numbers
--   lead_is                      the sign that `lead` gives, by numbers equal to those that it was given
use mathlib.Core.Path.{◌≡◌, ◌∙◌, ap₂}
use lib.IntN.{ℤ, ◌-ℤ◌, ◌*ℤ◌}
use Rattle.whole.specs.Sign.{sgn}
use Rattle.whole.specs.Choice.{or_else}
use Rattle.whole.specs.Flat.{back, within-out}
use Rattle.whole.specs.Tests.{out, Fit, gave}
use Rattle.sheet.specs.declared.Point.{Point}
use Rattle.sheet.specs.PointSizes.{PointSizes}
use Rattle.kernel.specs.Bounds.{CoordinateBounds}

module _ {p : Point} (s : PointSizes p) where
  pub x-of : CoordinateBounds p.mx p.nx p.w
  x-of = record { bm = s.in_mx; bn = s.in_nx; bw = s.in-w.at_most }

  pub y_of : CoordinateBounds p.my p.ny p.w
  y_of = record { bm = s.in_my; bn = s.in_ny; bw = s.in-w.at_most }

pub coordinate-out : {m n w : ℤ} → CoordinateBounds m n w → CoordinateBounds (out m) (out n) (out w)
coordinate-out c = record {
  bm = within-out c.bm tt;
  bn = within-out c.bn tt;
  bw = within-out c.bw tt;
}

pub along-out :
    {m n w m2 n2 w2 : ℤ} → CoordinateBounds m n w → CoordinateBounds m2 n2 w2
    → or_else (sgn (out m *ℤ out w2 -ℤ out m2 *ℤ out w)) (sgn (out n *ℤ out w2 -ℤ out n2 *ℤ out w))
    ≡ or_else (sgn (m *ℤ w2 -ℤ m2 *ℤ w)) (sgn (n *ℤ w2 -ℤ n2 *ℤ w))
along-out c d =
    let w = back c.bw tt in
    let w2 = back d.bw tt in
    λ i. or_else
    (sgn (back c.bm tt i *ℤ w2 i -ℤ back d.bm tt i *ℤ w i))
    (sgn (back c.bn tt i *ℤ w2 i -ℤ back d.bn tt i *ℤ w i))

pub lead_is : {r a b u v : ℤ} → Fit r → r ≡ or_else (sgn a) (sgn b) → a ≡ u → b ≡ v → out r ≡ or_else (sgn u) (sgn v)
lead_is h e a b = gave h e ∙ ap₂ (λ (x y : ℤ). or_else (sgn x) (sgn y)) a b

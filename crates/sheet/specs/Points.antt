-- "A point is five numbers (mx, nx, my, ny, w) and means x = (mx R + nx)/w, y = (my R + ny)/w." Which five numbers are a point, which
-- are narrow, and how a common divisor goes out.
use Rattle.std.specs.Prelude.{Bool, cond, ◌&&◌, ◌||◌, List, [], ◌∷◌, ℕ, eqb, ℤ, pos, neg_ℤ, nat_abs}
use Rattle.std.specs.Int.Signed.{lt_z, le_z, quot_z}
use Rattle.whole.specs.Sign.{sgn}
use Rattle.whole.specs.Divisor.{gcd_of}
use Rattle.whole.specs.Poly.{Poly}
use Rattle.whole.specs.Flag.{eq_z}
use Rattle.sheet.specs.declared.Point.{Point}
use Rattle.sheet.specs.Limits.{standard_w, standard_n, frame_w, frame_n}
use Rattle.sheet.specs.Figure.{Vec}

-- the polynomials X = mx R + nx and Y = my R + ny, and w
abbrev pub X : Point → Poly
X p = p.nx ∷ p.mx ∷ []

abbrev pub Y : Point → Poly
Y p = p.ny ∷ p.my ∷ []

abbrev pub W : Point → Poly
W p = p.w ∷ []

abbrev pub numbers : Point → List ℤ
numbers p = p.mx ∷ p.nx ∷ p.my ∷ p.ny ∷ p.w ∷ []

-- "The numbers of a point have greatest common divisor 1 .. Zero counts as divisible by everything"
abbrev pub divisor : Point → ℕ
divisor p = gcd_of (numbers p)

-- the common divisor goes out
unfoldable pub divided : Point → Point
divided p = record {
  mx = quot_z p.mx (pos (divisor p));
  nx = quot_z p.nx (pos (divisor p));
  my = quot_z p.my (pos (divisor p));
  ny = quot_z p.ny (pos (divisor p));
  w = quot_z p.w (pos (divisor p));
}

abbrev pub size : ℤ → ℤ
size z = pos (nat_abs z)

-- within n either way; above 0 and at most n
abbrev pub within : ℤ → ℤ → Bool
within n z = le_z (neg_ℤ n) z && le_z z n

abbrev pub upto : ℤ → ℤ → Bool
upto n w = lt_z (pos 0) w && le_z w n

-- "Standard: mx = my = 0, w at most 32,000,000, nx and ny within 64,000,000,000 either way."
unfoldable pub standard : Point → Bool
standard p =
    eq_z p.mx (pos 0) && eq_z p.my (pos 0) && upto standard_w p.w && within standard_n p.nx && within standard_n p.ny

-- "exactly R or -R (|m| = w and n = 0)"
abbrev pub edge : ℤ → ℤ → ℤ → Bool
edge m n w = eq_z (size m) w && eq_z n (pos 0)

-- "Each coordinate has |m| < w, or |m| = w with n = 0 or n of the sign opposite to m."
abbrev pub in_square : ℤ → ℤ → ℤ → Bool
in_square m n w = lt_z (size m) w || (eq_z (size m) w && (eq_z n (pos 0) || eq_z (sgn n) (neg_ℤ (sgn m))))

-- "w at most 4,000 .. each n within 8,000,000"
unfoldable pub narrow : Point → Bool
narrow p = upto frame_w p.w && within frame_n p.nx && within frame_n p.ny

-- "Frame: w at most 4,000. At least one coordinate is exactly R or -R .. Each n is within 8,000,000 either way."
unfoldable pub frame : Point → Bool
unfolding narrow
frame p =
    narrow p && (edge p.mx p.nx p.w || edge p.my p.ny p.w)
    && in_square p.mx p.nx p.w && in_square p.my p.ny p.w

-- "Nothing else is a point."
unfoldable pub is_point : Point → Bool
unfolding standard frame
is_point p = (standard p || frame p) && eqb (divisor p) 1

-- "5: five numbers that are no point"
unfoldable pub point_refusal : Point → ℤ
unfolding is_point
point_refusal p = cond (is_point p) (pos 0) (pos 5)

-- the point of a given place
abbrev pub given : Vec → Point
given a = record { mx = pos 0; nx = a.x; my = pos 0; ny = a.y; w = pos 1 }

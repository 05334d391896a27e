-- "order, turn and side have the ordinary signs": the order and the turn of places, and the way that an object points.
use Rattle.std.specs.Prelude.{◌≡◌, ℤ, pos, negsuc, neg_ℤ}
use Rattle.whole.specs.Sign.{sgn}
use Rattle.whole.specs.Fraction.{Fraction, Equal, Less, sum, product, opposite}
use Rattle.sheet.specs.Figure.{Vec, ◌⇀◌, Side, left, bottom, right, top, out_x, out_y, Figure, segment, ray, line, side}
use Rattle.sheet.specs.Ends.{next_side}
use Rattle.cut.specs.Place.{Place, SamePlace, at}

-- "x first, then y": -1 where P comes first, 1 where Q does, 0 where they are one place
pub data Ordered (P Q : Place) : ℤ → Type 0 where
  x_less : Less P.across Q.across → Ordered P Q (negsuc 0)
  x_more : Less Q.across P.across → Ordered P Q (pos 1)
  y_less : Equal P.across Q.across → Less P.up Q.up → Ordered P Q (negsuc 0)
  y_more : Equal P.across Q.across → Less Q.up P.up → Ordered P Q (pos 1)
  same : SamePlace P Q → Ordered P Q (pos 0)

abbrev pub difference : Fraction → Fraction → Fraction
difference a b = sum a (opposite b)

-- (Qx - Px)(Sy - Py) - (Sx - Px)(Qy - Py): above 0 where S is left of the way from P to Q
abbrev pub determinant : Place → Place → Place → Fraction
determinant P Q S =
    difference
    (product (difference Q.across P.across) (difference S.up P.up))
    (product (difference S.across P.across) (difference Q.up P.up))

-- "side of circle", as it is printed: a column for each place, with rows 1, x, y and x x + y y. Of the rows x, y and two columns; of the rows
-- 1, x, y and three, by the first row; and of all, by the last row
abbrev pub rows_xy : Place → Place → Fraction
rows_xy P Q = difference (product P.across Q.up) (product Q.across P.up)

abbrev pub rows1_xy : Place → Place → Place → Fraction
rows1_xy P Q S = sum (difference (rows_xy Q S) (rows_xy P S)) (rows_xy P Q)

abbrev pub squared : Place → Fraction
squared P = sum (product P.across P.across) (product P.up P.up)

abbrev pub circle_determinant : Place → Place → Place → Place → Fraction
circle_determinant P Q S U =
    difference
    (sum (product (squared U) (rows1_xy P Q S)) (product (squared Q) (rows1_xy P S U)))
    (sum (product (squared S) (rows1_xy P Q U)) (product (squared P) (rows1_xy Q S U)))

-- the square of the distance of two places
abbrev pub distance_squared : Place → Place → Fraction
distance_squared P Q =
    sum
    (product (difference P.across Q.across) (difference P.across Q.across))
    (product (difference P.up Q.up) (difference P.up Q.up))

-- C is the centre of a circle through P, Q and S
pub record Centre (C P Q S : Place) : Type 0 where
  pub second_as_far : Equal (distance_squared C P) (distance_squared C Q)
  pub third_as_far : Equal (distance_squared C P) (distance_squared C S)

-- denominators are above 0
abbrev pub sign_of : Fraction → ℤ
sign_of a = sgn a.num

-- 1 where a is more than b, 0 where they are the same, -1 where it is less
pub data Compared (a b : Fraction) : ℤ → Type 0 where
  is_more : Less b a → Compared a b (pos 1)
  as_much : Equal a b → Compared a b (pos 0)
  is_less : Less a b → Compared a b (negsuc 0)

-- on which side U is of the circle about C through P, Q and S: by the distances of U and P from C, as the three turn
pub record SideByDistance (C P Q S U : Place) (c : ℤ) : Type 0 where
  pub turning_left : sign_of (determinant P Q S) ≡ pos 1 → Compared (distance_squared C U) (distance_squared C P) c
  pub turning_right : sign_of (determinant P Q S) ≡ negsuc 0 → Compared (distance_squared C P) (distance_squared C U) c

-- the direction of an object: a side has the inside on its left
abbrev pub way : Figure → Vec
way (segment p q) = p ⇀ q
way (ray p q) = p ⇀ q
way (line p q) = p ⇀ q
way (side n) = record { x = neg_ℤ (out_y n); y = out_x n }

-- "1 left, from (-R, R) to (-R, -R); 2 bottom, to (R, -R); 3 right, to (R, R); 4 top, back to (-R, R)"
abbrev pub begin_at : ℤ → Side → Place
begin_at R left = at (neg_ℤ R) R
begin_at R bottom = at (neg_ℤ R) (neg_ℤ R)
begin_at R right = at R (neg_ℤ R)
begin_at R top = at R R

-- "the object's p, q (for a side, its two corners in order)"
abbrev pub tail : ℤ → Figure → Place
tail R (segment p q) = at p.x p.y
tail R (ray p q) = at p.x p.y
tail R (line p q) = at p.x p.y
tail R (side n) = begin_at R n

abbrev pub tip : ℤ → Figure → Place
tip R (segment p q) = at q.x q.y
tip R (ray p q) = at q.x q.y
tip R (line p q) = at q.x q.y
tip R (side n) = begin_at R (next_side n)

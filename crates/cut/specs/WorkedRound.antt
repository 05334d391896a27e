-- Centres and distances, worked out, so that what `Round` says is said of something: where a centre is, and where none is.
use Rattle.std.specs.Prelude.{◌≡◌, refl, ℤ, pos, negsuc}
use Rattle.std.specs.Int.Signed.{lt_z_yes}
use Rattle.whole.specs.Sign.{sgn}
use Rattle.whole.specs.Order.{pp-pos}
use Rattle.whole.specs.Tests.{eq_z-false}
use Rattle.whole.specs.Fraction.{Fraction, Equal}
use Rattle.cut.specs.Place.{Place, at}
use Rattle.cut.specs.Ordinary.{determinant, circle_determinant, distance_squared, Centre, sign_of, Compared, is_more, is_less}

abbrev whole : ℤ → Fraction
whole n = record { num = n; den = pos 1; above = pp-pos 0 }

-- (1/2, 1/2)
abbrev half : Place
half = record { across = record { num = pos 1; den = pos 2; above = pp-pos 1 }; up = record { num = pos 1; den = pos 2; above = pp-pos 1 } }

pub record WorkedRound : Type 0 where
  -- from (1, 2) to (4, 6) it is 5
  five : Equal (distance_squared (at (pos 1) (pos 2)) (at (pos 4) (pos 6))) (whole (pos 25))
  -- the circle through (0, 0), (2, 0), (0, 2) has its centre at (1, 1), that through (0, 0), (1, 0), (0, 1) at (1/2, 1/2)
  centre : Centre (at (pos 1) (pos 1)) (at (pos 0) (pos 0)) (at (pos 2) (pos 0)) (at (pos 0) (pos 2))
  between : Centre half (at (pos 0) (pos 0)) (at (pos 1) (pos 0)) (at (pos 0) (pos 1))
  -- (1, 0) is as far from the first as from the second, and not as from the third
  no_centre : Centre (at (pos 1) (pos 0)) (at (pos 0) (pos 0)) (at (pos 2) (pos 0)) (at (pos 0) (pos 2)) → ⊥
  -- (3, 3) is outside, (1, 1) inside: both by the determinant and by the distance from the centre
  outside :
      (sign_of (circle_determinant (at (pos 0) (pos 0)) (at (pos 2) (pos 0)) (at (pos 0) (pos 2)) (at (pos 3) (pos 3))) ≡ pos 1)
      × Compared (distance_squared (at (pos 1) (pos 1)) (at (pos 3) (pos 3))) (distance_squared (at (pos 1) (pos 1)) (at (pos 0) (pos 0))) (pos 1)
  inside :
      (sign_of (circle_determinant (at (pos 0) (pos 0)) (at (pos 2) (pos 0)) (at (pos 0) (pos 2)) (at (pos 1) (pos 1))) ≡ negsuc 0)
      × Compared (distance_squared (at (pos 1) (pos 1)) (at (pos 1) (pos 1))) (distance_squared (at (pos 1) (pos 1)) (at (pos 0) (pos 0))) (negsuc 0)
  -- nothing is more than itself
  not_more : Compared (whole (pos 25)) (whole (pos 25)) (pos 1) → ⊥
  turns_left : sign_of (determinant (at (pos 0) (pos 0)) (at (pos 2) (pos 0)) (at (pos 0) (pos 2))) ≡ pos 1

not_more : Compared (whole (pos 25)) (whole (pos 25)) (pos 1) → ⊥
not_more (is_more h) = h.less.lt

pub worked-round : WorkedRound
unfolding sgn
worked-round = record {
  five = record { equal = refl };
  centre = record { second_as_far = record { equal = refl }; third_as_far = record { equal = refl } };
  between = record { second_as_far = record { equal = refl }; third_as_far = record { equal = refl } };
  no_centre = λ c. eq_z-false {a = pos 1} {b = pos 5} refl c.third_as_far.equal;
  outside = (refl, is_more (record { less = lt_z_yes tt }));
  inside = (refl, is_less (record { less = lt_z_yes tt }));
  not_more = not_more;
  turns_left = refl;
}

-- Places, boxes and the bound of their floats, worked out by document 01's words. A definition that says something else is refused here,
-- whatever the code does.
use Rattle.std.specs.Prelude.{◌≡◌, refl, Bool, true, false, List, [], ◌∷◌, ◌++◌, Float, ℤ, pos, negsuc, Some, None, Result, Ok, Err}
use Rattle.std.proofs.Common.{sym, ◌∙◌, ap, inl, inr, true≢false, le→leb, lit≤, lit<}
use Rattle.whole.specs.InTurn.{in_turn}
use Rattle.sheet.specs.Answers.{object_numbers}
use Rattle.std.specs.Int.Count.{count_trailing_zeros}
use Rattle.std.specs.Float.{nan, inf, fin}
use Rattle.std.specs.Float.Ieee.{span, climb, size, odd, units, round, div, of_int}
use Rattle.whole.specs.Sign.{sgn}
use Rattle.whole.specs.Divisor.{steps, gcd, gcd_of}
use Rattle.whole.specs.Tests.{eq_z-false}
use Rattle.sheet.specs.declared.Object.{Object}
use Rattle.sheet.specs.declared.Point.{Point}
use Rattle.sheet.specs.declared.Ends.{Ends}
use Rattle.sheet.specs.declared.refusal.Refusal.{Refusal}
use Rattle.sheet.specs.declared.refusal.Refusal.TheVariants as refusal
use Rattle.sheet.specs.Figure.{Vec, Side, left, bottom, right, top, side_number, figure_of}
use Rattle.sheet.specs.Points.{divided, standard, narrow, frame, is_point}
use Rattle.sheet.specs.PointsLaws.{frame_is}
use Rattle.sheet.specs.Ends.{far_raw, far_end, first_end, last_end}
use Rattle.sheet.specs.Cases.{minus, point, at, segment, ray, line, side}
use Rattle.screen.specs.declared.OnScreen.{OnScreen}
use Rattle.screen.specs.declared.OnScreen.TheVariants as place
use Rattle.screen.specs.Values.{Values}
use Rattle.screen.specs.Quotient.{zero+, float, quotient, Near}
use Rattle.screen.specs.Places.{place_says, goes_to, side_where, m_along, n_along, place_of}
use Rattle.screen.specs.Shown.{Shown, a_position, an_edge, no-point, EndIn, Parallel}
use Rattle.screen.specs.Boxes.{ends_of, farthest, extreme, box_of, boxed_says}

-- ---- places

-- 0, x and y; 0, the side number, the slope m/w and the offset n/w: each float as the two numbers that are divided
abbrev position : ℤ → ℤ → ℤ → Values
position x y w = record { wholes = pos 0 ∷ []; floats = quotient x w ∷ quotient y w ∷ [] }

abbrev edge : ℤ → ℤ → ℤ → ℤ → Values
edge number m n w = record { wholes = pos 0 ∷ number ∷ []; floats = quotient m w ∷ quotient n w ∷ [] }

pub record WorkedPlaces : Type 0 where
  -- "A standard point gives nx/w and ny/w"
  positions :
      (place_of (point (pos 0) (pos 3) (pos 0) (minus 7) (pos 2)) ≡ position (pos 3) (minus 7) (pos 2))
      × (place_of (at (pos 5) (pos 0)) ≡ position (pos 5) (pos 0) (pos 1))
  -- "a frame point gives its side and m/w of the coordinate along that side", and n/w: on the left, the bottom, the right, the top
  edges :
      (place_of (point (minus 5) (pos 0) (pos 2) (pos 3) (pos 5)) ≡ edge (pos 1) (pos 2) (pos 3) (pos 5))
      × (place_of (point (pos 1) (pos 4) (minus 3) (pos 0) (pos 3)) ≡ edge (pos 2) (pos 1) (pos 4) (pos 3))
      × (place_of (point (pos 7) (pos 0) (minus 2) (pos 6) (pos 7)) ≡ edge (pos 3) (minus 2) (pos 6) (pos 7))
      × (place_of (point (minus 1) (pos 5) (pos 2) (pos 0) (pos 2)) ≡ edge (pos 4) (minus 1) (pos 5) (pos 2))
  -- "A corner goes to the side that begins there"; beside the corners it does not
  corners :
      (place_of (point (minus 1) (pos 0) (pos 1) (pos 0) (pos 1)) ≡ edge (pos 1) (pos 1) (pos 0) (pos 1))
      × (place_of (point (minus 1) (pos 0) (minus 1) (pos 0) (pos 1)) ≡ edge (pos 2) (minus 1) (pos 0) (pos 1))
      × (place_of (point (pos 1) (pos 0) (minus 1) (pos 0) (pos 1)) ≡ edge (pos 3) (minus 1) (pos 0) (pos 1))
      × (place_of (point (pos 1) (pos 0) (pos 1) (pos 0) (pos 1)) ≡ edge (pos 4) (pos 1) (pos 0) (pos 1))
  beside-the-corners :
      (place_of (point (minus 1) (pos 0) (minus 1) (pos 7) (pos 1)) ≡ edge (pos 1) (minus 1) (pos 7) (pos 1))
      × (place_of (point (pos 1) (minus 7) (minus 1) (pos 0) (pos 1)) ≡ edge (pos 2) (pos 1) (minus 7) (pos 1))
      × (place_of (point (pos 1) (pos 0) (pos 1) (minus 7) (pos 1)) ≡ edge (pos 3) (pos 1) (minus 7) (pos 1))
      × (place_of (point (minus 1) (pos 7) (pos 1) (pos 0) (pos 1)) ≡ edge (pos 4) (minus 1) (pos 7) (pos 1))
  said :
      (place_says (Ok (place.At (float (pos 3)) (float (pos 4)))) ≡ record { wholes = pos 0 ∷ []; floats = float (pos 3) ∷ float (pos 4) ∷ [] })
      × (place_says (Ok (place.Edge (pos 2) (float (pos 3)) (float (pos 4))))
      ≡ record { wholes = pos 0 ∷ pos 2 ∷ []; floats = float (pos 3) ∷ float (pos 4) ∷ [] })
      × (place_says (Err refusal.NoPoint) ≡ record { wholes = pos 5 ∷ []; floats = [] })

pub worked-places : WorkedPlaces
unfolding standard side_where place_of
worked-places = record {
  positions = (refl, refl);
  edges = (refl, refl, refl, refl);
  corners = (refl, refl, refl, refl);
  beside-the-corners = (refl, refl, refl, refl);
  said = (refl, refl, refl);
}

-- ---- two wide points with one place: 2000 - 1/w is the same float for w of 32,000,000 and of 31,999,999

abbrev on_axis : ℤ → ℤ → Point
on_axis x w = point (pos 0) x (pos 0) (pos 0) w

pub record WorkedWide : Type 0 where
  are_points : (is_point (on_axis (pos 63999999999) (pos 32000000)) ≡ true) × (is_point (on_axis (pos 63999997999) (pos 31999999)) ≡ true)
  one_place : place_of (on_axis (pos 63999999999) (pos 32000000)) ≡ place_of (on_axis (pos 63999997999) (pos 31999999))

pub worked-wide : WorkedWide
unfolding sgn steps gcd gcd_of standard narrow frame is_point place_of float quotient of_int div round units odd count_trailing_zeros size climb span
worked-wide =
    let f : Float = fin false 8796093022070561 (negsuc 41) in
    let x : quotient (pos 63999999999) (pos 32000000) ≡ f = refl in
    let x' : quotient (pos 63999997999) (pos 31999999) ≡ f = refl in
    let y : quotient (pos 0) (pos 32000000) ≡ zero+ = refl in
    let y' : quotient (pos 0) (pos 31999999) ≡ zero+ = refl in
    record {
      are_points = (refl, refl);
      one_place = λ i. record { wholes = pos 0 ∷ []; floats = (x ∙ sym x') i ∷ (y ∙ sym y') i ∷ [] };
    }

-- ---- parallel lines, told apart by n alone: row 4's and row 6's, (0, 1) to (2, 2) and (0, 0) to (2, 1)

abbrev upper : Object
upper = line (pos 0) (pos 1) (pos 2) (pos 2)

abbrev lower : Object
lower = line (pos 0) (pos 0) (pos 2) (pos 1)

abbrev both : Point → Point → Ends
both p q = record { first = p; last = q }

pub record WorkedParallel : Type 0 where
  -- the arrowheads are at y = R/2 + 2/2 and y = R/2 of the right side, the other ends at y = -R/2 + 2/2 and y = -R/2 of the left one
  rows-4-and-6 :
      (place_of (last_end upper) ≡ edge (pos 3) (pos 1) (pos 2) (pos 2)) × (place_of (last_end lower) ≡ edge (pos 3) (pos 1) (pos 0) (pos 2))
      × (place_of (first_end upper) ≡ edge (pos 1) (minus 1) (pos 2) (pos 2)) × (place_of (first_end lower) ≡ edge (pos 1) (minus 1) (pos 0) (pos 2))
  are_parallel : Parallel upper lower
  -- with q farther off and the arrow the other way, a segment and a ray for the lines
  turned_round : Parallel (segment (pos 0) (pos 0) (pos 2) (pos 1)) (ray (pos 4) (pos 3) (minus 4) (minus 1))
  -- two names of one line; two that are not parallel; a side
  one_line : Parallel upper (line (pos 4) (pos 3) (minus 4) (minus 1)) → ⊥
  not_parallel : Parallel lower (line (pos 0) (pos 1) (pos 2) (pos 3)) → ⊥
  no-side : (Parallel (line (pos 0) (pos 1) (pos 1) (pos 1)) (side (pos 1)) → ⊥) × (Parallel (side (pos 1)) (line (pos 0) (pos 1) (pos 1) (pos 1)) → ⊥)
  -- both ends of an answer are ends, and a refusal has none
  ends_in : EndIn (last_end upper) (Ok (both (last_end upper) (last_end lower))) × EndIn (last_end lower) (Ok (both (last_end upper) (last_end lower)))
  refused_in : EndIn (last_end upper) (Err refusal.SamePoints) → ⊥

pub worked-parallel : WorkedParallel
unfolding sgn steps gcd gcd_of figure_of divided far_raw far_end first_end last_end standard side_where place_of
worked-parallel = record {
  rows-4-and-6 = (refl, refl, refl, refl);
  are_parallel = record {
    no_sides = (eq_z-false {a = pos 3} {b = pos 4} refl, eq_z-false {a = pos 3} {b = pos 4} refl);
    one_direction = refl;
    other_k = eq_z-false {a = pos 2} {b = pos 0} refl;
  };
  turned_round = record {
    no_sides = (eq_z-false {a = pos 1} {b = pos 4} refl, eq_z-false {a = pos 2} {b = pos 4} refl);
    one_direction = refl;
    other_k = eq_z-false {a = pos 0} {b = pos 2} refl;
  };
  one_line = λ h. h.other_k refl;
  not_parallel = λ h. eq_z-false {a = pos 2} {b = pos 0} refl h.one_direction;
  no-side = (λ h. h.no_sides.1 refl, λ h. h.no_sides.0 refl);
  ends_in = (inl refl, inr refl);
  refused_in = λ i. i;
}

-- ---- boxes

abbrev vec : ℤ → ℤ → Vec
vec x y = record { x = x; y = y }

-- a segment from (1, 2) to (-3, 4) and a ray from (7, -8) through (9, 10); a line and a side have no standard end
abbrev their_ends : List Vec
their_ends =
    ends_of (object_numbers (segment (pos 1) (pos 2) (minus 3) (pos 4)) ++ object_numbers (line (pos 0) (pos 0) (minus 9) (minus 9))
    ++ object_numbers (side (pos 4)) ++ object_numbers (ray (pos 7) (minus 8) (pos 9) (pos 10)))

pub record WorkedBox : Type 0 where
  standard-ends : their_ends ≡ vec (pos 1) (pos 2) ∷ vec (minus 3) (pos 4) ∷ vec (pos 7) (minus 8) ∷ []
  -- "lowest and highest x and y over its standard ends"
  lowest-and-highest :
      box_of their_ends
      ≡ Some (record {
        low = record { x = float (minus 3); y = float (minus 8) };
        high = record { x = float (pos 7); y = float (pos 4) };
      })
  -- "with none, all four are +0 and a flag says so"
  around_none : box_of [] ≡ None
  said :
      (boxed_says (Ok (box_of [])) ≡ record { wholes = pos 0 ∷ pos 1 ∷ []; floats = zero+ ∷ zero+ ∷ zero+ ∷ zero+ ∷ [] })
      × (boxed_says (Ok (box_of their_ends))
      ≡ record { wholes = pos 0 ∷ pos 0 ∷ []; floats = float (minus 3) ∷ float (minus 8) ∷ float (pos 7) ∷ float (pos 4) ∷ [] })
      × (boxed_says (Err refusal.ListLength) ≡ record { wholes = pos 14 ∷ []; floats = [] })

pub worked-box : WorkedBox
unfolding in_turn figure_of farthest extreme
worked-box = record {
  standard-ends = refl;
  lowest-and-highest = refl;
  around_none = refl;
  said = (refl, refl, refl);
}

-- ---- the bound: "it is shown to meet |P w - n Q| times 2^53 at most |n| Q, and zero gives +0", at 1/1 and at 0

-- 1; the float below it, 1 - 2^-53; the float above it, 1 + 2^-52
abbrev one : Float
one = fin false 1 (pos 0)

abbrev below : Float
below = fin false 9007199254740991 (negsuc 52)

abbrev above : Float
above = fin false 4503599627370497 (negsuc 51)

abbrev zero- : Float
zero- = fin true 0 (pos 0)

pub record WorkedNear : Type 0 where
  exact : Near (pos 1) (pos 1) one
  -- one part in 2^53 off, and two
  just_near : Near (pos 1) (pos 1) below
  not_near : Near (pos 1) (pos 1) above → ⊥
  zero_is_above : Near (pos 0) (pos 1) zero+
  not_below : Near (pos 0) (pos 1) zero- → ⊥
  a_number : Near (pos 1) (pos 1) nan → ⊥
  not_endless : Near (pos 1) (pos 1) (inf false) → ⊥

not-nought : pos 1 ≡ pos 0 → ⊥
not-nought = eq_z-false {a = pos 1} {b = pos 0} refl

is_below : Float → Bool
is_below nan = false
is_below (inf s) = s
is_below (fin s m e) = s

pub worked-near : WorkedNear
unfolding is_below
worked-near = record {
  exact = record { number = tt; above = lit< tt; near = lit≤ tt; at_zero = λ e. absurd (not-nought e) };
  just_near = record { number = tt; above = lit< tt; near = lit≤ tt; at_zero = λ e. absurd (not-nought e) };
  not_near = λ h. le→leb _ _ h.near;
  zero_is_above = record { number = tt; above = lit< tt; near = lit≤ tt; at_zero = λ e. refl };
  not_below = λ h. true≢false (ap is_below (h.at_zero refl));
  a_number = λ h. h.number;
  not_endless = λ h. h.number;
}

-- ---- what is shown of an edge, at (R, 1) on the right side, with slope 0 and offset 1

abbrev east : Point
east = point (pos 1) (pos 0) (pos 0) (pos 1) (pos 1)

pub record WorkedShown : Type 0 where
  exact : Shown east (Ok (place.Edge (pos 3) zero+ one))
  -- the offset is one part in 2^53 off, and two; the slope is -0; another side
  offset_just_near : Shown east (Ok (place.Edge (pos 3) zero+ below))
  offset_not_near : Shown east (Ok (place.Edge (pos 3) zero+ above)) → ⊥
  slope_not_below : Shown east (Ok (place.Edge (pos 3) zero- one)) → ⊥
  other_side : Shown east (Ok (place.Edge (pos 1) zero+ one)) → ⊥

abbrev OfEdge : Point → Result OnScreen Refusal → Type 0
OfEdge p (Ok (place.At x y)) = Unit {0}
OfEdge p (Ok (place.Edge n t o)) = (s : Side) × (goes_to s p ≡ true) × (n ≡ side_number s) × Near (m_along s p) p.w t × Near (n_along s p) p.w o
OfEdge p (Err r) = Unit {0}

of-edge : {p : Point} {r : Result OnScreen Refusal} → Shown p r → OfEdge p r
of-edge (a_position f x y) = tt
of-edge (an_edge s f g t o) = (s, g, refl, t, o)
of-edge (no-point e) = tt

on-the-right : {n : ℤ} {t o : Float} → OfEdge east (Ok (place.Edge n t o)) → (n ≡ pos 3) × Near (pos 0) (pos 1) t × Near (pos 1) (pos 1) o
on-the-right (left, e, n, t, o) = absurd (true≢false (sym e))
on-the-right (bottom, e, n, t, o) = absurd (true≢false (sym e))
on-the-right (right, e, n, t, o) = (n, t, o)
on-the-right (top, e, n, t, o) = absurd (true≢false (sym e))

pub worked-shown : WorkedShown
unfolding sgn narrow frame
worked-shown = record {
  exact = an_edge right ((frame_is east).0 refl) refl worked-near.zero_is_above worked-near.exact;
  offset_just_near = an_edge right ((frame_is east).0 refl) refl worked-near.zero_is_above worked-near.just_near;
  offset_not_near = λ h. worked-near.not_near (on-the-right (of-edge h)).2;
  slope_not_below = λ h. worked-near.not_below (on-the-right (of-edge h)).1;
  other_side = λ h. eq_z-false {a = pos 1} {b = pos 3} refl (on-the-right (of-edge h)).0;
}

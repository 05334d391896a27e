-- What demand 3 says of one R, sentence by sentence. `Demand` proves it for every R that the demand names.
use Rattle.std.specs.Prelude.{◌≡◌, ◌↔◌, true, ℤ, pos, ◌<ℤ◌}
use Rattle.sheet.specs.declared.Object.{Object}
use Rattle.sheet.specs.declared.Point.{Point}
use Rattle.sheet.specs.Figure.{figure}
use Rattle.sheet.specs.Refusal.{Accepted}
use Rattle.sheet.specs.Points.{is_point, narrow}
use Rattle.sheet.specs.Ends.{first_end, last_end}
use Rattle.sheet.specs.Signs.{order, turn, side_sign}
use Rattle.sheet.specs.Circle.{side_of_circle, circle_refusal}
use Rattle.sheet.specs.Crossing.{Meeting, none, point, many, crossing_of}
use Rattle.cut.specs.Place.{Place, SamePlace, put, spot}
use Rattle.cut.specs.Cut.{Upto, Lies, OnlyShared, MoreShared, NothingShared}
use Rattle.cut.specs.Ordinary.{Ordered, determinant, circle_determinant, sign_of, way, tail, tip}

-- "the two ends, put at R, are the cut piece's ends in its direction": both are on the piece, and no place of it is before the first
-- or beyond the last
pub record EndsHold (R : ℤ) (o : Object) : Type 0 where
  pub first_above : pos 0 <ℤ (first_end o).w
  pub last_above : pos 0 <ℤ (last_end o).w
  pub first_on : Lies R o (put R (first_end o) first_above)
  pub last_on : Lies R o (put R (last_end o) last_above)
  pub not-before : (P : Place) → Lies R o P → Upto (way (figure o)) (spot (put R (first_end o) first_above)) (spot P)
  pub not_beyond : (P : Place) → Lies R o P → Upto (way (figure o)) (spot P) (spot (put R (last_end o) last_above))

-- e is a point, and put at R it is the one shared place
pub record SharedPoint (R : ℤ) (a b : Object) (e : Point) : Type 0 where
  pub is-point : is_point e ≡ true
  pub above : pos 0 <ℤ e.w
  pub only : OnlyShared R a b (put R e above)

-- the answer m is a point, and P is its place
pub record PointGiven (R : ℤ) (m : Meeting) (P : Place) : Type 0 where
  pub e : Point
  pub is_said : m ≡ point e
  pub above : pos 0 <ℤ e.w
  pub there : SamePlace P (put R e above)

-- "crossing says point exactly when two cut pieces share one point, and gives it, many exactly when they share more, none exactly when
-- they share nothing"
pub record CrossingHolds (R : ℤ) (a b : Object) : Type 0 where
  pub point_said : (e : Point) → crossing_of a b ≡ point e → SharedPoint R a b e
  pub point_when : (P : Place) → OnlyShared R a b P → PointGiven R (crossing_of a b) P
  pub many_exactly : (crossing_of a b ≡ many) ↔ MoreShared R a b
  pub none_exactly : (crossing_of a b ≡ none) ↔ NothingShared R a b

-- everything but turn and side of circle: "For accepted objects and points .."
pub record Holds (R : ℤ) : Type 0 where
  pub above : (p : Point) → is_point p ≡ true → pos 0 <ℤ p.w
  pub ends : (o : Object) → Accepted o → EndsHold R o
  pub orders : (p q : Point) → is_point p ≡ true → is_point q ≡ true → (h : pos 0 <ℤ p.w) (k : pos 0 <ℤ q.w)
      → Ordered (put R p h) (put R q k) (order p q)
  pub sides : (o : Object) → Accepted o → (s : Point) → is_point s ≡ true → (l : pos 0 <ℤ s.w)
      → sign_of (determinant (tail R (figure o)) (tip R (figure o)) (put R s l)) ≡ side_sign o s
  pub crossings : (a b : Object) → Accepted a → Accepted b → CrossingHolds R a b
  -- "Two points are equal exactly when their five numbers are."
  pub same_numbers : (p q : Point) → is_point p ≡ true → is_point q ≡ true → (h : pos 0 <ℤ p.w) (k : pos 0 <ℤ q.w)
      → SamePlace (put R p h) (put R q k) → p ≡ q

-- "order, turn and side have the ordinary signs"; "Only narrow points are taken"
pub record DemandAt (R : ℤ) : Type 0 where
  pub holds : Holds R
  pub turns : (p q s : Point) → is_point p ≡ true → is_point q ≡ true → is_point s ≡ true
      → narrow p ≡ true → narrow q ≡ true → narrow s ≡ true
      → (h : pos 0 <ℤ p.w) (k : pos 0 <ℤ q.w) (l : pos 0 <ℤ s.w)
      → sign_of (determinant (put R p h) (put R q k) (put R s l)) ≡ turn p q s
  -- "Demand 3 extends to it at the same R": the side of circle
  pub circles : (p q s u : Point) → circle_refusal p q s u ≡ pos 0
      → (h : pos 0 <ℤ p.w) (k : pos 0 <ℤ q.w) (l : pos 0 <ℤ s.w) (j : pos 0 <ℤ u.w)
      → sign_of (circle_determinant (put R p h) (put R q k) (put R s l) (put R u j)) ≡ side_of_circle p q s u

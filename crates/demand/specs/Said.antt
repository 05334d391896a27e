-- What demand 3 says of an answer of the code: refused by the paper's number, or not refused there, and what the cut pieces at R say. An answer
-- is one that meets the call's contract (`Post`).
use Rattle.std.specs.Prelude.{◌≡◌, Bool, true, false, ◌↔◌, ℤ, pos, ◌<ℤ◌, Result, Ok, Err}
use contract.Lifetimes.{Lfts}
use Rattle.sheet.specs.declared.Object.{Object}
use Rattle.sheet.specs.declared.Point.{Point}
use Rattle.sheet.specs.declared.Ends.{Ends}
use Rattle.sheet.specs.declared.Crossing.{Crossing}
use Rattle.sheet.specs.declared.Crossing.TheVariants as crossing
use Rattle.sheet.specs.declared.refusal.Refusal.{Refusal}
use Rattle.sheet.specs.Refused.{no_of}
use Rattle.sheet.specs.Figure.{figure}
use Rattle.sheet.specs.Refusal.{Accepted, object_refusal}
use Rattle.sheet.specs.Signs.{order_refusal, turn_refusal, side_sign_refusal}
use Rattle.sheet.specs.Circle.{circle_refusal}
use Rattle.sheet.specs.Crossing.{crossing_refusal}
use Rattle.cut.specs.Place.{Place, SamePlace, put, spot}
use Rattle.cut.specs.Cut.{Upto, Lies, OnlyShared, MoreShared, NothingShared}
use Rattle.cut.specs.Claims.{SharedPoint}
use Rattle.cut.specs.Joined.{Joined}
use Rattle.cut.specs.Ordinary.{Ordered, determinant, circle_determinant, sign_of, way, tail, tip}
use Rattle.kernel.proofs.ends.ends_of.Reads as ends_of
use Rattle.kernel.proofs.signs.order_points.Reads as order-points
use Rattle.kernel.proofs.signs.turn_points.Reads as turn-points
use Rattle.kernel.proofs.signs.side_of.Reads as side-of
use Rattle.kernel.proofs.crossing.cross.Reads as cross
use Rattle.kernel.proofs.crossing.cross_kept.Reads as cross-kept
use Rattle.kernel.proofs.circle.side_of_circle.Reads as side-of-circle

-- refused by the number n, or not refused there, and what is answered is P
pub data Said {A : Type 0} (n : ℤ) (P : A → Type 0) : Result A Refusal → Type 0 where
  is_refused : {e : Refusal} → no_of e ≡ n → Said n P (Err e)
  is_given : {a : A} → n ≡ pos 0 → P a → Said n P (Ok a)

-- "the two ends, put at R, are the cut piece's ends in its direction"
pub record PieceEnds (R : ℤ) (o : Object) (p q : Point) : Type 0 where
  pub p_above : pos 0 <ℤ p.w
  pub q_above : pos 0 <ℤ q.w
  pub p_on : Lies R o (put R p p_above)
  pub q_on : Lies R o (put R q q_above)
  pub not-before : (P : Place) → Lies R o P → Upto (way (figure o)) (spot (put R p p_above)) (spot P)
  pub not_beyond : (P : Place) → Lies R o P → Upto (way (figure o)) (spot P) (spot (put R q q_above))

abbrev pub EndsSaid : ℤ → Object → Result Ends Refusal → Type 0
EndsSaid R o = Said (object_refusal o) (λ (e : Ends). PieceEnds R o e.first e.last)

-- "order, turn and side have the ordinary signs"
pub record OrdinaryOrder (R : ℤ) (p q : Point) (s : ℤ) : Type 0 where
  pub p_above : pos 0 <ℤ p.w
  pub q_above : pos 0 <ℤ q.w
  pub is : Ordered (put R p p_above) (put R q q_above) s

abbrev pub OrderSaid : ℤ → Point → Point → Result ℤ Refusal → Type 0
OrderSaid R p q = Said (order_refusal p q) (OrdinaryOrder R p q)

pub record OrdinaryTurn (R : ℤ) (p q t : Point) (s : ℤ) : Type 0 where
  pub p_above : pos 0 <ℤ p.w
  pub q_above : pos 0 <ℤ q.w
  pub t_above : pos 0 <ℤ t.w
  pub is : s ≡ sign_of (determinant (put R p p_above) (put R q q_above) (put R t t_above))

abbrev pub TurnSaid : ℤ → Point → Point → Point → Result ℤ Refusal → Type 0
TurnSaid R p q t = Said (turn_refusal p q t) (OrdinaryTurn R p q t)

-- "Demand 3 extends to it at the same R"
pub record OrdinaryCircle (R : ℤ) (p q s u : Point) (c : ℤ) : Type 0 where
  pub p_above : pos 0 <ℤ p.w
  pub q_above : pos 0 <ℤ q.w
  pub s_above : pos 0 <ℤ s.w
  pub u_above : pos 0 <ℤ u.w
  pub is : c ≡ sign_of (circle_determinant (put R p p_above) (put R q q_above) (put R s s_above) (put R u u_above))

abbrev pub CircleSaid : ℤ → Point → Point → Point → Point → Result ℤ Refusal → Type 0
CircleSaid R p q s u = Said (circle_refusal p q s u) (OrdinaryCircle R p q s u)

pub record OrdinarySide (R : ℤ) (o : Object) (t : Point) (s : ℤ) : Type 0 where
  pub t_above : pos 0 <ℤ t.w
  pub is : s ≡ sign_of (determinant (tail R (figure o)) (tip R (figure o)) (put R t t_above))

abbrev pub SideSaid : ℤ → Object → Point → Result ℤ Refusal → Type 0
SideSaid R o t = Said (side_sign_refusal o t) (OrdinarySide R o t)

-- the answer r is a point, and P is its place
pub record AnsweredOnce (R : ℤ) (r : Result Crossing Refusal) (P : Place) : Type 0 where
  pub e : Point
  pub is_said : r ≡ Ok (crossing.Once e)
  pub above : pos 0 <ℤ e.w
  pub there : SamePlace P (put R e above)

-- "crossing says point exactly when two cut pieces share one point, and gives it, many exactly when they share more, none exactly when
-- they share nothing"
pub record Exactly (R : ℤ) (a b : Object) (r : Result Crossing Refusal) : Type 0 where
  pub not_refused : (e : Refusal) → r ≡ Err e → ⊥
  pub point_said : (e : Point) → r ≡ Ok (crossing.Once e) → SharedPoint R a b e
  pub point_when : (P : Place) → OnlyShared R a b P → AnsweredOnce R r P
  pub many_exactly : (r ≡ Ok crossing.Many) ↔ MoreShared R a b
  pub none_exactly : (r ≡ Ok crossing.Nothing) ↔ NothingShared R a b

abbrev pub CrossSaid : ℤ → Object → Object → Result Crossing Refusal → Type 0
CrossSaid R a b = Said (crossing_refusal a b) (λ (c : Crossing). Exactly R a b (Ok c))

-- "A pair whose single common point is an end of both objects is now left out .. unless the caller asks for joints" (document 02): where joints
-- are not asked for, nothing is said of a joint, and of every other pair what is said with joints
pub record ExactlyButJoints (R : ℤ) (a b : Object) (r : Result Crossing Refusal) : Type 0 where
  pub of_joint : Joined R a b → r ≡ Ok crossing.Nothing
  pub of_other : (Joined R a b → ⊥) → Exactly R a b r

abbrev pub ExactlyKept : ℤ → Object → Object → Bool → Crossing → Type 0
ExactlyKept R a b true c = Exactly R a b (Ok c)
ExactlyKept R a b false c = ExactlyButJoints R a b (Ok c)

abbrev pub KeptSaid : ℤ → Object → Object → Bool → Result Crossing Refusal → Type 0
KeptSaid R a b joints = Said (crossing_refusal a b) (ExactlyKept R a b joints)

-- ---- every call, at one R

-- all but turn and side of circle
pub record CodeHolds (R : ℤ) : Type 0 where
  pub ends : (κs : Lfts 0) (o : Object) (r : Result Ends Refusal) → ends_of.Post κs (o, tt) r (o, tt) → EndsSaid R o r
  pub orders : (κs : Lfts 0) (p q : Point) (r : Result ℤ Refusal) → order-points.Post κs (p, (q, tt)) r (p, (q, tt)) → OrderSaid R p q r
  pub sides : (κs : Lfts 0) (o : Object) (t : Point) (r : Result ℤ Refusal) → side-of.Post κs (o, (t, tt)) r (o, (t, tt)) → SideSaid R o t r
  pub crossings : (κs : Lfts 0) (a b : Object) (r : Result Crossing Refusal) → cross.Post κs (a, (b, tt)) r (a, (b, tt)) → CrossSaid R a b r
  -- two accepted objects are not refused
  pub accepted_crossings : (κs : Lfts 0) (a b : Object) (r : Result Crossing Refusal)
      → Accepted a → Accepted b → cross.Post κs (a, (b, tt)) r (a, (b, tt)) → Exactly R a b r
  pub kept_crossings : (κs : Lfts 0) (a b : Object) (joints : Bool) (r : Result Crossing Refusal)
      → cross-kept.Post κs (a, (b, (joints, tt))) r (a, (b, (joints, tt))) → KeptSaid R a b joints r

pub record CodeAt (R : ℤ) : Type 0 where
  pub holds : CodeHolds R
  pub turns : (κs : Lfts 0) (p q t : Point) (r : Result ℤ Refusal)
      → turn-points.Post κs (p, (q, (t, tt))) r (p, (q, (t, tt))) → TurnSaid R p q t r
  pub circles : (κs : Lfts 0) (p q s u : Point) (r : Result ℤ Refusal)
      → side-of-circle.Post κs (p, (q, (s, (u, tt)))) r (p, (q, (s, (u, tt)))) → CircleSaid R p q s u r

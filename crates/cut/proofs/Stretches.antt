-- Stretches of lines in the square, and their limits. To cite:
--   After, Before, Between, Part    not before a limit, not beyond it; on a stretch in the square; of-after, of-before: taken apart
--   part_same, between-same         the same place
--   later-both, sooner-both         the later of two limits is both
--   between-over, between-turn, turn-between   limits in a parallel direction, and in the reversed one
--   Marks, Marked, Sound              what the laws need of a stretch: small numbers, and limits that are given places of its line
-- Assumes nothing of R.
use Rattle.std.specs.Prelude.{◌≡◌, ◌↔◌, ℤ, pos, ◌+ℤ◌, ◌*ℤ◌, ◌<ℤ◌}
use Rattle.std.proofs.Common.{subst}
use Rattle.std.specs.Int.Signed.{lt_z}
use Rattle.whole.specs.Order.{<-≤}
use Rattle.whole.specs.Tests.{cond-by, lt_z-true, lt_z-false}
use Rattle.sheet.specs.Figure.{Vec}
use Rattle.sheet.proofs.RefusalLaws.{WithinBoth}
use Rattle.sheet.specs.Ends.{moment, reverse}
use Rattle.sheet.proofs.EndsLaws.{Way}
use Rattle.sheet.specs.Crossing.{Limit, free, till, Stretch, dot, later, sooner}
use Rattle.cut.specs.Place.{Spot, fixed}
use Rattle.cut.specs.Cut.{OnLine, Upto, InSquare}
use Rattle.cut.proofs.Same.{Same, online-same, upto-same, same-upto-left, square-same}
use Rattle.cut.proofs.Line.{size², upto-trans, upto-given, reverse_twice, upto_turn, upto-over}

pub data After (d : Vec) : Limit → Spot → Type 0 where
  after_free : {S : Spot} → After d free S
  after_till : {a : Vec} {S : Spot} → Upto d (fixed a) S → After d (till a) S

pub data Before (d : Vec) : Limit → Spot → Type 0 where
  before_free : {S : Spot} → Before d free S
  before_till : {b : Vec} {S : Spot} → Upto d S (fixed b) → Before d (till b) S

pub record Between (d : Vec) (l h : Limit) (S : Spot) : Type 0 where
  pub after : After d l S
  pub before : Before d h S

-- on the stretch, and in the square
pub record Part (R : ℤ) (A : Stretch) (S : Spot) : Type 0 where
  pub on : OnLine A.p A.d S
  pub between : Between A.d A.start A.stop S
  pub in-square : InSquare R S

pub of-after : {d a : Vec} {S : Spot} → After d (till a) S → Upto d (fixed a) S
of-after (after_till h) = h

pub of-before : {d b : Vec} {S : Spot} → Before d (till b) S → Upto d S (fixed b)
of-before (before_till h) = h

-- ---- the same place

after_same : {d : Vec} {l : Limit} {S T : Spot} → Same S T → After d l S → After d l T
after_same e after_free = after_free
after_same e (after_till h) = after_till (upto-same e h)

before_same : {d : Vec} {l : Limit} {S T : Spot} → Same S T → Before d l S → Before d l T
before_same e before_free = before_free
before_same e (before_till h) = before_till (same-upto-left e h)

pub between-same : {d : Vec} {l h : Limit} {S T : Spot} → Same S T → Between d l h S → Between d l h T
between-same e b = record { after = after_same e b.after; before = before_same e b.before }

pub part_same : {R : ℤ} {A : Stretch} {S T : Spot} → Same S T → Part R A S → Part R A T
part_same e c = record {
  on = online-same e c.on;
  between = between-same e c.between;
  in-square = square-same e c.in-square;
}

-- ---- two limits at once

module _ (d : Vec) where
  pub later-both : (l m : Limit) (S : Spot) → After d (later d l m) S ↔ (After d l S × After d m S)
  later-both free m S = ((λ h. (after_free, h)), (λ h. h.1))
  later-both (till a) free S = ((λ h. (h, after_free)), (λ h. h.0))
  later-both (till a) (till b) S =
      cond-by (λ (l : Limit). After d l S ↔ (After d (till a) S × After d (till b) S)) (lt_z (dot d a) (dot d b))
      (λ t. ((λ h. (after_till (upto-trans (upto-given (<-≤ (lt_z-true t))) (of-after h)), h)), (λ h. h.1)))
      (λ t. ((λ h. (h, after_till (upto-trans (upto-given (lt_z-false t)) (of-after h)))), (λ h. h.0)))

  pub sooner-both : (l m : Limit) (S : Spot) → Before d (sooner d l m) S ↔ (Before d l S × Before d m S)
  sooner-both free m S = ((λ h. (before_free, h)), (λ h. h.1))
  sooner-both (till a) free S = ((λ h. (h, before_free)), (λ h. h.0))
  sooner-both (till a) (till b) S =
      cond-by (λ (l : Limit). Before d l S ↔ (Before d (till a) S × Before d (till b) S)) (lt_z (dot d a) (dot d b))
      (λ t. ((λ h. (h, before_till (upto-trans (of-before h) (upto-given (<-≤ (lt_z-true t)))))), (λ h. h.0)))
      (λ t. ((λ h. (before_till (upto-trans (of-before h) (upto-given (lt_z-false t))), h)), (λ h. h.1)))

-- ---- limits read in a parallel direction

module _ (c d : Vec) (par : c.x *ℤ d.y ≡ c.y *ℤ d.x) (lc : pos 0 <ℤ size² c) (same : pos 0 <ℤ dot c d) where
  after-over : {l : Limit} {S : Spot} → After c l S → After d l S
  after-over after_free = after_free
  after-over (after_till k) = after_till (upto-over c d par lc same k)

  before-over : {l : Limit} {S : Spot} → Before c l S → Before d l S
  before-over before_free = before_free
  before-over (before_till k) = before_till (upto-over c d par lc same k)

  pub between-over : {l h : Limit} {S : Spot} → Between c l h S → Between d l h S
  between-over b = record { after = after-over b.after; before = before-over b.before }

-- ---- and in the reversed one, where start and stop change places

after_turn : {d : Vec} {l : Limit} {S : Spot} → After d l S → Before (reverse d) l S
after_turn after_free = before_free
after_turn (after_till h) = before_till (upto_turn h)

before-turn : {d : Vec} {l : Limit} {S : Spot} → Before d l S → After (reverse d) l S
before-turn before_free = after_free
before-turn (before_till h) = after_till (upto_turn h)

pub between-turn : {d : Vec} {l h : Limit} {S : Spot} → Between d l h S → Between (reverse d) h l S
between-turn b = record { after = before-turn b.before; before = after_turn b.after }

pub turn-between : {d : Vec} {l h : Limit} {S : Spot} → Between (reverse d) h l S → Between d l h S
turn-between {d} {l} {h} {S} b = subst (λ (c : Vec). Between c l h S) (reverse_twice d) (between-turn b)

-- ---- what is needed of a stretch

-- a limit is a given place of the line
pub data Marked (p d : Vec) : Limit → Type 0 where
  marked_free : Marked p d free
  marked_till : {a : Vec} → OnLine p d (fixed a) → WithinBoth 2000 a → Marked p d (till a)

-- and lies at v along it
pub data Marks (d : Vec) (v : ℤ) : Limit → Type 0 where
  marks_free : Marks d v free
  marks_till : {a : Vec} → dot d a ≡ v → Marks d v (till a)

pub record Sound (A : Stretch) : Type 0 where
  pub small_p : WithinBoth 2000 A.p
  pub way : Way A.d.x A.d.y (moment A.p A.d)
  pub len : pos 0 <ℤ size² A.d
  pub start_ok : Marked A.p A.d A.start
  pub stop_ok : Marked A.p A.d A.stop
  pub at_p : Marks A.d (dot A.d A.p) A.start
  pub at_q : Marks A.d (dot A.d A.p +ℤ size² A.d) A.stop

-- Demand 3. To cite:
--   demand-3    every R of 2,000,000,000,000,000,000 or more: ends, order, turn, side, crossing, equal numbers, side of circle (`Claims` says
--               what each is)
--   from-small  all but turn and side of circle, for every R of 1,000,000,000,000,000 or more
--   from-need   the same for every R above what order needs, which is the most
use Rattle.std.proofs.Common.{subst}
use Rattle.std.specs.Prelude.{ℤ, pos, ◌≤ℤ◌, ◌<ℤ◌}
use Rattle.std.specs.Int.Signed.{lt_z_yes, le_z_yes}
use Rattle.whole.specs.Order.{≤_trans, ≤-<-trans, <-≤-trans, <-≤}
use Rattle.sheet.specs.declared.Object.{Object}
use Rattle.sheet.specs.Refusal.{Accepted}
use Rattle.sheet.proofs.RefusalLaws.{accepted-drawn}
use Rattle.sheet.specs.PointsLaws.{point-is, narrow-is, point-sizes}
use Rattle.sheet.specs.Ends.{first_end, last_end}
use Rattle.sheet.specs.Signs.{side_sign}
use Rattle.sheet.proofs.CircleLaws.{circle-taken}
use Rattle.sheet.specs.Crossing.{none, many}
use Rattle.cut.specs.Bounds.{ends_need, crossing_need, order_need}
use Rattle.cut.specs.Place.{spot}
use Rattle.cut.specs.Cut.{MoreShared, NothingShared}
use Rattle.cut.specs.Claims.{EndsHold, CrossingHolds, Holds, DemandAt}
use Rattle.cut.proofs.Same.{put-spot, on_same, upto-same, same-upto-left}
use Rattle.cut.proofs.EndsAt.{ends_at}
use Rattle.cut.proofs.OrderAt.{order-at}
use Rattle.cut.proofs.TurnAt.{turn_at}
use Rattle.cut.proofs.SideAt.{side-at}
use Rattle.cut.proofs.CircleAt.{circle-at}
use Rattle.cut.proofs.SameNumbers.{same-numbers-at}
use Rattle.cut.proofs.CrossingAt.{Shares, shares_none, shares_many, crossing-shares, point_said, none-when, many-when, point_when}

ends-hold : {R : ℤ} → pos ends_need ≤ℤ R → {o : Object} → Accepted o → EndsHold R o
unfolding first_end last_end
ends-hold {R} h_r {o} a =
    let e = ends_at h_r (accepted-drawn a) in
    record {
      first_above = e.first_over;
      last_above = e.last_over;
      first_on = record { lies = on_same (put-spot R (first_end o) e.first_over) e.first_on };
      last_on = record { lies = on_same (put-spot R (last_end o) e.last_over) e.last_on };
      not-before = λ P l. same-upto-left (put-spot R (first_end o) e.first_over) (e.not-before (spot P) l.lies);
      not_beyond = λ P l. upto-same (put-spot R (last_end o) e.last_over) (e.not_beyond (spot P) l.lies);
    }

crossing-holds : {R : ℤ} → pos crossing_need ≤ℤ R → {a b : Object} → Accepted a → Accepted b → CrossingHolds R a b
crossing-holds {R} h_r {a} {b} s t =
    let c = crossing-shares h_r s t in
    record {
      point_said = point_said c;
      point_when = point_when c;
      many_exactly = (λ e. more (subst (Shares R a b) e c), many-when c);
      none_exactly = (λ e. nothing (subst (Shares R a b) e c), none-when c);
    }
  where
    more : Shares R a b many → MoreShared R a b
    more (shares_many w) = w

    nothing : Shares R a b none → NothingShared R a b
    nothing (shares_none n) = n

-- ends, order, side, crossing and equal numbers: order needs the most of R, and only turn more
pub from-need : (R : ℤ) → pos order_need <ℤ R → Holds R
unfolding side_sign
from-need R h_r = record {
  above = λ p i. (point-sizes ((point-is p).0 i)).in-w.above;
  ends = λ o a. ends-hold (≤_trans (le_z_yes tt) (<-≤ h_r)) a;
  orders = λ p q i j h k. order-at h_r ((point-is p).0 i) ((point-is q).0 j) h k;
  sides = λ o a s i l. side-at (≤-<-trans (le_z_yes tt) h_r) (accepted-drawn a) ((point-is s).0 i) l;
  crossings = λ a b s t. crossing-holds (≤_trans (le_z_yes tt) (<-≤ h_r)) s t;
  same_numbers = λ p q i j h k e. same-numbers-at h_r ((point-is p).0 i) ((point-is q).0 j) h k e;
}

-- "at every whole R of 1,000,000,000,000,000 or more"
pub from-small : (R : ℤ) → pos 1000000000000000 ≤ℤ R → Holds R
from-small R h_r = from-need R (<-≤-trans (lt_z_yes tt) h_r)

-- "Take any whole R of 2,000,000,000,000,000,000 or more"
pub demand-3 : (R : ℤ) → pos 2000000000000000000 ≤ℤ R → DemandAt R
demand-3 R h_r = record {
  holds = from-need R (<-≤-trans (lt_z_yes tt) h_r);
  turns = λ p q s i j m np nq ns h k l.
      turn_at (<-≤-trans (lt_z_yes tt) h_r) ((point-is p).0 i) ((point-is q).0 j) ((point-is s).0 m)
      ((narrow-is p).0 np) ((narrow-is q).0 nq) ((narrow-is s).0 ns) h k l;
  circles = λ p q s u z h k l j. circle-at (<-≤-trans (lt_z_yes tt) h_r) (circle-taken p q s u z) h k l j;
}

-- What the code's answers mean at a concrete R. To cite:
--   smaller-frame  for every R of 1,000,000,000,000,000 or more and every input, an answer that meets the contract of ends, order, side or
--                  crossing, joints left out or not, is what the cut pieces at R say, or the refusal that the paper names
--   demand         demand 3: for every R of 2,000,000,000,000,000,000 or more the same, and turn and side of circle too
--   smallest       all but these two holds from b on exactly where b is above 256,000,008,000,000
-- The contracts are the functions' own (`Post`), which the kernel's code is proved to meet.
use Rattle.std.specs.Prelude.{◌≡◌, refl, Bool, true, false, cond, ◌⊎◌, ◌↔◌, List, [], ◌∷◌, ◌++◌, ℤ, pos, ◌≤ℤ◌, ◌<ℤ◌, Result, Ok, Err}
use Rattle.std.proofs.Common.{sym, ap, ◌∙◌, subst, true≢false, inl, inr}
use Rattle.std.proofs.Math.IntN.{ℤ_discrete}
use Rattle.std.specs.Int.Signed.{lt_z_yes}
use Rattle.sheet.specs.declared.Object.{Object}
use Rattle.sheet.specs.declared.Point.{Point}
use Rattle.sheet.specs.declared.Ends.{Ends}
use Rattle.sheet.specs.declared.Crossing.{Crossing}
use Rattle.sheet.specs.declared.refusal.Refusal.{Refusal}
use Rattle.sheet.specs.Refused.{no_of, says}
use Rattle.sheet.specs.RefusedLaws.{no-zero}
use Rattle.sheet.specs.Refusal.{Accepted, object_refusal}
use Rattle.sheet.specs.Points.{numbers}
use Rattle.sheet.specs.Ends.{first_end, last_end}
use Rattle.sheet.specs.Signs.{order, turn, side_sign, order_refusal, turn_refusal, side_sign_refusal}
use Rattle.sheet.specs.Circle.{side_of_circle, circle_refusal}
use Rattle.sheet.proofs.CircleLaws.{circle-points}
use Rattle.sheet.specs.Answers.{answer, ends_say, signed_says, meeting_numbers, crossing_says}
use Rattle.sheet.specs.Meetings.{crossing_by, meeting_by}
use Rattle.sheet.specs.AnswersLaws.{accepted, refused, ends-one, signed-one, crossing-one, crossing-says, crossing-met}
use Rattle.sheet.specs.AcceptsLaws.{order-taken, turn-taken, side-taken, cross-taken, taken-cross}
use Rattle.sheet.specs.Crossing.{Meeting, none, crossing_of, crossing_refusal}
use Rattle.sheet.specs.Joint.{joint, kept}
use Rattle.sheet.proofs.JointLaws.{kept-asked, kept-left}
use Rattle.whole.specs.Order.{<-≤-trans, le-or-lt}
use Rattle.cut.specs.Claims.{EndsHold, CrossingHolds, Holds, DemandAt}
use Rattle.cut.specs.Bounds.{order_need}
use Rattle.cut.proofs.Demand.{from-need, demand-3}
use Rattle.cut.proofs.JointAt.{joint-at}
use Rattle.demand.specs.Said.{Said, is_refused, is_given, PieceEnds, EndsSaid, OrdinaryOrder, OrderSaid, OrdinaryTurn, TurnSaid, OrdinaryCircle, CircleSaid, OrdinarySide, SideSaid, Exactly, CrossSaid, ExactlyButJoints, ExactlyKept, KeptSaid, CodeHolds, CodeAt}
use Rattle.demand.specs.WorkedBounds.{orders-fail}

-- ---- an answer

-- what says as `answer` does refuses by n, or gives the one a that says these values, of which P holds
said :
    {A : Type 0} {numbers : A → List ℤ} (one : (r s : Result A Refusal) → says numbers r ≡ says numbers s → r ≡ s) {n : ℤ} {values : List ℤ}
    (P : A → Type 0) (a : A) → numbers a ≡ values → (n ≡ pos 0 → P a) → (r : Result A Refusal) → says numbers r ≡ answer n values → Said n P r
said {A} {numbers} one {n} {values} P a f h r e = go (ℤ_discrete n (pos 0)) r e
  where
    go : Dec (n ≡ pos 0) → (r : Result A Refusal) → says numbers r ≡ answer n values → Said n P r
    go (yes z) r e = subst (Said n P) (sym (one r (Ok a) (e ∙ accepted values z ∙ ap (λ (l : List ℤ). pos 0 ∷ l) (sym f)))) (is_given z (h z))
    go (no d) (Ok b) e =
        let said : pos 0 ∷ numbers b ≡ n ∷ [] = e ∙ refused values d in
        let z : n ≡ pos 0 = cc in absurd (d z)
    go (no d) (Err x) e =
        let said : no_of x ∷ [] ≡ n ∷ [] = e ∙ refused values d in
        let z : no_of x ≡ n = cc in is_refused z

-- ---- a crossing as it is answered

abbrev answered_by : Meeting → Result Crossing Refusal
answered_by m = Ok (crossing_by m)

same-crossing : {m n : Meeting} → answered_by m ≡ answered_by n → m ≡ n
same-crossing {m} {n} e = let c : crossing_by m ≡ crossing_by n = cc in sym (crossing-met m) ∙ ap meeting_by c ∙ crossing-met n

no-refusal : {c : Crossing} (e : Refusal) → Ok c ≡ Err e → ⊥
no-refusal e h = cc

-- ---- each call

module _ (R : ℤ) (d : Holds R) where
  piece-ends : {o : Object} → EndsHold R o → PieceEnds R o (first_end o) (last_end o)
  piece-ends e = record {
    p_above = e.first_above;
    q_above = e.last_above;
    p_on = e.first_on;
    q_on = e.last_on;
    not-before = e.not-before;
    not_beyond = e.not_beyond;
  }

  ends-said : (o : Object) (r : Result Ends Refusal)
      → ends_say r ≡ answer (object_refusal o) (numbers (first_end o) ++ numbers (last_end o)) → EndsSaid R o r
  ends-said o =
      said ends-one (λ (e : Ends). PieceEnds R o e.first e.last) (record { first = first_end o; last = last_end o }) refl
      (λ z. piece-ends (d.ends o (record { accepted = z })))

  order-said : (p q : Point) (r : Result ℤ Refusal) → signed_says r ≡ answer (order_refusal p q) (order p q ∷ []) → OrderSaid R p q r
  order-said p q =
      said signed-one (OrdinaryOrder R p q) (order p q) refl
      (λ z.
      let t = order-taken p q z in
      let h = d.above p t.0 in
      let k = d.above q t.1 in
      record { p_above = h; q_above = k; is = d.orders p q t.0 t.1 h k })

  side-said : (o : Object) (t : Point) (r : Result ℤ Refusal) → signed_says r ≡ answer (side_sign_refusal o t) (side_sign o t ∷ []) → SideSaid R o t r
  side-said o t =
      said signed-one (OrdinarySide R o t) (side_sign o t) refl
      (λ z.
      let i = side-taken o t z in
      let l = d.above t i.1 in
      record { t_above = l; is = sym (d.sides o i.0 t i.1 l) })

  exactly : {a b : Object} → CrossingHolds R a b → Exactly R a b (answered_by (crossing_of a b))
  exactly {a} {b} h = record {
    not_refused = no-refusal;
    point_said = λ e q. h.point_said e (same-crossing q);
    point_when = λ P o.
        let w = h.point_when P o in record { e = w.e; is_said = ap answered_by w.is_said; above = w.above; there = w.there };
    many_exactly = (λ q. h.many_exactly.0 (same-crossing q), λ w. ap answered_by (h.many_exactly.1 w));
    none_exactly = (λ q. h.none_exactly.0 (same-crossing q), λ w. ap answered_by (h.none_exactly.1 w));
  }

  cross-said : (a b : Object) (r : Result Crossing Refusal)
      → crossing_says r ≡ answer (crossing_refusal a b) (meeting_numbers (crossing_of a b)) → CrossSaid R a b r
  cross-said a b =
      said crossing-one (λ (c : Crossing). Exactly R a b (Ok c)) (crossing_by (crossing_of a b)) (crossing-says (crossing_of a b))
      (λ z. let t = cross-taken a b z in exactly (d.crossings a b t.0 t.1))

  -- ---- joints left out, or not

  but-joints : {a b : Object} → Accepted a → Accepted b → ExactlyButJoints R a b (Ok (crossing_by (kept false a b)))
  but-joints {a} {b} s t =
      subst (λ (m : Meeting). ExactlyButJoints R a b (Ok (crossing_by m))) (sym (kept-left a b)) (go (joint a b) refl)
    where
      go : (y : Bool) → joint a b ≡ y → ExactlyButJoints R a b (Ok (crossing_by (cond y none (crossing_of a b))))
      go true e = record { of_joint = λ j. refl; of_other = λ n. absurd (n ((joint-at d s t).0 e)) }
      go false e = record {
        of_joint = λ j. absurd (true≢false (sym ((joint-at d s t).1 j) ∙ e));
        of_other = λ n. exactly (d.crossings a b s t);
      }

  kept-exactly : {a b : Object} → Accepted a → Accepted b → (joints : Bool) → ExactlyKept R a b joints (crossing_by (kept joints a b))
  kept-exactly {a} {b} s t true = subst (λ (m : Meeting). Exactly R a b (Ok (crossing_by m))) (sym (kept-asked a b)) (exactly (d.crossings a b s t))
  kept-exactly s t false = but-joints s t

  kept-said : (a b : Object) (joints : Bool) (r : Result Crossing Refusal)
      → crossing_says r ≡ answer (crossing_refusal a b) (meeting_numbers (kept joints a b)) → KeptSaid R a b joints r
  kept-said a b joints =
      said crossing-one (ExactlyKept R a b joints) (crossing_by (kept joints a b)) (crossing-says (kept joints a b))
      (λ z. let t = cross-taken a b z in kept-exactly t.0 t.1 joints)

turn-said : (R : ℤ) → DemandAt R → (p q t : Point) (r : Result ℤ Refusal)
    → signed_says r ≡ answer (turn_refusal p q t) (turn p q t ∷ []) → TurnSaid R p q t r
turn-said R d p q t =
    said signed-one (OrdinaryTurn R p q t) (turn p q t) refl
    (λ z.
    let i = turn-taken p q t z in
    let h = d.holds.above p i.0 in
    let k = d.holds.above q i.1 in
    let l = d.holds.above t i.2 in
    record { p_above = h; q_above = k; t_above = l; is = sym (d.turns p q t i.0 i.1 i.2 i.3 i.4 i.5 h k l) })

circle-said : (R : ℤ) → DemandAt R → (p q s u : Point) (r : Result ℤ Refusal)
    → signed_says r ≡ answer (circle_refusal p q s u) (side_of_circle p q s u ∷ []) → CircleSaid R p q s u r
circle-said R d p q s u =
    said signed-one (OrdinaryCircle R p q s u) (side_of_circle p q s u) refl
    (λ z.
    let i = circle-points p q s u z in
    let h = d.holds.above p i.0 in
    let k = d.holds.above q i.1 in
    let l = d.holds.above s i.2 in
    let j = d.holds.above u i.3 in
    record { p_above = h; q_above = k; s_above = l; u_above = j; is = sym (d.circles p q s u z h k l j) })

cross-exactly : {R : ℤ} {a b : Object} {r : Result Crossing Refusal} → Accepted a → Accepted b → CrossSaid R a b r → Exactly R a b r
cross-exactly s t (is_refused {e} n) = absurd (no-zero e (n ∙ taken-cross s t))
cross-exactly s t (is_given z h) = h

-- ---- the demand

-- order needs the most of R, and only turn more
above-need : (R : ℤ) → pos order_need <ℤ R → CodeHolds R
above-need R h_r =
    let d = from-need R h_r in
    record {
      ends = λ κs o r. ends-said R d o r;
      orders = λ κs p q r. order-said R d p q r;
      sides = λ κs o t r. side-said R d o t r;
      crossings = λ κs a b r. cross-said R d a b r;
      accepted_crossings = λ κs a b r s t e. cross-exactly s t (cross-said R d a b r e);
      kept_crossings = λ κs a b joints r. kept-said R d a b joints r;
    }

-- "ends, order, side and crossing already agree with the cut pieces at every whole R of 1,000,000,000,000,000 or more"
pub smaller-frame : (R : ℤ) → pos 1000000000000000 ≤ℤ R → CodeHolds R
smaller-frame R h_r = above-need R (<-≤-trans (lt_z_yes tt) h_r)

-- "Take any whole R of 2,000,000,000,000,000,000 or more"
pub demand : (R : ℤ) → pos 2000000000000000000 ≤ℤ R → CodeAt R
demand R h_r = record {
  holds = above-need R (<-≤-trans (lt_z_yes tt) h_r);
  turns = λ κs p q t r. turn-said R (demand-3 R h_r) p q t r;
  circles = λ κs p q s u r. circle-said R (demand-3 R h_r) p q s u r;
}

-- ---- how small a frame may be

-- at what order needs it fails, so from b on all but turn and side of circle holds exactly where b is larger
pub smallest : (b : ℤ) → ((R : ℤ) → b ≤ℤ R → CodeHolds R) ↔ (pos 256000008000000 <ℤ b)
smallest b = (λ h. go h (le-or-lt b (pos order_need)), λ h R h_r. above-need R (<-≤-trans h h_r))
  where
    go : ((R : ℤ) → b ≤ℤ R → CodeHolds R) → (b ≤ℤ pos order_need) ⊎ (pos order_need <ℤ b) → pos order_need <ℤ b
    go h (inl l) = absurd (orders-fail (h (pos order_need) l))
    go h (inr l) = l

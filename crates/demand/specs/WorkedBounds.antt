-- The code at the R of `cut/proofs/WorkedBounds`: its answers to those objects and points are not what the cut pieces say there. To cite:
--   ends-fail 3,999,999, meets-fail 4,000,000, crossings-fail 63,968,005,999, sides-fail 64,000,000,000, orders-fail 256,000,008,000,000
--   turns-fail 1,023,871,872,008,004,000, circles-fail 31,960,016,000
--   first-twice, last-twice   one end of a segment in the place of both is no answer, at R of 1,000,000,000,000,000
-- So what `Said` asks of each call does not hold of every answer.
use Rattle.std.specs.Prelude.{◌≡◌, refl, List, [], ◌∷◌, ℤ, pos, Result, Ok}
use Rattle.std.proofs.Common.{sym, ◌∙◌, ap}
use Rattle.whole.specs.Tests.{eq_z-false}
use Rattle.sheet.specs.declared.Object.{Object}
use Rattle.sheet.specs.declared.Point.{Point}
use Rattle.sheet.specs.declared.Ends.{Ends}
use Rattle.sheet.specs.declared.Crossing.{Crossing}
use Rattle.sheet.specs.declared.Crossing.TheVariants as crossing
use Rattle.sheet.specs.declared.refusal.Refusal.{Refusal}
use Rattle.sheet.specs.Figure.{figure_of}
use Rattle.sheet.specs.Ends.{first_end, last_end}
use Rattle.sheet.specs.Crossing.{Meeting, crossing_of, crossing_refusal}
use Rattle.sheet.specs.Answers.{answer, signed_says, meeting_numbers, crossing_numbers}
use Rattle.sheet.specs.AnswersLaws.{accepted}
use Rattle.sheet.specs.AcceptsLaws.{cross-taken}
use Rattle.sheet.specs.Cases.{minus, segment, at}
use Rattle.cut.proofs.AtTheBounds.{at-the-small-bound}
use Rattle.cut.proofs.WorkedBounds as worked
use Rattle.cut.proofs.WorkedBounds.{R-ends, steep, R-meet, top-side, corner, R-crossing, upper, lower, shared, R-side, left-side, farthest, R-order, still, below, R-turn, from, to, beside, R-circle, middle, lowest, highest, straight-down}
use Rattle.demand.specs.Said.{is_given, EndsSaid, OrderSaid, TurnSaid, CircleSaid, SideSaid, Exactly, CodeHolds, CodeAt}

-- ---- an answer to what is accepted

sign-met : {n s t : ℤ} → n ≡ pos 0 → t ≡ s → signed_says (Ok s) ≡ answer n (t ∷ [])
sign-met z e = sym (accepted _ z ∙ ap (λ (x : ℤ). pos 0 ∷ x ∷ []) e)

-- what is asked of the answer r to two objects that are accepted and share m
crossed : {R : ℤ} → CodeHolds R → (a b : Object) (m : Meeting) (r : Crossing) → crossing_numbers r ≡ meeting_numbers m
    → crossing_refusal a b ≡ pos 0 → crossing_of a b ≡ m → Exactly R a b (Ok r)
crossed c a b m r s z e =
    let t = cross-taken a b z in
    c.accepted_crossings tt a b (Ok r) t.0 t.1 (ap (λ (l : List ℤ). pos 0 ∷ l) s ∙ sym (accepted _ z ∙ ap (λ (x : Meeting). pos 0 ∷ meeting_numbers x) e))

-- ---- each call

-- one end and another, as they are answered
abbrev both : Point → Point → Result Ends Refusal
both p q = Ok (record { first = p; last = q })

pub ends-fail : CodeHolds R-ends → ⊥
ends-fail c = go (c.ends tt steep (both (first_end steep) (last_end steep)) (sym (accepted _ worked.ends-accepted)))
  where
    go : EndsSaid R-ends steep (both (first_end steep) (last_end steep)) → ⊥
    go (is_given z e) = worked.ends-outside e.q_above e.q_on

-- the segment from (0, 0) to (2, 0): its own ends are on it
abbrev short : Object
short = segment (pos 0) (pos 0) (pos 2) (pos 0)

abbrev R-small : ℤ
R-small = pos 1000000000000000

pub first-twice : EndsSaid R-small short (both (at (pos 0) (pos 0)) (at (pos 0) (pos 0))) → ⊥
unfolding figure_of last_end
first-twice (is_given z e) = (e.not_beyond _ (at-the-small-bound.ends short (record { accepted = z })).last_on).upto.le

pub last-twice : EndsSaid R-small short (both (at (pos 2) (pos 0)) (at (pos 2) (pos 0))) → ⊥
unfolding figure_of first_end
last-twice (is_given z e) = (e.not-before _ (at-the-small-bound.ends short (record { accepted = z })).first_on).upto.le

pub meets-fail : CodeHolds R-meet → ⊥
meets-fail c =
    ((crossed c steep top-side _ crossing.Nothing refl worked.meet-accepted worked.meet-ours).none_exactly.0 refl).nothing corner worked.meet-ordinary

pub crossings-fail : CodeHolds R-crossing → ⊥
crossings-fail c =
    let e = (crossed c upper lower _ (crossing.Once shared) refl worked.crossing-accepted worked.crossing-ours).point_said shared refl in
    worked.crossing-outside e.above e.only.is_shared.on_first

pub sides-fail : CodeHolds R-side → ⊥
sides-fail c = go (c.sides tt left-side farthest (Ok (pos 1)) (sign-met worked.side-accepted worked.side-ours))
  where
    go : SideSaid R-side left-side farthest (Ok (pos 1)) → ⊥
    go (is_given z e) = eq_z-false {a = pos 1} {b = pos 0} refl (e.is ∙ worked.side-ordinary e.t_above)

pub orders-fail : CodeHolds R-order → ⊥
orders-fail c = go (c.orders tt still below (Ok (minus 1)) (sign-met worked.order-accepted worked.order-ours))
  where
    go : OrderSaid R-order still below (Ok (minus 1)) → ⊥
    go (is_given z e) = worked.not-before e.p_above e.q_above e.is

pub turns-fail : CodeAt R-turn → ⊥
turns-fail c = go (c.turns tt from to beside (Ok (minus 1)) (sign-met worked.turn-accepted worked.turn-ours))
  where
    go : TurnSaid R-turn from to beside (Ok (minus 1)) → ⊥
    go (is_given z e) = eq_z-false {a = minus 1} {b = pos 0} refl (e.is ∙ worked.turn-ordinary e.p_above e.q_above e.t_above)

pub circles-fail : CodeAt R-circle → ⊥
circles-fail c = go (c.circles tt middle lowest highest straight-down (Ok (pos 1)) (sign-met worked.circle-accepted worked.circle-ours))
  where
    go : CircleSaid R-circle middle lowest highest straight-down (Ok (pos 1)) → ⊥
    go (is_given z e) = eq_z-false {a = pos 1} {b = pos 0} refl (e.is ∙ worked.circle-ordinary e.p_above e.q_above e.s_above e.u_above)

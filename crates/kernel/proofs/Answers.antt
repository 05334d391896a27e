-- Two answers that meet a function's contract are equal: stated of the contract itself (`Post`), at any arguments.
use mathlib.Core.Path.{◌≡◌, sym, ◌∙◌}
use mathlib.Core.Bool.{Bool}
use lib.IntN.{ℤ}
use contract.Lifetimes.{Lfts}
use Rattle.std.specs.Prelude.{Result}
use Rattle.sheet.specs.declared.Object.{Object}
use Rattle.sheet.specs.declared.Point.{Point}
use Rattle.sheet.specs.declared.Ends.{Ends}
use Rattle.sheet.specs.declared.Crossing.{Crossing}
use Rattle.sheet.specs.declared.refusal.Refusal.{Refusal}
use Rattle.sheet.specs.AnswersLaws.{ends-one, signed-one, crossing-one}
use Rattle.sheet.specs.RefusedLaws.{refused-one}
use Rattle.kernel.proofs.points.check_point.Reads as check-point
use Rattle.kernel.proofs.ends.ends_of.Reads as ends_of
use Rattle.kernel.proofs.signs.order_points.Reads as order-points
use Rattle.kernel.proofs.signs.turn_points.Reads as turn-points
use Rattle.kernel.proofs.signs.side_of.Reads as side-of
use Rattle.kernel.proofs.crossing.cross.Reads as cross
use Rattle.kernel.proofs.crossing.cross_kept.Reads as cross-kept
use Rattle.kernel.proofs.circle.side_of_circle.Reads as side-of-circle

pub check-point-answer :
    (κs : Lfts 0) (a : Point) (r s : Result Unit Refusal) → check-point.Post κs (a, tt) r (a, tt) → check-point.Post κs (a, tt) s (a, tt) → r ≡ s
check-point-answer κs a r s p q = refused-one r s (p ∙ sym q)

pub ends-of-answer :
    (κs : Lfts 0) (o : Object) (r s : Result Ends Refusal) → ends_of.Post κs (o, tt) r (o, tt) → ends_of.Post κs (o, tt) s (o, tt) → r ≡ s
ends-of-answer κs o r s p q = ends-one r s (p ∙ sym q)

abbrev Two : Type 0
Two = Point × (Point × Unit {0})

abbrev ThreePoints : Type 0
ThreePoints = Point × (Point × (Point × Unit {0}))

abbrev With : Type 0
With = Object × (Point × Unit {0})

pub order-points-answer : (κs : Lfts 0) (a : Two) (r s : Result ℤ Refusal) → order-points.Post κs a r a → order-points.Post κs a s a → r ≡ s
order-points-answer κs a r s p q = signed-one r s (p ∙ sym q)

pub turn-points-answer : (κs : Lfts 0) (a : ThreePoints) (r s : Result ℤ Refusal) → turn-points.Post κs a r a → turn-points.Post κs a s a → r ≡ s
turn-points-answer κs a r s p q = signed-one r s (p ∙ sym q)

pub side-of-answer : (κs : Lfts 0) (a : With) (r s : Result ℤ Refusal) → side-of.Post κs a r a → side-of.Post κs a s a → r ≡ s
side-of-answer κs a r s p q = signed-one r s (p ∙ sym q)

pub cross-answer : (κs : Lfts 0) (a b : Object) (r s : Result Crossing Refusal)
    → cross.Post κs (a, (b, tt)) r (a, (b, tt)) → cross.Post κs (a, (b, tt)) s (a, (b, tt)) → r ≡ s
cross-answer κs a b r s p q = crossing-one r s (p ∙ sym q)

pub cross-kept-answer : (κs : Lfts 0) (a b : Object) (joints : Bool) (r s : Result Crossing Refusal)
    → cross-kept.Post κs (a, (b, (joints, tt))) r (a, (b, (joints, tt))) → cross-kept.Post κs (a, (b, (joints, tt))) s (a, (b, (joints, tt)))
    → r ≡ s
cross-kept-answer κs a b joints r s p q = crossing-one r s (p ∙ sym q)

abbrev Four : Type 0
Four = Point × (Point × (Point × (Point × Unit {0})))

pub side-of-circle-answer : (κs : Lfts 0) (a : Four) (r s : Result ℤ Refusal) → side-of-circle.Post κs a r a → side-of-circle.Post κs a s a → r ≡ s
side-of-circle-answer κs a r s p q = signed-one r s (p ∙ sym q)

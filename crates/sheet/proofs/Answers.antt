-- Two answers that meet a function's contract are equal, and so are lent cells afterwards: stated of the contract itself (`Post`), at any arguments.
use mathlib.Core.Path.{◌≡◌, sym, ◌∙◌}
use mathlib.Core.Bool.{Bool}
use mathlib.Core.List.{List}
use Prim.Native.Nat.{ℕ}
use lib.IntN.{ℤ}
use contract.Lifetimes.{Lfts}
use denote.Ref.{Bor}
use denote.MutBor.{MutBor}
use Rattle.sheet.specs.declared.Object.{Object}
use Rattle.sheet.specs.declared.Point.{Point}
use Rattle.std.specs.Prelude.{Result}
use Rattle.sheet.specs.declared.refusal.Refusal.{Refusal}
use Rattle.sheet.specs.declared.refusal.Unfilled.{Unfilled}
use Rattle.sheet.specs.RefusedLaws.{refused-one}
use Rattle.sheet.specs.AnswersLaws.{made_one}
use Rattle.sheet.proofs.Object.segment.Reads as segment
use Rattle.sheet.proofs.Object.ray.Reads as ray
use Rattle.sheet.proofs.Object.line.Reads as line
use Rattle.sheet.proofs.Object.side.Reads as side
use Rattle.sheet.proofs.Point.given.Reads as given
use Rattle.sheet.proofs.Point.corner.Reads as corner
use Rattle.sheet.proofs.are_equal.Reads as are-equal
use Rattle.sheet.proofs.is_beyond.Reads as is-beyond
use Rattle.sheet.proofs.check_object.Reads as check-object
use Rattle.sheet.proofs.refusal.Unfilled.needed.Reads as needed
use Rattle.sheet.proofs.lists.object_at.Reads as object-at
use Rattle.sheet.proofs.lists.check_list.Reads as check-list
use Rattle.sheet.proofs.lent.behind.Reads as behind
use Rattle.sheet.proofs.lent.put_byte.Reads as put_byte
use Rattle.sheet.proofs.lent.put_numbers.Reads as put-numbers

abbrev Five : Type 0
Five = ℤ × (ℤ × (ℤ × (ℤ × (ℤ × Unit {0}))))

pub segment-answer : (κs : Lfts 0) (a : Five) (r s : Result Object Refusal) → segment.Post κs a r a → segment.Post κs a s a → r ≡ s
segment-answer κs a r s p q = made_one r s (p ∙ sym q)

pub ray-answer : (κs : Lfts 0) (a : Five) (r s : Result Object Refusal) → ray.Post κs a r a → ray.Post κs a s a → r ≡ s
ray-answer κs a r s p q = made_one r s (p ∙ sym q)

pub line-answer : (κs : Lfts 0) (a : Five) (r s : Result Object Refusal) → line.Post κs a r a → line.Post κs a s a → r ≡ s
line-answer κs a r s p q = made_one r s (p ∙ sym q)

abbrev Two : Type 0
Two = ℤ × (ℤ × Unit {0})

pub side-answer : (κs : Lfts 0) (a : Two) (r s : Result Object Refusal) → side.Post κs a r a → side.Post κs a s a → r ≡ s
side-answer κs a r s p q = made_one r s (p ∙ sym q)

pub given-answer : (κs : Lfts 0) (a : Two) (r s : Point) → given.Post κs a r a → given.Post κs a s a → r ≡ s
given-answer κs a r s p q = p ∙ sym q

pub corner-answer : (κs : Lfts 0) (a : Two) (r s : Point) → corner.Post κs a r a → corner.Post κs a s a → r ≡ s
corner-answer κs a r s p q = p ∙ sym q

pub is-beyond-answer : (κs : Lfts 0) (z : ℤ) (r s : Bool) → is-beyond.Post κs (z, tt) r (z, tt) → is-beyond.Post κs (z, tt) s (z, tt) → r ≡ s
is-beyond-answer κs z r s p q = p ∙ sym q

pub are-equal-answer :
    (κs : Lfts 0) (px py qx qy : ℤ) (r s : Bool)
    → are-equal.Post κs (px, (py, (qx, (qy, tt)))) r (px, (py, (qx, (qy, tt)))) → are-equal.Post κs (px, (py, (qx, (qy, tt)))) s (px, (py, (qx, (qy, tt)))) → r ≡ s
are-equal-answer κs px py qx qy r s p q = p ∙ sym q

pub check-object-answer :
    (κs : Lfts 0) (o : Object) (r s : Result Unit Refusal) → check-object.Post κs (o, tt) r (o, tt) → check-object.Post κs (o, tt) s (o, tt) → r ≡ s
check-object-answer κs o r s p q = refused-one r s (p.0 ∙ sym q.0)

pub check-list-answer :
    (κs : Lfts 1) (l : Bor (List ℤ)) (r s : Result Unit Refusal) → check-list.Post κs (l, tt) r (l, tt) → check-list.Post κs (l, tt) s (l, tt) → r ≡ s
check-list-answer κs l r s p q = refused-one r s (p ∙ sym q)

pub object-at-answer :
    (κs : Lfts 1) (l : Bor (List ℤ)) (i : ℕ) (r s : Object)
    → object-at.Post κs (l, (i, tt)) r (l, (i, tt)) → object-at.Post κs (l, (i, tt)) s (l, (i, tt)) → r ≡ s
object-at-answer κs l i r s p q = p ∙ sym q

pub needed-answer :
    (κs : Lfts 0) (u : Unfilled) (r s : ℕ) → needed.Post κs (u, tt) r (u, tt) → needed.Post κs (u, tt) s (u, tt) → r ≡ s
needed-answer κs u r s p q = p ∙ sym q

-- the place behind, and the lent cells afterwards

pub behind-answer :
    (κs : Lfts 0) (at count r s : ℕ) → behind.Post κs (at, (count, tt)) r (at, (count, tt)) → behind.Post κs (at, (count, tt)) s (at, (count, tt)) → r ≡ s
behind-answer κs at count r s p q = p ∙ sym q

pub put-byte-answer :
    (κs : Lfts 1) (b : ℕ) (out d e : MutBor (List ℕ)) (at r s : ℕ)
    → put_byte.Post κs (b, (out, (at, tt))) r (b, (d, (at, tt))) → put_byte.Post κs (b, (out, (at, tt))) s (b, (e, (at, tt)))
    → (r ≡ s) × (d.now ≡ e.now)
put-byte-answer κs b out d e at r s p q = (p.place ∙ sym q.place, p.cells ∙ sym q.cells)

pub put-numbers-answer :
    (κs : Lfts 2) (numbers : Bor (List ℤ)) (out d e : MutBor (List ℤ)) (at r s : ℕ)
    → put-numbers.Post κs (numbers, (out, (at, tt))) r (numbers, (d, (at, tt))) → put-numbers.Post κs (numbers, (out, (at, tt))) s (numbers, (e, (at, tt)))
    → (r ≡ s) × (d.now ≡ e.now)
put-numbers-answer κs numbers out d e at r s p q = (p.place ∙ sym q.place, p.cells ∙ sym q.cells)

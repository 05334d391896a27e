-- `put_row` meets its contract: in each arm, what the two share, by the law of its row.
use mathlib.Core.Path.{◌≡◌, sym, ap, ◌∙◌}
use mathlib.Core.Bool.{Bool}
use mathlib.Core.List.{List, [], ◌∷◌, ◌++◌}
use Prim.Native.Nat.{ℕ}
use native.Mathlib.Omega.{arith}
use lib.IntN.{ℤ, pos}
use Rattle.whole.specs.Tests.{out, out-ok, Fit}
use Rattle.sheet.specs.declared.Object.{Object}
use Rattle.sheet.specs.declared.Crossing.{Crossing}
use Rattle.sheet.specs.Points.{numbers}
use Rattle.sheet.specs.Joint.{kept}
use Rattle.sheet.specs.Lists.{object_at}
use Rattle.sheet.specs.LentLaws.{wrote_none, wrote_as}
use Rattle.sheet.specs.Meetings.{meeting_by}
use Rattle.kernel.proofs.Handed as handed
use Rattle.listing.specs.Rows.{meeting_of, tags_of}
use Rattle.listing.specs.RowsLaws.{row-once, row-many, row-none}
use Rattle.listing.proofs.rows.put_row.Goals as goal

module _ (l : List ℤ) (i j : ℕ) {a b : Object} (e : a ≡ object_at l i) (f : b ≡ object_at l j) where
  met : (joints : Bool) {r s : Crossing} → meeting_by r ≡ kept joints a b → r ≡ s → meeting_by s ≡ meeting_of joints l i j
  unfolding meeting_of
  met joints m is = sym (ap meeting_by is) ∙ m ∙ (λ k. kept joints (e k) (f k))

  tags : Fit a.tag → Fit b.tag → out a.tag ∷ out b.tag ∷ [] ≡ tags_of l i j
  tags g h =
      let x = out-ok a.tag g ∙ ap (λ (o : Object). o.tag) e in
      let y = out-ok b.tag h ∙ ap (λ (o : Object). o.tag) f in
      λ k. x k ∷ y k ∷ []

pub returns-in-Once : goal.returns-in-Once
returns-in-Once c =
    let a = c.requires.1 in
    let b = c.object_at-b.ensures in
    let same = handed.point-told c.in-Once.p c.struct_told-1.given in
    let both = tags c.args.list.now c.args.i c.args.j a b c.struct_told-in-Once-5-1.given.1.1.1.1.1.0.1 c.struct_told-in-Once-6-1.given.1.1.1.1.1.0.1 in
    wrote_as c.write_row.ensures
    ((λ k. pos c.args.i ∷ pos c.args.j ∷ pos 1 ∷ (numbers (same k) ++ both k))
    ∙ row-once c.args.joints c.args.list.now c.args.i c.args.j (met c.args.list.now c.args.i c.args.j a b c.args.joints c.meet.ensures c.in-Once.is))

pub returns-in-Many : goal.returns-in-Many
returns-in-Many c =
    let a = c.requires.1 in
    let b = c.object_at-b.ensures in
    let both = tags c.args.list.now c.args.i c.args.j a b c.struct_told-in-Many-1.given.1.1.1.1.1.0.1 c.struct_told-in-Many-2-1.given.1.1.1.1.1.0.1 in
    wrote_as c.write_row-in-Many.ensures
    ((λ k. pos c.args.i ∷ pos c.args.j ∷ pos 2 ∷ pos 0 ∷ pos 0 ∷ pos 0 ∷ pos 0 ∷ pos 0 ∷ both k)
    ∙ row-many c.args.joints c.args.list.now c.args.i c.args.j (met c.args.list.now c.args.i c.args.j a b c.args.joints c.meet.ensures c.in-Many.is))

pub returns-in-Nothing : goal.returns-in-Nothing
returns-in-Nothing c =
    wrote_as (wrote_none (omega arith) (omega arith))
    (row-none c.args.joints c.args.list.now c.args.i c.args.j (met c.args.list.now c.args.i c.args.j c.requires.1 c.object_at-b.ensures c.args.joints c.meet.ensures c.in-Nothing.is))

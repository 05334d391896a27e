-- `put_stored` meets its contract. The invariant: the numbers before the next one are put, each as it is or as far as there are cells.
use mathlib.Core.Path.{◌≡◌, sym, ap, ◌∙◌}
use mathlib.Core.Bool.{Bool, true, ◌&&◌}
use mathlib.Core.List.{List, ◌++◌}
use Prim.Native.Nat.{ℕ, ◌+◌, ◌*◌, ◌≤◌, ◌<◌, min}
use native.Mathlib.Omega.{arith}
use borrow.Author.Tests.{leb-true}
use lib.Dec.{leb}
use lib.ListN.{length, get_or, take, length-append}
use Rattle.sheet.specs.Flags.{both}
use Rattle.sheet.specs.Lent.{Wrote}
use Rattle.sheet.specs.LentLaws.{clipped-is, wrote_none, wrote-two, wrote-named, wrote_as, wrote-length}
use Rattle.number.specs.Number.{most_groups, number_limit, largest_number, write_number, write_numbers}
use Rattle.number.specs.Storable.{all_storable}
use Rattle.number.proofs.GroupsLaws.{number-some}
use Rattle.number.proofs.WrittenLaws.{numbers_more, numbers-few, numbers-most, number-kept, small-each}
use Rattle.number.proofs.put_stored.Goals as goal
use Rattle.number.proofs.put_stored.Goals.{then-direct, else-direct}

-- where numbers are put plainly, none is too large, and there is room for the most that they take
module _ (numbers : List ℕ) (small : Bool) (room : ℕ) (is : small ≡ all_storable numbers) (t : (small && leb (length numbers * most_groups) room) ≡ true) where
  said : (small ≡ true) × (leb (length numbers * most_groups) room ≡ true)
  said = (both small (leb (length numbers * most_groups) room)).0 t

  each : (i : ℕ) → i < length numbers → get_or numbers i 0 < number_limit
  each i h = small-each numbers i (sym is ∙ said.0) h

  enough : length (write_numbers numbers) ≤ room
  enough = omega (arith, leb-true (length numbers * most_groups) room said.1, numbers-most numbers)

pub loop-n-init : goal.loop-n-init
unfolding write_numbers
loop-n-init c = wrote_none (omega arith) (omega arith)

pub write_number-to-requires : goal.write_number-to-requires
write_number-to-requires c =
    let l = c.loop-n in
    let i = l.n-index in
    let a = c.are_storable in
    let r = c.saturating_sub-room in
    let numbers = c.args.numbers.now in
    let front = write_numbers (take i numbers) in
    let n = get_or numbers i 0 in
    let small = each numbers a.result r.result a.ensures c.if-direct.true i (omega arith) in
    let room = enough numbers a.result r.result a.ensures c.if-direct.true in
    let more = ap length (numbers_more numbers i (omega arith) ∙ ap (λ (m : ℕ). front ++ write_number m) (number-kept small)) ∙ length-append front (write_number n) in
    let fits : c.args.at + length front + length (write_number n) ≤ length c.args.out.now =
    omega (arith, more, numbers-few numbers (i + 1), room, r.ensures, number-some n) in
    let here : l.to ≡ c.args.at + length front = l.invariant.place ∙ clipped-is (omega arith) in
    (small, omega (arith, here, wrote-length l.invariant))

pub loop-n-preserved : goal.loop-n-preserved
loop-n-preserved c =
    let l = c.loop-n in
    let i = l.n-index in
    let a = c.are_storable in
    let numbers = c.args.numbers.now in
    let one : Wrote l.out c.if-direct.out l.to c.if-direct.to (write_number (min (get_or numbers i 0) largest_number)) =
    elim c.if-direct.branch [
      | then-direct w ↦
          let small = each numbers a.result c.saturating_sub-room.result a.ensures w.if-direct.true i (omega arith) in
          wrote_as (wrote-named w.write_number-to.ensures w.out-is w.to-is) (ap write_number (sym (number-kept small)))
      | else-direct w ↦ wrote_as (wrote-named w.put_number-to.ensures w.out-is w.to-is) (ap write_number w.clip.ensures)
    ] in
    wrote_as (wrote-two l.invariant one) (sym (numbers_more numbers i (omega arith)))

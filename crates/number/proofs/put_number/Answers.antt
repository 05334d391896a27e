-- `put_number` meets its contract: the number's bytes are in cells of their own. The invariant: those before the next one are put.
use Rattle.std.proofs.Common.{refl, sym, ap, ◌∙◌, arith, add-one, take-suc, take_all, ℕ, ◌+◌, ◌<◌, List, [], ◌∷◌, ◌++◌, length, take, get_or}
use Rattle.sheet.specs.Lent.{clipped}
use Rattle.sheet.specs.LentLaws.{wrote_none, wrote-past, wrote-two, wrote_as, wrote-length}
use Rattle.number.specs.Number.{write_number}
use Rattle.number.proofs.GroupsLaws.{number-most}
use Rattle.number.proofs.WritingLaws.{own-bytes}
use Rattle.number.proofs.put_number.Goals as goal

pub write_number-size-requires : goal.write_number-size-requires
write_number-size-requires c = (c.requires, omega (arith, number-most c.args.n))

pub returns-then-out-at : goal.returns-then-out-at
returns-then-out-at c =
    let o = own-bytes refl c.write_number-size.ensures in
    wrote-past (omega arith) (omega (arith, c.if-out-at.true)) (c.behind.ensures ∙ ap (λ (k : ℕ). clipped (c.args.at + k)) o.long)

pub slice_bounds-own-end : goal.slice_bounds-own-end
slice_bounds-own-end c =
    omega (arith, (own-bytes refl c.write_number-size.ensures).long, number-most c.args.n, wrote-length c.write_number-size.ensures)

pub slice_bounds-b-items-end : goal.slice_bounds-b-items-end
slice_bounds-b-items-end c =
    let o = own-bytes refl c.write_number-size.ensures in
    o.long ∙ sym (ap length o.front)

pub loop-b-init : goal.loop-b-init
loop-b-init c = wrote_none (omega arith) (omega arith)

pub loop-b-preserved : goal.loop-b-preserved
loop-b-preserved c =
    let o = own-bytes refl c.write_number-size.ensures in
    let bytes = write_number c.args.n in
    let i = c.loop-b.b-index in
    let there : i < length bytes = omega (arith, ap length o.front) in
    wrote_as (wrote-two c.loop-b.invariant c.put_byte-next.ensures)
    (ap (λ (l : List ℕ). take i bytes ++ (get_or l i 0 ∷ [])) o.front
    ∙ sym (take-suc bytes i 0 there)
    ∙ ap (λ (k : ℕ). take k bytes) (sym (add-one i)))

pub returns : goal.returns
returns c =
    let o = own-bytes refl c.write_number-size.ensures in
    wrote_as c.loop-b.invariant (take_all c.loop-b.b-index (write_number c.args.n) (omega (arith, ap length o.front)))

-- `write_shape` meets its contract: the numbers that are stored, by the kind, are put there; where there is no byte, those of points are counted.
use mathlib.Core.Path.{ap, ◌∙◌}
use mathlib.Core.List.{[], ◌∷◌}
use Prim.Native.Nat.{ℕ, ◌+◌}
use native.Mathlib.Omega.{arith}
use lib.IntN.{pos, nat_abs}
use lib.ListN.{length}
use Rattle.whole.specs.Tests.{out-ok, fits-ok, eq-left, lit-taken}
use Rattle.sheet.specs.Lent.{clipped}
use Rattle.sheet.specs.LentLaws.{wrote-past, wrote_as}
use Rattle.number.specs.Number.{write_numbers}
use Rattle.store.specs.BoundedLaws.{pair-written, side-written}
use Rattle.store.proofs.writing.write_shape.Goals as goal

-- a side
pub returns-then-o-eq-SIDE : goal.returns-then-o-eq-SIDE
returns-then-o-eq-SIDE c =
    let o = c.args.o in
    let four = lit-taken 4 tt (fits-ok o.kind (omega arith)) c.if-o-eq-SIDE.true in
    let number = c.size-number.ensures ∙ ap nat_abs (out-ok o.px (omega arith)) in
    wrote_as c.put_stored.ensures.put (ap (λ (n : ℕ). write_numbers (n ∷ [])) number ∙ side-written o c.requires c.args.form four)

pub returns-then-out-eq0 : goal.returns-then-out-eq0
returns-then-out-eq0 c =
    let other = eq-left {x = c.args.o.kind} {y = pos 4} c.if-o-eq-SIDE.false in
    let pair = ap write_numbers c.pair_numbers-numbers.ensures ∙ pair-written c.args.o c.requires c.args.form other in
    let at = c.args.at in
    wrote-past (omega arith) (omega (arith, c.if-out-eq0.true))
    (c.behind.ensures ∙ ap (λ (k : ℕ). clipped (at + k)) (c.stored_size.ensures ∙ ap length pair))

pub returns : goal.returns
returns c =
    let other = eq-left {x = c.args.o.kind} {y = pos 4} c.if-o-eq-SIDE.false in
    let pair = ap write_numbers c.pair_numbers-numbers.ensures ∙ pair-written c.args.o c.requires c.args.form other in
    wrote_as c.put_stored-2.ensures.put pair

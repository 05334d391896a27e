-- `last_end` meets its contract: a side ends where the next one begins, a segment at q, and what is neither, at the far end from p to q.
use mathlib.Core.Path.{◌≡◌, refl, sym, ◌∙◌, ap, subst}
use native.Mathlib.Omega.{arith}
use lib.IntN.{ℤ, pos, ◌+ℤ◌}
use lib.Signed.{quot_z, rem_z}
use mir.Syntax.{w64}
use mir.Val.{SFits}
use Rattle.whole.specs.Bound.{fits64, w-pos}
use Rattle.whole.specs.Flat.{need}
use Rattle.whole.specs.Tests.{out, out-is, eq-left, lit-taken}
use Rattle.sheet.specs.Figure.{vec, Side, left, bottom, right, top, side_number, side_of}
use Rattle.sheet.proofs.RefusalLaws.{Proper}
use Rattle.sheet.specs.Points.{given}
use Rattle.sheet.specs.Ends.{far_end, begins, next_side}
use Rattle.kernel.specs.Kinds.{a_pair, which-side, last-side, last-given, last-far}
use Rattle.kernel.proofs.Eight.{dx_e, dy_e}
use Rattle.kernel.proofs.Ahead.{place, pair, way, ahead}
use Rattle.kernel.proofs.ends.last_end.Goals as goal

-- the number of the next side as the code finds it
record Next (n : ℤ) : Type 0 where
  quotient : SFits w64 (quot_z (out n) (pos 4))
  sum : SFits w64 (out (rem_z (out n) (pos 4)) +ℤ pos 1)
  is_next : side_of (out (out (rem_z (out n) (pos 4)) +ℤ pos 1)) ≡ next_side (side_of n)

next : (n : Side) → Next (side_number n)
unfolding side_of
next left = record { quotient = fits64 (w-pos 0) tt; sum = fits64 (w-pos 2) tt; is_next = refl }
next bottom = record { quotient = fits64 (w-pos 0) tt; sum = fits64 (w-pos 3) tt; is_next = refl }
next right = record { quotient = fits64 (w-pos 0) tt; sum = fits64 (w-pos 4) tt; is_next = refl }
next top = record { quotient = fits64 (w-pos 1) tt; sum = fits64 (w-pos 1) tt; is_next = refl }

pub nonzero_rem-next : goal.nonzero_rem-next
nonzero_rem-next c =
    let next_here : Next c.args.px =
    let a = which-side c.requires (lit-taken 4 tt c.ranges.kind c.if-kind-eq-SIDE.true) in
    subst Next (sym a.number) (next a.which) in
    (omega arith, next_here.quotient)

pub overflow_add-next : goal.overflow_add-next
overflow_add-next c =
    let next_here : Next c.args.px =
    let a = which-side c.requires (lit-taken 4 tt c.ranges.kind c.if-kind-eq-SIDE.true) in
    subst Next (sym a.number) (next a.which) in
    next_here.sum

pub returns-then-kind-eq-SIDE : goal.returns-then-kind-eq-SIDE
returns-then-kind-eq-SIDE c =
    let next_here : Next c.args.px =
    let a = which-side c.requires (lit-taken 4 tt c.ranges.kind c.if-kind-eq-SIDE.true) in
    subst Next (sym a.number) (next a.which) in
    let four = lit-taken 4 tt c.ranges.kind c.if-kind-eq-SIDE.true in
    c.side_begins.ensures ∙ ap begins next_here.is_next ∙ sym (last-side c.requires four)

pub returns-then-kind-eq-SEGMENT : goal.returns-then-kind-eq-SEGMENT
returns-then-kind-eq-SEGMENT c =
    let one = lit-taken 1 tt c.ranges.kind c.if-kind-eq-SEGMENT.true in
    c.given.ensures
    ∙ (λ i. given (record { x = out-is c.ranges.qx i; y = out-is c.ranges.qy i })) ∙ sym (last-given c.requires one)

pub overflow_sub-dx : goal.overflow_sub-dx
overflow_sub-dx c =
    let proper : Proper (vec c.args.px c.args.py) (vec c.args.qx c.args.qy) = a_pair c.requires (eq-left c.if-kind-eq-SIDE.false) in
    need (pair proper) dx_e tt

pub overflow_sub-dy : goal.overflow_sub-dy
overflow_sub-dy c =
    let proper : Proper (vec c.args.px c.args.py) (vec c.args.qx c.args.qy) = a_pair c.requires (eq-left c.if-kind-eq-SIDE.false) in
    need (pair proper) dy_e tt

pub far_end-requires : goal.far_end-requires
far_end-requires c =
    let proper : Proper (vec c.args.px c.args.py) (vec c.args.qx c.args.qy) = a_pair c.requires (eq-left c.if-kind-eq-SIDE.false) in
    let h = proper in ahead h h.small_p

pub returns : goal.returns
returns c =
    let proper : Proper (vec c.args.px c.args.py) (vec c.args.qx c.args.qy) = a_pair c.requires (eq-left c.if-kind-eq-SIDE.false) in
    let h = proper in
    c.far_end.ensures
    ∙ (λ i. far_end (place h.small_p i) (way h i))
    ∙ sym (last-far c.requires (eq-left c.if-kind-eq-SIDE.false) (eq-left c.if-kind-eq-SEGMENT.false))

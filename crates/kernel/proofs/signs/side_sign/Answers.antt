-- `side_sign` meets its contract: of a side it is that side's expansion; what is none has p and q given, and its side is a turn.
use mathlib.Core.Path.{refl, sym, ◌∙◌}
use Rattle.whole.specs.Ring.{var}
use Rattle.whole.specs.Flat.{held}
use Rattle.whole.specs.Tests.{out-ok, fits-ok, eq-left, gave, lit-taken}
use Rattle.sheet.specs.Figure.{side, side_of, first, second}
use Rattle.sheet.proofs.RefusalLaws.{Proper, kind-side, by-numbers}
use Rattle.sheet.specs.Signs.{side_of_figure}
use Rattle.sheet.specs.Expansions.{side-of-figure, pair-side-is}
use Rattle.kernel.specs.Bounds.{Numbers}
use Rattle.kernel.specs.Forms.{pair_side}
use Rattle.kernel.specs.Kinds.{a_pair, side-pair}
use Rattle.kernel.proofs.Ahead.{place, pair}
use Rattle.kernel.proofs.Coordinates.{x-of, y_of}
use Rattle.kernel.proofs.signs.side_sign.Goals as goal

pub frame_side-requires : goal.frame_side-requires
frame_side-requires c = let z = c.requires.1 in (x-of z, y_of z)

pub returns-then-kind-eq-SIDE : goal.returns-then-kind-eq-SIDE
returns-then-kind-eq-SIDE c =
    let o = c.args.o in
    let t = c.struct_told-1.given in
    let px = out-ok o.px t.1.0.1 in
    let four = lit-taken 4 tt (fits-ok o.kind t.0.1) c.if-kind-eq-SIDE.true in
    gave c.frame_side.type_inv c.frame_side.ensures
    ∙ (λ i. side_of_figure (side (side_of (px i))) c.args.s)
    ∙ sym (side-of-figure o c.args.s (kind-side o.px o.py o.qx o.qy four))

pub pair_side-requires : goal.pair_side-requires
pair_side-requires c =
    let taken : let o = c.args.o in Numbers o.kind o.px o.py o.qx o.qy = record { not_refused = by-numbers c.requires.0 } in
    let proper : let o = c.args.o in Proper (first o) (second o) = a_pair taken (eq-left c.if-kind-eq-SIDE.false) in
    let b = pair proper in
    let z = c.requires.1 in (
      record { bpx = held b (var 0) tt; bpy = held b (var 1) tt; bqx = held b (var 2) tt; bqy = held b (var 3) tt },
      x-of z,
      y_of z,
    )

pub returns : goal.returns
returns c =
    let taken : let o = c.args.o in Numbers o.kind o.px o.py o.qx o.qy = record { not_refused = by-numbers c.requires.0 } in
    let proper : let o = c.args.o in Proper (first o) (second o) = a_pair taken (eq-left c.if-kind-eq-SIDE.false) in
    let o = c.args.o in
    let h = proper in
    let p = place h.small_p in
    let q = place h.small_q in
    gave c.pair_side.type_inv c.pair_side.ensures
    ∙ (λ i. let t = c.args.s in pair_side (p i).x (p i).y (q i).x (q i).y t.mx t.nx t.my t.ny t.w)
    ∙ sym (side-of-figure o c.args.s refl ∙ side-pair taken (eq-left c.if-kind-eq-SIDE.false) c.args.s ∙ pair-side-is (first o) (second o) c.args.s)

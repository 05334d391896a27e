-- `with_side` meets its contract: the kind picks the case of `with_side`; of what is no segment and no side p and q differ.
use mathlib.Core.Path.{◌≡◌, sym, ◌∙◌, ap, subst}
use lib.IntN.{ℤ}
use mir.Syntax.{w64}
use mir.Val.{SFits}
use Rattle.whole.specs.Flat.{need}
use Rattle.whole.specs.Within.{Within}
use Rattle.whole.specs.Tests.{out, out-is, eq-left, Fit, gave, lit-taken}
use Rattle.sheet.specs.Figure.{vec, Side, out_x, out_y, side_of}
use Rattle.sheet.proofs.RefusalLaws.{Proper}
use Rattle.sheet.specs.Ends.{far_end, reverse}
use Rattle.sheet.specs.Crossing.{none}
use Rattle.sheet.specs.Answers.{meeting_numbers}
use Rattle.kernel.specs.Bounds.{Out}
use Rattle.kernel.specs.Kinds.{a_pair}
use Rattle.kernel.specs.Stretches.{end_by, sides_by, out_within, with-segment, with-ray, with-side, with-line}
use Rattle.kernel.proofs.Eight.{dx_e, dy_e}
use Rattle.kernel.proofs.Ahead.{place, pair, way, ahead}
use Rattle.kernel.proofs.sides.with_side.Goals as goal

-- the way out over side n, and over the other side
over : (f : Side → ℤ) {n r : ℤ} → SFits w64 n → Fit r → r ≡ f (side_of (out n)) → out r ≡ f (side_of n)
over f n h e = gave h e ∙ ap (λ (n : ℤ). f (side_of n)) (out-is n)

both : {x y x' y' : ℤ} → x ≡ x' → y ≡ y' → Out x' y' → Out x y
both e f h = record { box = subst (Within 1) (sym e) h.box; boy = subst (Within 1) (sym f) h.boy }

pub returns-then-kind-eq-SEGMENT : goal.returns-then-kind-eq-SEGMENT
returns-then-kind-eq-SEGMENT c = sym (ap meeting_numbers (with-segment (side_of c.args.n) c.requires (lit-taken 1 tt c.ranges.kind c.if-kind-eq-SEGMENT.true)))

pub sides-requires : goal.sides-requires
sides-requires c =
    let ox-is : out c.out_x-ox.result ≡ out_x (side_of c.args.n) = over out_x c.ranges.n c.out_x-ox.type_inv c.out_x-ox.ensures in
    let oy-is : out c.out_y-oy.result ≡ out_y (side_of c.args.n) = over out_y c.ranges.n c.out_y-oy.type_inv c.out_y-oy.ensures in
    let ux-is : out c.out_x-ux.result ≡ out_x (side_of c.args.px) = over out_x c.ranges.px c.out_x-ux.type_inv c.out_x-ux.ensures in
    let uy-is : out c.out_y-uy.result ≡ out_y (side_of c.args.px) = over out_y c.ranges.px c.out_y-uy.type_inv c.out_y-uy.ensures in
    let outward : Out (out c.out_x-ox.result) (out c.out_y-oy.result) = both ox-is oy-is (out_within (side_of c.args.n)) in
    record { out = outward; out_2 = both ux-is uy-is (out_within (side_of c.args.px)) }

pub returns-then-kind-eq-SIDE : goal.returns-then-kind-eq-SIDE
returns-then-kind-eq-SIDE c =
    let ox-is : out c.out_x-ox.result ≡ out_x (side_of c.args.n) = over out_x c.ranges.n c.out_x-ox.type_inv c.out_x-ox.ensures in
    let oy-is : out c.out_y-oy.result ≡ out_y (side_of c.args.n) = over out_y c.ranges.n c.out_y-oy.type_inv c.out_y-oy.ensures in
    let ux-is : out c.out_x-ux.result ≡ out_x (side_of c.args.px) = over out_x c.ranges.px c.out_x-ux.type_inv c.out_x-ux.ensures in
    let uy-is : out c.out_y-uy.result ≡ out_y (side_of c.args.px) = over out_y c.ranges.px c.out_y-uy.type_inv c.out_y-uy.ensures in
    c.sides.ensures ∙ (λ i. meeting_numbers (sides_by (ox-is i) (oy-is i) (ux-is i) (uy-is i)))
    ∙ sym (ap meeting_numbers (with-side (side_of c.args.n) c.requires (lit-taken 4 tt c.ranges.kind c.if-kind-eq-SIDE.true)))

pub overflow_sub-dx : goal.overflow_sub-dx
overflow_sub-dx c =
    let proper : Proper (vec c.args.px c.args.py) (vec c.args.qx c.args.qy) = a_pair c.requires (eq-left c.if-kind-eq-SIDE.false) in
    need (pair proper) dx_e tt

pub overflow_sub-dy : goal.overflow_sub-dy
overflow_sub-dy c =
    let proper : Proper (vec c.args.px c.args.py) (vec c.args.qx c.args.qy) = a_pair c.requires (eq-left c.if-kind-eq-SIDE.false) in
    need (pair proper) dy_e tt

pub with_end-requires : goal.with_end-requires
with_end-requires c =
    let ox-is : out c.out_x-ox.result ≡ out_x (side_of c.args.n) = over out_x c.ranges.n c.out_x-ox.type_inv c.out_x-ox.ensures in
    let oy-is : out c.out_y-oy.result ≡ out_y (side_of c.args.n) = over out_y c.ranges.n c.out_y-oy.type_inv c.out_y-oy.ensures in
    let outward : Out (out c.out_x-ox.result) (out c.out_y-oy.result) = both ox-is oy-is (out_within (side_of c.args.n)) in
    let proper : Proper (vec c.args.px c.args.py) (vec c.args.qx c.args.qy) = a_pair c.requires (eq-left c.if-kind-eq-SIDE.false) in
    let h = proper in record { out = outward; ahead = ahead h h.small_p }

pub returns-then-kind-eq-RAY : goal.returns-then-kind-eq-RAY
returns-then-kind-eq-RAY c =
    let ox-is : out c.out_x-ox.result ≡ out_x (side_of c.args.n) = over out_x c.ranges.n c.out_x-ox.type_inv c.out_x-ox.ensures in
    let oy-is : out c.out_y-oy.result ≡ out_y (side_of c.args.n) = over out_y c.ranges.n c.out_y-oy.type_inv c.out_y-oy.ensures in
    let proper : Proper (vec c.args.px c.args.py) (vec c.args.qx c.args.qy) = a_pair c.requires (eq-left c.if-kind-eq-SIDE.false) in
    let h = proper in
    c.with_end.ensures
    ∙ (λ i. meeting_numbers (end_by (ox-is i) (oy-is i) (far_end (place h.small_p i) (way h i)) none))
    ∙ sym (ap meeting_numbers (with-ray (side_of c.args.n) c.requires (lit-taken 2 tt c.ranges.kind c.if-kind-eq-RAY.true)))

pub with_line-requires : goal.with_line-requires
with_line-requires c =
    let ox-is : out c.out_x-ox.result ≡ out_x (side_of c.args.n) = over out_x c.ranges.n c.out_x-ox.type_inv c.out_x-ox.ensures in
    let oy-is : out c.out_y-oy.result ≡ out_y (side_of c.args.n) = over out_y c.ranges.n c.out_y-oy.type_inv c.out_y-oy.ensures in
    let outward : Out (out c.out_x-ox.result) (out c.out_y-oy.result) = both ox-is oy-is (out_within (side_of c.args.n)) in
    let proper : Proper (vec c.args.px c.args.py) (vec c.args.qx c.args.qy) = a_pair c.requires (eq-left c.if-kind-eq-SIDE.false) in
    let h = proper in record { out = outward; ahead = ahead h h.small_p }

pub returns : goal.returns
returns c =
    let ox-is : out c.out_x-ox.result ≡ out_x (side_of c.args.n) = over out_x c.ranges.n c.out_x-ox.type_inv c.out_x-ox.ensures in
    let oy-is : out c.out_y-oy.result ≡ out_y (side_of c.args.n) = over out_y c.ranges.n c.out_y-oy.type_inv c.out_y-oy.ensures in
    let proper : Proper (vec c.args.px c.args.py) (vec c.args.qx c.args.qy) = a_pair c.requires (eq-left c.if-kind-eq-SIDE.false) in
    let x = ox-is in
    let y = oy-is in
    let h = proper in
    let p = place h.small_p in
    c.with_line.ensures
    ∙ (λ i. meeting_numbers (end_by (x i) (y i) (far_end (p i) (way h i)) (end_by (x i) (y i) (far_end (p i) (reverse (way h i))) none)))
    ∙ sym (ap meeting_numbers (with-line (side_of c.args.n) c.requires
    (eq-left c.if-kind-eq-SEGMENT.false) (eq-left c.if-kind-eq-RAY.false) (eq-left c.if-kind-eq-SIDE.false)))

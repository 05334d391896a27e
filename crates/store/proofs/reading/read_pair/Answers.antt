-- `read_pair` meets its contract: in each turn one point more is read (`read_points`), and behind the second p is compared with q.
use mathlib.Core.Path.{◌≡◌, sym, ap, subst, ◌∙◌}
use Prim.Native.Nat.{◌-◌}
use native.Mathlib.Omega.{arith}
use mir.Syntax.{w64}
use mir.Facts.{to_z_pos}
use lib.IntN.{ℤ, pos}
use Rattle.whole.specs.Tests.{out, out-is, out-ok}
use Rattle.sheet.specs.Figure.{Vec, vec}
use Rattle.sheet.specs.Refusal.{equal}
use Rattle.number.specs.Number.{got}
use Rattle.store.specs.Forms.{origin, origin_of}
use Rattle.store.specs.Stored.{object_of, read_point, read_pair}
use Rattle.store.specs.PointsLaws.{read_points, points-start, points-next, points-done}
use Rattle.store.proofs.reading.read_pair.Goals as goal

pub loop-init : goal.loop-init
loop-init c =
    (points-start c.args.form c.args.kind _ c.args.bytes.now (vec (pos 0) (pos 0)), ((omega arith, omega arith), (omega arith, omega arith)))

-- what a turn reads is the point counted from where the form counts it
pub loop-preserved : goal.loop-preserved
loop-preserved c =
    let l = c.loop in
    let f = c.args.form in
    let x = out-ok c.origin.result c.origin.type_inv ∙ c.origin.ensures ∙ ap (origin f) (out-ok l.q.x (omega arith)) in
    let y = out-ok c.origin-in-loop.result c.origin-in-loop.type_inv ∙ c.origin-in-loop.ensures ∙ ap (origin f) (out-ok l.q.y (omega arith)) in
    let start : vec (out c.origin.result) (out c.origin-in-loop.result) ≡ origin_of f (vec l.q.x l.q.y) = λ i. vec (x i) (y i) in
    let told = c.in_ok-point.ensures.told ∙ ap (λ (s : Vec). read_point s l.rest.now) start in
    (l.invariant.0 ∙ points-next f _ _ l.counter _ _ _ (omega arith) told, (l.invariant.1.1, c.in_ok-point.ensures.small))

pub returns : goal.returns
returns c =
    let l = c.loop in
    let a = c.args in
    let rest = l.rest.now in
    let kind = to_z_pos w64 {n = a.kind} (omega arith) in
    let tag = out-is c.ranges.tag in
    let px = out-ok l.p.x (omega arith) in
    let py = out-ok l.p.y (omega arith) in
    let qx = out-ok l.q.x (omega arith) in
    let qy = out-ok l.q.y (omega arith) in
    let same : equal (out l.p.x) (out l.p.y) (out l.q.x) (out l.q.y) ≡ equal l.p.x l.p.y l.q.x l.q.y = λ i. equal (px i) (py i) (qx i) (qy i) in
    let differ = sym same ∙ sym c.are_equal.ensures ∙ c.if-are_equal.false in
    let all = subst (λ (t : ℤ). read_pair a.form a.kind t a.bytes.now ≡ read_points a.form a.kind t (2 - l.counter) (vec l.p.x l.p.y) (vec l.q.x l.q.y) rest)
    tag l.invariant.0 in
    let done = points-done a.form a.kind a.tag l.counter (vec l.p.x l.p.y) (vec l.q.x l.q.y) rest (omega arith) differ in
    (λ i. got (c.object_of.ensures i) rest)
    ∙ (λ i. got (object_of (kind i) (tag i) (px i) (py i) (qx i) (qy i)) rest)
    ∙ sym (all ∙ done)

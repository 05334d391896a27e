-- `is_frame` meets its contract: what is not narrow is not on the frame; of a narrow point w is its own size, and the rest is left.
use mathlib.Core.Path.{◌≡◌, sym, ◌∙◌, ap, subst}
use mathlib.Core.Bool.{true, ◌||◌, ◌&&◌}
use native.Mathlib.Omega.{arith}
use lib.Dec.{T}
use lib.IntN.{ℤ, pos, nat_abs}
use lib.Signed.{non_neg}
use mir.Syntax.{w64}
use mir.Val.{Fits}
use Rattle.std.proofs.Common.{rules}
use Rattle.whole.specs.Order.{<-≤}
use Rattle.whole.specs.SignLaws.{nn-size}
use Rattle.whole.specs.Tests.{out}
use Rattle.sheet.specs.declared.Point.{Point}
use Rattle.sheet.specs.Points.{edge, in_square, narrow, frame}
use Rattle.sheet.specs.PointsLaws.{narrow-is}
use Rattle.kernel.proofs.points.is_frame.Goals as goal

-- of a narrow point the rest of the definition is left
frame-rest :
    (p : Point) → narrow p ≡ true →
    (edge p.mx p.nx p.w || edge p.my p.ny p.w) && in_square p.mx p.nx p.w && in_square p.my p.ny p.w
    ≡ frame p
unfolding frame
frame-rest p h = simp h

pub returns-then-not-is_narrow : goal.returns-then-not-is_narrow
unfolding frame
returns-then-not-is_narrow c = simp (sym c.is_narrow.ensures ∙ c.if-not-is_narrow.true)

pub overflow_cast-full : goal.overflow_cast-full
overflow_cast-full c =
    let p = c.args.p in
    let in-w = ((narrow-is p).0 (sym c.is_narrow.ensures ∙ c.if-not-is_narrow.false)).in-w in
    let same : out p.w ≡ p.w = search rules in
    let w = same ∙ nn-size (<-≤ in-w.above) in
    subst (λ (z : ℤ). T (non_neg z) × Fits w64 (nat_abs z)) (sym w) (tt, record { fits = omega (arith, in-w.at_most.within) })

pub returns : goal.returns
returns c =
    let p = c.args.p in
    let narrow-here : narrow p ≡ true = sym c.is_narrow.ensures ∙ c.if-not-is_narrow.false in
    let mx : out p.mx ≡ p.mx = search rules in
    let nx : out p.nx ≡ p.nx = search rules in
    let my : out p.my ≡ p.my = search rules in
    let ny : out p.ny ≡ p.ny = search rules in
    let same : out p.w ≡ p.w = search rules in
    let w = ap (λ (z : ℤ). pos (nat_abs z)) same ∙ sym (nn-size (<-≤ ((narrow-is p).0 narrow-here).in-w.above)) in
    (λ i. ((c.is_edge.ensures ∙ (λ j. edge (mx j) (nx j) (w j))) i
    || (c.is_edge-2.ensures ∙ (λ j. edge (my j) (ny j) (w j))) i)
    && (c.is_in_square.ensures ∙ (λ j. in_square (mx j) (nx j) (w j))) i
    && (c.is_in_square-2.ensures ∙ (λ j. in_square (my j) (ny j) (w j))) i)
    ∙ frame-rest p narrow-here

-- `unless_touch` meets its contract: a point is left out just where the test says so, and every other answer stays.
use mathlib.Core.Path.{◌≡◌, sym, ◌∙◌, ap}
use mathlib.Core.Bool.{Bool, cond, not, ◌&&◌}
use Rattle.whole.specs.Tests.{out-is, fits-ok}
use Rattle.sheet.specs.Crossing.{point}
use Rattle.sheet.specs.declared.Crossing.{Crossing}
use Rattle.sheet.specs.declared.Crossing.TheVariants as crossing
use Rattle.kernel.specs.Joints.{own_end, touches, touch_left}
use Rattle.kernel.proofs.joint.unless_touch.Goals as goal

pub returns-then-leaves_touch : goal.returns-then-leaves_touch
returns-then-leaves_touch c =
    let s = c.args in
    let e = c.in-Once.e in
    let told = c.struct_told-in-Once-1.given in
    let x = out-is (fits-ok e.nx told.1.0.1) in
    let y = out-is (fits-ok e.ny told.1.1.1.0.1) in
    let z = c.ranges in
    let test : (not s.joints && touches s.ka s.px s.py s.qx s.qy s.kb s.rx s.ry s.sx s.sy (point e)) ≡ c.leaves_touch.result =
    sym (c.leaves_touch.ensures
    ∙ (λ i. not s.joints
    && (own_end (out-is z.ka i) (out-is z.px i) (out-is z.py i) (out-is z.qx i) (out-is z.qy i) (x i) (y i)
    && own_end (out-is z.kb i) (out-is z.rx i) (out-is z.ry i) (out-is z.sx i) (out-is z.sy i) (x i) (y i)))) in
    let left : Crossing → Crossing = touch_left s.joints s.ka s.px s.py s.qx s.qy s.kb s.rx s.ry s.sx s.sy in
    sym (ap left c.in-Once.is ∙ ap (λ (t : Bool). cond t crossing.Nothing (crossing.Once e)) (test ∙ c.if-leaves_touch.true))

pub returns-else-leaves_touch : goal.returns-else-leaves_touch
returns-else-leaves_touch c =
    let s = c.args in
    let e = c.in-Once.e in
    let told = c.struct_told-in-Once-1.given in
    let x = out-is (fits-ok e.nx told.1.0.1) in
    let y = out-is (fits-ok e.ny told.1.1.1.0.1) in
    let z = c.ranges in
    let test : (not s.joints && touches s.ka s.px s.py s.qx s.qy s.kb s.rx s.ry s.sx s.sy (point e)) ≡ c.leaves_touch.result =
    sym (c.leaves_touch.ensures
    ∙ (λ i. not s.joints
    && (own_end (out-is z.ka i) (out-is z.px i) (out-is z.py i) (out-is z.qx i) (out-is z.qy i) (x i) (y i)
    && own_end (out-is z.kb i) (out-is z.rx i) (out-is z.ry i) (out-is z.sx i) (out-is z.sy i) (x i) (y i)))) in
    let left : Crossing → Crossing = touch_left s.joints s.ka s.px s.py s.qx s.qy s.kb s.rx s.ry s.sx s.sy in
    sym (ap left c.in-Once.is ∙ ap (λ (t : Bool). cond t crossing.Nothing (crossing.Once e)) (test ∙ c.if-leaves_touch.false))

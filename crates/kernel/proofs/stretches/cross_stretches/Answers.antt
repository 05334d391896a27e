-- `cross_stretches` meets its contract: the cross products of the eight coordinates fit, and their two tests are the three cases of two stretches.
use mathlib.Core.Path.{sym, ◌∙◌, ap}
use Rattle.whole.specs.Ring.{Expr, lit, ◌⊖◌, ◌⊗◌}
use Rattle.whole.specs.Flat.{need, gives, eq-gives, ne-gives}
use Rattle.whole.specs.Tests.{out}
use Rattle.sheet.specs.Figure.{vec, ◌⇀◌}
use Rattle.sheet.specs.Crossing.{Meeting, cross, together}
use Rattle.sheet.specs.Answers.{meeting_numbers, crossing_numbers}
use Rattle.kernel.specs.Stretches.{stretch}
use Rattle.kernel.specs.Joints.{skew_kept, together_kept}
use Rattle.kernel.specs.JointsLaws.{kept-skew, kept-apart, kept-together, touch-said}
use Rattle.kernel.proofs.Eight.{dx_e, dy_e, fx_e, fy_e, ex_e, ey_e, across_e, near-out}
use Rattle.kernel.proofs.Handed.{by_ten}
use Rattle.kernel.proofs.stretches.cross_stretches.Goals as goal

abbrev off_e : Expr
off_e = dx_e ⊗ ey_e ⊖ dy_e ⊗ ex_e

pub overflow_sub-dx : goal.overflow_sub-dx
overflow_sub-dx c = need c.requires.near dx_e tt

pub overflow_sub-dy : goal.overflow_sub-dy
overflow_sub-dy c = need c.requires.near dy_e tt

pub overflow_sub-fx : goal.overflow_sub-fx
overflow_sub-fx c = need c.requires.near fx_e tt

pub overflow_sub-fy : goal.overflow_sub-fy
overflow_sub-fy c = need c.requires.near fy_e tt

pub overflow_mul-across : goal.overflow_mul-across
overflow_mul-across c = need c.requires.near (dx_e ⊗ fy_e) tt

pub overflow_mul-across-2 : goal.overflow_mul-across-2
overflow_mul-across-2 c = need c.requires.near (dy_e ⊗ fx_e) tt

pub overflow_sub-across : goal.overflow_sub-across
overflow_sub-across c = need c.requires.near across_e tt

pub skewed-requires : goal.skewed-requires
skewed-requires c =
    let b = c.requires.near in
    let f = c.ranges in
    let same = by_ten f.ka f.px f.py f.qx f.qy f.kb f.rx f.ry f.sx f.sy (λ ka px py qx qy kb rx ry sx sy. cross (vec px py ⇀ vec qx qy) (vec rx ry ⇀ vec sx sy)) in record { apart = record { near = near-out c.requires; apart = λ e. ne-gives b across_e (lit 0) tt tt c.if-across-ne0.true (sym same ∙ e) }; across_value = gives b across_e tt ∙ sym same }

pub returns-then-across-ne0 : goal.returns-then-across-ne0
returns-then-across-ne0 c =
    let a = c.args in
    let f = c.ranges in
    c.skewed.ensures ∙ ap meeting_numbers (by_ten f.ka f.px f.py f.qx f.qy f.kb f.rx f.ry f.sx f.sy (skew_kept a.joints)
    ∙ kept-skew a.joints a.ka a.px a.py a.qx a.qy a.kb a.rx a.ry a.sx a.sy
    (ne-gives c.requires.near across_e (lit 0) tt tt c.if-across-ne0.true))

pub overflow_sub-ex : goal.overflow_sub-ex
overflow_sub-ex c = need c.requires.near ex_e tt

pub overflow_sub-ey : goal.overflow_sub-ey
overflow_sub-ey c = need c.requires.near ey_e tt

pub overflow_mul-off : goal.overflow_mul-off
overflow_mul-off c = need c.requires.near (dx_e ⊗ ey_e) tt

pub overflow_mul-off-2 : goal.overflow_mul-off-2
overflow_mul-off-2 c = need c.requires.near (dy_e ⊗ ex_e) tt

pub overflow_sub-off : goal.overflow_sub-off
overflow_sub-off c = need c.requires.near off_e tt

pub returns-then-off-ne0 : goal.returns-then-off-ne0
returns-then-off-ne0 c =
    let b = c.requires.near in
    let a = c.args in
    ap meeting_numbers (kept-apart a.joints a.ka a.px a.py a.qx a.qy a.kb a.rx a.ry a.sx a.sy
    (eq-gives b across_e (lit 0) tt tt c.if-across-ne0.false) (ne-gives b off_e (lit 0) tt tt c.if-off-ne0.true))

pub together-found-requires : goal.together-found-requires
together-found-requires c = near-out c.requires

pub returns : goal.returns
returns c =
    let shared : Meeting =
    together (stretch (out c.args.ka) (out c.args.px) (out c.args.py) (out c.args.qx) (out c.args.qy))
    (stretch (out c.args.kb) (out c.args.rx) (out c.args.ry) (out c.args.sx) (out c.args.sy)) in
    let b = c.requires.near in
    let a = c.args in
    let f = c.ranges in
    ap crossing_numbers c.unless_touch.ensures
    ∙ touch-said a.joints (out a.ka) (out a.px) (out a.py) (out a.qx) (out a.qy)
    (out a.kb) (out a.rx) (out a.ry) (out a.sx) (out a.sy) shared c.together-found.result c.together-found.ensures
    ∙ ap meeting_numbers (by_ten f.ka f.px f.py f.qx f.qy f.kb f.rx f.ry f.sx f.sy (together_kept a.joints)
    ∙ kept-together a.joints a.ka a.px a.py a.qx a.qy a.kb a.rx a.ry a.sx a.sy
    (eq-gives b across_e (lit 0) tt tt c.if-across-ne0.false) (eq-gives b off_e (lit 0) tt tt c.if-off-ne0.false))

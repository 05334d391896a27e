-- `check_object` meets its contract: what it hands on are the object's numbers, five for what it is and one for its tag, and the type's four
-- constants are the paper's.
use mathlib.Core.Path.{◌≡◌, sym, ◌∙◌}
use Rattle.whole.specs.Tests.{out-ok}
use Rattle.sheet.specs.Refusal.{tag_refusal, refusal_of, object_refusal}
use Rattle.sheet.specs.Refused.{refused_by}
use Rattle.sheet.specs.RefusedLaws.{err-first, ok-next, refused-from}
use Rattle.sheet.proofs.check_object.Goals as goal

pub returns-in_err-check_shape-clause-value : goal.returns-in_err-check_shape-clause-value
unfolding object_refusal
returns-in_err-check_shape-clause-value c =
    let o = c.args.o in
    let told = c.struct_told-1.given in
    refused-from _ _ c.from_residual.ensures.1
    ∙ err-first {n = refusal_of o.kind o.px o.py o.qx o.qy} _ _ (simp (
      c.in_err-check_shape.ensures,
      out-ok o.kind told.0.1,
      out-ok o.px told.1.0.1,
      out-ok o.py told.1.1.0.1,
      out-ok o.qx told.1.1.1.0.1,
      out-ok o.qy told.1.1.1.1.0.1,
    ))

pub returns-clause-value : goal.returns-clause-value
unfolding object_refusal
returns-clause-value c =
    let o = c.args.o in
    let told = c.struct_told-1.given in
    let tag : refused_by c.check_tag.result ≡ tag_refusal o.tag = simp (c.check_tag.ensures, out-ok o.tag told.1.1.1.1.1.0.1) in
    tag
    ∙ sym (ok-next {n = refusal_of o.kind o.px o.py o.qx o.qy} _ (simp (
      c.in_ok-check_shape.ensures,
      out-ok o.kind told.0.1,
      out-ok o.px told.1.0.1,
      out-ok o.py told.1.1.0.1,
      out-ok o.qx told.1.1.1.0.1,
      out-ok o.qy told.1.1.1.1.0.1,
    )))

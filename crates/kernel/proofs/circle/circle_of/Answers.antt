-- `circle_of` meets its contract: of a given fourth the form of four given points has the sign; any other is on the frame, and that form has it.
use mathlib.Core.Path.{sym, ◌∙◌}
use Rattle.whole.specs.Sign.{sgn}
use Rattle.whole.specs.Tests.{gave}
use Rattle.whole.specs.Flat.{none, ◌also◌, within-out}
use Rattle.sheet.specs.PointFacts.{Frame}
use Rattle.sheet.specs.PointsLaws.{frame-sizes}
use Rattle.sheet.specs.CirclePoints.{Given}
use Rattle.sheet.proofs.CircleLaws.{given_is, given-small, not-given}
use Rattle.sheet.specs.CircleForms.{given_form, frame_form}
use Rattle.sheet.proofs.Angles.{by-given, by-frame}
use Rattle.kernel.proofs.Ahead.{place}
use Rattle.kernel.proofs.Coordinates.{x-of, y_of}
use Rattle.kernel.proofs.circle.circle_of.Goals as goal

pub given_circle-requires : goal.given_circle-requires
given_circle-requires c =
    let fourth-given : Given c.args.u = given_is c.args.u (sym c.is_given.ensures ∙ c.if-is_given.true) in
    let h = c.requires in
    let p = h.0 in
    let q = h.1 in
    let s = h.2 in
    let u = fourth-given in
    record {
      near =
          within-out p.in_nx tt also within-out p.in_ny tt also within-out q.in_nx tt also within-out q.in_ny tt
          also within-out s.in_nx tt also within-out s.in_ny tt also within-out u.in_nx tt also within-out u.in_ny tt also none;
    }

pub returns-then-is_given : goal.returns-then-is_given
returns-then-is_given c =
    let fourth-given : Given c.args.u = given_is c.args.u (sym c.is_given.ensures ∙ c.if-is_given.true) in
    let h = c.requires in
    let p = h.0 in
    let q = h.1 in
    let s = h.2 in
    let u = fourth-given in
    gave c.given_circle.type_inv c.given_circle.ensures
    ∙ (λ i. sgn (given_form (place (given-small p) i) (place (given-small q) i) (place (given-small s) i) (place (given-small u) i)))
    ∙ sym (by-given p q s u)

pub frame_circle-requires : goal.frame_circle-requires
frame_circle-requires c =
    let fourth-frame : Frame c.args.u = not-given c.requires.3 (sym c.is_given.ensures ∙ c.if-is_given.false) in
    let h = c.requires in
    let p = h.0 in
    let q = h.1 in
    let s = h.2 in
    let z = frame-sizes fourth-frame in (
      record {
        near =
            within-out p.in_nx tt also within-out p.in_ny tt also within-out q.in_nx tt also within-out q.in_ny tt
            also within-out s.in_nx tt also within-out s.in_ny tt also none;
      },
      x-of z,
      y_of z,
    )

pub returns : goal.returns
returns c =
    let fourth-frame : Frame c.args.u = not-given c.requires.3 (sym c.is_given.ensures ∙ c.if-is_given.false) in
    let h = c.requires in
    let p = h.0 in
    let q = h.1 in
    let s = h.2 in
    let f = fourth-frame in
    gave c.frame_circle.type_inv c.frame_circle.ensures
    ∙ (λ i. frame_form (place (given-small p) i) (place (given-small q) i) (place (given-small s) i) c.args.u)
    ∙ sym (by-frame p q s f)

-- `item_at` meets its contract: after some calls at the start, what is left are the calls at the place reached. Assumes nothing.
use mathlib.Core.Path.{◌≡◌, sym, ap, ◌∙◌}
use Prim.Native.Nat.{◌-◌, ◌+◌}
use native.Mathlib.Omega.{arith}
use Rattle.store.specs.declared.Bookmark.{Bookmark}
use Rattle.store.specs.Reader.{Step, start_place, call_from}
use Rattle.store.specs.StepLaws.{first_call}
use Rattle.store.proofs.ReaderLaws.{calls-give}
use Rattle.viewer.specs.CallsLaws.{call-more}
use Rattle.viewer.proofs.item_at.Goals as goal

pub loop-init : goal.loop-init
loop-init c =
    let bs = c.args.bytes.now in
    let all : c.args.i - 0 ≡ c.args.i = omega arith in
    ap (λ (p : Bookmark). call_from bs p (c.args.i - 0)) c.start-place.ensures ∙ ap (call_from bs start_place) all

pub loop-preserved : goal.loop-preserved
loop-preserved c =
    let bs = c.args.bytes.now in
    let l = c.loop in
    let left = c.args.i - (l.counter + 1) in
    ap (λ (s : Step). call_from bs s.place left) c.step.ensures
    ∙ sym (call-more bs l.place {k = c.args.i - l.counter} {m = left} (omega arith))
    ∙ l.invariant

pub returns : goal.returns
returns c =
    let bs = c.args.bytes.now in
    let l = c.loop in
    let done : 0 ≡ c.args.i - l.counter = omega arith in
    ap (λ (s : Step). s.item) c.step-2.ensures
    ∙ first_call bs l.place
    ∙ ap (call_from bs l.place) done
    ∙ l.invariant
    ∙ calls-give bs c.args.i

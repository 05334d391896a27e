-- `extent_by` meets its contract: the last end comes first exactly where it is left of the first.
use mathlib.Core.Path.{◌≡◌, sym, ◌∙◌}
use Rattle.listing.specs.Marks.{mark_of, is_left_mark}
use Rattle.listing.specs.ExtentsLaws.{extent-turned, extent-straight}
use Rattle.listing.proofs.extents.extent_by.Goals as goal

pub returns-then-is_left_of : goal.returns-then-is_left_of
returns-then-is_left_of c =
    let tested : is_left_mark (mark_of c.args.q) (mark_of c.args.p) ≡ c.is_left_of.result = sym (c.is_left_of.ensures ∙ (λ i. is_left_mark (c.from-last.ensures i) (c.from-first.ensures i))) in
    (λ i. record { left = c.from-last.ensures i; right = c.from-first.ensures i })
    ∙ extent-turned _ _ (tested ∙ c.if-is_left_of.true)

pub returns : goal.returns
returns c =
    let tested : is_left_mark (mark_of c.args.q) (mark_of c.args.p) ≡ c.is_left_of.result = sym (c.is_left_of.ensures ∙ (λ i. is_left_mark (c.from-last.ensures i) (c.from-first.ensures i))) in
    (λ i. record { left = c.from-first.ensures i; right = c.from-last.ensures i })
    ∙ extent-straight _ _ (tested ∙ c.if-is_left_of.false)

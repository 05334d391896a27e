-- `check_pair` meets its contract: its two flags, `any_beyond` and then `are_equal`, are those of `pair_refusal`.
use mathlib.Core.Path.{◌≡◌, sym, ◌∙◌}
use Rattle.whole.specs.Tests.{out-is}
use Rattle.sheet.specs.Refusal.{any_beyond, equal, pair_refusal}
use Rattle.sheet.proofs.check_pair.Goals as goal

pub returns-then-any_beyond : goal.returns-then-any_beyond
unfolding pair_refusal
returns-then-any_beyond c =
    let far : c.any_beyond.result
    ≡ any_beyond c.args.px c.args.py c.args.qx c.args.qy = simp (c.any_beyond.ensures, out-is, c.ranges.px, c.ranges.py, c.ranges.qx, c.ranges.qy) in
    simp (sym far ∙ c.if-any_beyond.true)

pub returns-then-are_equal : goal.returns-then-are_equal
unfolding pair_refusal
returns-then-are_equal c =
    let far : c.any_beyond.result
    ≡ any_beyond c.args.px c.args.py c.args.qx c.args.qy = simp (c.any_beyond.ensures, out-is, c.ranges.px, c.ranges.py, c.ranges.qx, c.ranges.qy) in
    let twice : c.are_equal.result
    ≡ equal c.args.px c.args.py c.args.qx c.args.qy = simp (c.are_equal.ensures, out-is, c.ranges.px, c.ranges.py, c.ranges.qx, c.ranges.qy) in
    simp (sym far ∙ c.if-any_beyond.false, sym twice ∙ c.if-are_equal.true)

pub returns : goal.returns
unfolding pair_refusal
returns c =
    let far : c.any_beyond.result
    ≡ any_beyond c.args.px c.args.py c.args.qx c.args.qy = simp (c.any_beyond.ensures, out-is, c.ranges.px, c.ranges.py, c.ranges.qx, c.ranges.qy) in
    let twice : c.are_equal.result
    ≡ equal c.args.px c.args.py c.args.qx c.args.qy = simp (c.are_equal.ensures, out-is, c.ranges.px, c.ranges.py, c.ranges.qx, c.ranges.qy) in
    simp (sym far ∙ c.if-any_beyond.false, sym twice ∙ c.if-are_equal.false)

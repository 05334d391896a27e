-- `check_side` meets its contract: its flag is that of `side_refusal`.
use mathlib.Core.Path.{◌≡◌, sym, ◌∙◌}
use Rattle.whole.specs.Tests.{out-is}
use Rattle.sheet.specs.Refusal.{no_side, side_refusal}
use Rattle.sheet.proofs.check_side.Goals as goal

pub returns-then-is_no_side : goal.returns-then-is_no_side
unfolding side_refusal
returns-then-is_no_side c =
    let wrong : c.is_no_side.result
    ≡ no_side c.args.n c.args.a c.args.b c.args.c = simp (c.is_no_side.ensures, out-is, c.ranges.n, c.ranges.a, c.ranges.b, c.ranges.c) in
    simp (sym wrong ∙ c.if-is_no_side.true)

pub returns : goal.returns
unfolding side_refusal
returns c =
    let wrong : c.is_no_side.result
    ≡ no_side c.args.n c.args.a c.args.b c.args.c = simp (c.is_no_side.ensures, out-is, c.ranges.n, c.ranges.a, c.ranges.b, c.ranges.c) in
    simp (sym wrong ∙ c.if-is_no_side.false)

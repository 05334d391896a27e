-- `pick` meets its contract: it is `cond`, case by case.
use Rattle.whole.specs.Tests.{out-is}
use Rattle.kernel.proofs.oneline.pick.Goals as goal

pub returns-then-test : goal.returns-then-test
returns-then-test c = simp (c.if-test.true, out-is, c.ranges.yes)

pub returns : goal.returns
returns c = simp (c.if-test.false, out-is, c.ranges.no)

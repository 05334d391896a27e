-- `side` meets its contract: it is `make` of kind 4 with three times 0, and the two numbers that it hands on are its own.
use Rattle.whole.specs.Tests.{out-is}
use Rattle.sheet.proofs.Object.side.Goals as goal

pub returns : goal.returns
returns c = simp (out-is, c.ranges.n, c.ranges.tag) at c.make.ensures

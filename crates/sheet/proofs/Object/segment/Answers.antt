-- `segment` meets its contract: it is `make` of kind 1, and the five numbers that it hands on are its own.
use Rattle.whole.specs.Tests.{out-is}
use Rattle.sheet.proofs.Object.segment.Goals as goal

pub returns : goal.returns
returns c = simp (out-is, c.ranges.px, c.ranges.py, c.ranges.qx, c.ranges.qy, c.ranges.tag) at c.make.ensures

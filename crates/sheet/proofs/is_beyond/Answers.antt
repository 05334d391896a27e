-- `is_beyond` meets its contract: it is `is_outside` of -2,000 and 2,000, as `beyond` is `outside` of them.
use Rattle.whole.specs.Tests.{out-is}
use Rattle.sheet.proofs.is_beyond.Goals as goal

pub returns : goal.returns
returns c = simp (c.is_outside.ensures, out-is, c.ranges.z)

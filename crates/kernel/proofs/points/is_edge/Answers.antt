-- `is_edge` meets its contract: its two flags are those of `edge`, with w as a size.
use Rattle.whole.specs.Tests.{out-is, lit-flag}
use Rattle.kernel.proofs.points.is_edge.Goals as goal

pub returns : goal.returns
returns c = simp (c.size.ensures, out-is, lit-flag 0 tt, c.ranges.m, c.ranges.n)

-- `between` meets its contract: the two tests are those of `between_by`, and the point is given.
use Rattle.whole.specs.Tests.{out-is, lt-flag}
use Rattle.kernel.proofs.oneline.between.Goals as goal

pub returns-then-lo-hi : goal.returns-then-lo-hi
returns-then-lo-hi c = simp (lt-flag c.ranges.lo c.ranges.hi c.if-lo-hi.true)

pub returns-then-hi-lo : goal.returns-then-hi-lo
returns-then-hi-lo c = simp (lt-flag c.ranges.lo c.ranges.hi c.if-lo-hi.false, lt-flag c.ranges.hi c.ranges.lo c.if-hi-lo.true)

pub returns : goal.returns
returns c =
    simp (
      lt-flag c.ranges.lo c.ranges.hi c.if-lo-hi.false,
      lt-flag c.ranges.hi c.ranges.lo c.if-hi-lo.false,
      c.given-e.ensures,
      out-is,
      c.ranges.x,
      c.ranges.y,
    )

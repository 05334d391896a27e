-- `are_equal` meets its contract: its two tests are those of `equal`.
use Rattle.whole.specs.Tests.{eq_flag}
use Rattle.sheet.proofs.are_equal.Goals as goal

pub returns : goal.returns
returns c = simp (eq_flag, c.ranges.px, c.ranges.py, c.ranges.qx, c.ranges.qy)

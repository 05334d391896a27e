-- `any_beyond` meets its contract: its four flags are those of `any_beyond`.
use Rattle.whole.specs.Tests.{out-is}
use Rattle.sheet.proofs.any_beyond.Goals as goal

pub returns : goal.returns
returns c =
    simp (
      c.is_beyond.ensures,
      c.is_beyond-2.ensures,
      c.is_beyond-3.ensures,
      c.is_beyond-4.ensures,
      out-is,
      c.ranges.px,
      c.ranges.py,
      c.ranges.qx,
      c.ranges.qy,
    )

-- `put_byte` meets its contract: at a place behind the lent bytes nothing is written.
use native.Mathlib.Omega.{arith}
use Rattle.sheet.specs.LentLaws.{wrote_one, wrote-past}
use Rattle.sheet.proofs.lent.put_byte.Goals as goal

pub returns-then-at-out : goal.returns-then-at-out
returns-then-at-out c = wrote_one (omega arith) (omega arith)

pub returns : goal.returns
returns c = wrote-past (omega arith) (omega arith) c.behind.ensures

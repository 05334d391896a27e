-- `put_sized` meets its contract: the minus where the flag says so, and then the digits.
use Rattle.sheet.specs.LentLaws.{wrote-two, wrote_as}
use Rattle.decimal.proofs.put_sized.Goals as goal

pub returns-then-below : goal.returns-then-below
returns-then-below c =
    wrote_as (wrote-two c.put_byte-next.ensures c.put_digits.ensures)
    (simp c.if-below.true)

pub returns : goal.returns
returns c = wrote_as c.put_digits-2.ensures (simp c.if-below.false)

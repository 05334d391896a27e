-- `put_line` meets its contract: `put_word` puts the same text whatever bytes are lent to it.
use Rattle.std.proofs.Common.{rules}
use Rattle.rowtext.proofs.put_line.Goals as goal

pub returns : goal.returns
returns c = c.put_fitting.ensures _ (search rules)

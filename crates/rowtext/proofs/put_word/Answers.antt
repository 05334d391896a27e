-- `put_word` meets its contract: its three parts stand one after another.
use Rattle.sheet.specs.LentLaws.{wrote-two}
use Rattle.rowtext.proofs.put_word.Goals as goal

pub returns : goal.returns
returns c = wrote-two (wrote-two c.put_text-number.ensures c.put_sized-end.ensures) c.put_byte.ensures

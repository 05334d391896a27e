-- `list_input` tells of the whole input what `say_drawing` does of its beginning.
use Rattle.std.proofs.Common.{rules}
use Rattle.list.specs.ReadingLaws.{lists-input}
use Rattle.list.proofs.list_input.Goals as goal

pub returns-in-Ok-clause-tells : goal.returns-in-Ok-clause-tells
returns-in-Ok-clause-tells g c =
    let read = c.in-Ok.ensures in
    lists-input _ _ _ c.in-Ok.got c.read_bytes.new.bytes (search rules) read.prefix_len.0 read.bytes read.end c.say_drawing.ensures.tells

-- `move_input` answers of the whole input what `move_bytes` does of its beginning.
use Rattle.std.proofs.Common.{rules}
use Rattle.mover.specs.ToldLaws.{moves-input}
use Rattle.mover.proofs.move_input.Goals as goal

pub returns-in-Ok : goal.returns-in-Ok
returns-in-Ok g c =
    let read = c.in-Ok.ensures in
    let moved = c.move_bytes.ensures in
    moves-input _ _ _ _ _ _ c.in-Ok.got c.read_bytes.new.bytes (search rules) read.prefix_len.0 read.bytes read.end moved.tells moved.writes

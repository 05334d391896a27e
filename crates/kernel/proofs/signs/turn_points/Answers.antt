-- `turn_points` meets its contract: points that are not refused are narrow, as `turn_of` asks.
use mathlib.Core.Path.{sym}
use Rattle.kernel.specs.Accepts.{turn-accepts}
use Rattle.kernel.proofs.signs.turn_points.Goals as goal

pub turn_of-requires : goal.turn_of-requires
turn_of-requires c = turn-accepts c.args.p c.args.q c.args.s (sym c.in_ok-check_turn.ensures)

-- `side_of_circle` meets its contract: points that are not refused are what `circle_of` asks.
use mathlib.Core.Path.{sym}
use Rattle.sheet.proofs.CircleLaws.{circle-taken}
use Rattle.kernel.proofs.circle.side_of_circle.Goals as goal

pub circle_of-requires : goal.circle_of-requires
circle_of-requires c =
    let a = c.args in
    let t = circle-taken a.p a.q a.s a.u (sym c.in_ok-check_circle.ensures) in
    search (t.first, t.second, t.third, t.fourth)

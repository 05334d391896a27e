-- `is_corner` meets its contract: its flags are those of `corner_at`.
use lib.IntN.{negsuc}
use Rattle.std.proofs.Common.{rules}
use Rattle.whole.specs.Bound.{fits64, w-negsuc}
use Rattle.whole.specs.Tests.{Fit, fits-ok, eq_flag, lit-flag}
use Rattle.kernel.proofs.joint.is_corner.Goals as goal

pub returns : goal.returns
returns c =
    let e = c.args.e in
    let mx : Fit e.mx = search rules in
    let my : Fit e.my = search rules in
    let nx : Fit e.nx = search rules in
    let ny : Fit e.ny = search rules in
    let w : Fit e.w = search rules in
    let less = eq_flag {x = e.mx} {y = negsuc 0} (fits-ok e.mx mx) (fits64 (w-negsuc 0) tt) in
    let low = eq_flag {x = e.my} {y = negsuc 0} (fits-ok e.my my) (fits64 (w-negsuc 0) tt) in
    simp (lit-flag 0 tt, lit-flag 1 tt, less, low, fits-ok e.mx mx, fits-ok e.my my, fits-ok e.nx nx, fits-ok e.ny ny, fits-ok e.w w)

-- `is_narrow` meets its contract: its flags are those of `narrow`.
use mathlib.Core.Path.{◌≡◌}
use mathlib.Core.Bool.{◌&&◌}
use lib.IntN.{pos, neg_ℤ}
use lib.Signed.{le_z}
use Rattle.std.proofs.Common.{rules}
use Rattle.whole.specs.Tests.{out}
use Rattle.sheet.specs.Points.{narrow}
use Rattle.kernel.proofs.points.is_narrow.Goals as goal

pub returns : goal.returns
unfolding narrow
returns c =
    let x : c.contains-nx_in.result ≡ (le_z (neg_ℤ (pos 8000000)) c.args.p.nx && le_z c.args.p.nx (pos 8000000)) = search rules in
    let y : c.contains-ny_in.result ≡ (le_z (neg_ℤ (pos 8000000)) c.args.p.ny && le_z c.args.p.ny (pos 8000000)) = search rules in
    let w : out c.args.p.w ≡ c.args.p.w = search rules in
    simp (x, y, w)

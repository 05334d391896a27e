-- `is_standard` meets its contract: its flags are those of `standard`.
use mathlib.Core.Path.{◌≡◌}
use mathlib.Core.Bool.{◌&&◌}
use lib.IntN.{pos, neg_ℤ}
use lib.Signed.{le_z}
use Rattle.std.proofs.Common.{rules}
use Rattle.whole.specs.Tests.{out, Fit, fits-ok, lit-flag}
use Rattle.sheet.specs.Points.{standard}
use Rattle.kernel.proofs.points.is_standard.Goals as goal

pub returns : goal.returns
unfolding standard
returns c =
    let x : c.contains-nx_in.result ≡ (le_z (neg_ℤ (pos 64000000000)) c.args.p.nx && le_z c.args.p.nx (pos 64000000000)) = search rules in
    let y : c.contains-ny_in.result ≡ (le_z (neg_ℤ (pos 64000000000)) c.args.p.ny && le_z c.args.p.ny (pos 64000000000)) = search rules in
    let w : out c.args.p.w ≡ c.args.p.w = search rules in
    let fx : Fit c.args.p.mx = search rules in
    let fy : Fit c.args.p.my = search rules in
    simp (x, y, w, lit-flag 0 tt, fits-ok c.args.p.mx fx, fits-ok c.args.p.my fy)

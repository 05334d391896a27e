-- `is_given` meets its contract: it is the definition's four tests, where not beyond reach is within it.
use mathlib.Core.Path.{◌≡◌, ◌∙◌, ap}
use mathlib.Core.Bool.{Bool, not, ◌&&◌}
use lib.IntN.{ℤ}
use Rattle.std.proofs.Common.{rules}
use Rattle.whole.specs.Tests.{out, Fit, fits-ok, lit-flag}
use Rattle.sheet.specs.Limits.{reach}
use Rattle.sheet.specs.Refusal.{beyond}
use Rattle.sheet.specs.Points.{within}
use Rattle.sheet.specs.Circle.{is_given}
use Rattle.kernel.specs.Forms.{not_beyond}
use Rattle.kernel.proofs.points.is_given.Goals as goal

-- one coordinate, by what the reach test of it gave
in_reach : {r : Bool} {z : ℤ} → out z ≡ z → r ≡ beyond (out z) → not r ≡ within reach z
in_reach {z = z} f e = ap not (e ∙ ap beyond f) ∙ not_beyond z

pub returns : goal.returns
unfolding is_given
returns c =
    let p = c.args.p in
    let fit : Fit p.w = search rules in
    let x = in_reach {z = p.nx} (search rules) c.is_beyond-nx_in.ensures in
    let y = in_reach {z = p.ny} (search rules) c.is_beyond-ny_in.ensures in
    λ i. c.is_standard.ensures i && lit-flag 1 tt (fits-ok p.w fit) i && x i && y i

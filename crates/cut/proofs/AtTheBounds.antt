-- The bounds of demand 3 are among what it holds of. To cite:
--   at-the-bound, at-the-small-bound   the two bounds are taken
use Rattle.std.specs.Prelude.{pos}
use Rattle.std.specs.Int.Signed.{le_z_yes}
use Rattle.cut.specs.Claims.{Holds, DemandAt}
use Rattle.cut.proofs.Demand.{from-small, demand-3}

pub at-the-bound : DemandAt (pos 2000000000000000000)
at-the-bound = demand-3 (pos 2000000000000000000) (le_z_yes tt)

pub at-the-small-bound : Holds (pos 1000000000000000)
at-the-small-bound = from-small (pos 1000000000000000) (le_z_yes tt)

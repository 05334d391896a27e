-- `place_of` meets its contract: what is not refused is a point, as `point_place` asks.
use Rattle.std.proofs.Common.{sym}
use Rattle.sheet.specs.PointsLaws.{point-is}
use Rattle.sheet.specs.AcceptsLaws.{point-taken}
use Rattle.screen.proofs.places.place_of.Goals as goal

pub point_place-requires : goal.point_place-requires
point_place-requires c = (point-is c.args.p).0 (point-taken c.args.p (sym c.in_ok-check_point.ensures))

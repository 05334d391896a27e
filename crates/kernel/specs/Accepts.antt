-- The bounds of numbers that are not refused. To cite:
--   order-accepts, turn-accepts, side-accepts   of points, narrow points, and an object with a point
-- Assumes nothing.
use Rattle.std.specs.Prelude.{◌≡◌, true, pos}
use Rattle.whole.specs.Bound.{w-lit}
use Rattle.sheet.specs.declared.Object.{Object}
use Rattle.sheet.specs.declared.Point.{Point}
use Rattle.sheet.specs.Refusal.{Accepted}
use Rattle.sheet.specs.Points.{is_point, narrow}
use Rattle.sheet.specs.PointSizes.{PointSizes}
use Rattle.sheet.specs.PointsLaws.{narrow-is, point-is, point-sizes}
use Rattle.sheet.specs.Signs.{order_refusal, turn_refusal, side_sign_refusal}
use Rattle.sheet.specs.AcceptsLaws.{order-taken, turn-taken, side-taken}
use Rattle.kernel.specs.Bounds.{NarrowSizes}

sizes : (p : Point) → is_point p ≡ true → PointSizes p
sizes p h = point-sizes ((point-is p).0 h)

narrow-sizes : (p : Point) → is_point p ≡ true → narrow p ≡ true → NarrowSizes p
narrow-sizes p h k =
    let s = sizes p h in
    let n = (narrow-is p).0 k in
    record {
      bw = n.in-w.at_most;
      bmx = w-lit s.in_mx tt;
      bnx = n.in_nx;
      bmy = w-lit s.in_my tt;
      bny = n.in_ny;
    }

pub order-accepts : (p q : Point) → order_refusal p q ≡ pos 0 → PointSizes p × PointSizes q
order-accepts p q h = let t = order-taken p q h in (sizes p t.0, sizes q t.1)

pub turn-accepts : (p q s : Point) → turn_refusal p q s ≡ pos 0 → NarrowSizes p × NarrowSizes q × NarrowSizes s
turn-accepts p q s h = let t = turn-taken p q s h in (narrow-sizes p t.0 t.3, narrow-sizes q t.1 t.4, narrow-sizes s t.2 t.5)

pub side-accepts : (o : Object) (s : Point) → side_sign_refusal o s ≡ pos 0 → Accepted o × PointSizes s
side-accepts o s h = let t = side-taken o s h in (t.0, sizes s t.1)

-- Crossing. "Objects include their ends. The answer is none, point or many .. Two that only touch end to end on a line answer point."
use Rattle.std.specs.Prelude.{Bool, true, cond, ◌&&◌, ℤ, pos, ◌+ℤ◌, ◌-ℤ◌, ◌*ℤ◌}
use Rattle.std.specs.Int.Signed.{lt_z, le_z}
use Rattle.whole.specs.Sign.{sgn}
use Rattle.whole.specs.Flag.{eq_z}
use Rattle.sheet.specs.declared.Object.{Object}
use Rattle.sheet.specs.declared.Point.{Point}
use Rattle.sheet.specs.Figure.{Vec, ◌⇀◌, Side, out_x, out_y, Figure, segment, ray, line, side, figure, figure_of}
use Rattle.sheet.specs.Refusal.{object_refusal}
use Rattle.sheet.specs.Points.{size, given, divided}
use Rattle.sheet.specs.Ends.{moment, far_end, reverse, corner}
use Rattle.whole.specs.Choice.{or_else}

pub data Meeting : Type 0 where
  none : Meeting
  point : Point → Meeting
  many : Meeting

-- ---- segments, rays and lines are stretches of a line: the part from start to stop of the line through p in the direction d

-- where a stretch ends, if it does
pub data Limit : Type 0 where
  free : Limit
  till : Vec → Limit

pub record Stretch : Type 0 where
  pub p : Vec
  pub d : Vec
  pub start : Limit
  pub stop : Limit

abbrev pub segment_stretch : Vec → Vec → Stretch
segment_stretch p q = record { p = p; d = p ⇀ q; start = till p; stop = till q }

abbrev pub ray_stretch : Vec → Vec → Stretch
ray_stretch p q = record { p = p; d = p ⇀ q; start = till p; stop = free }

abbrev pub line_stretch : Vec → Vec → Stretch
line_stretch p q = record { p = p; d = p ⇀ q; start = free; stop = free }

abbrev pub cross : Vec → Vec → ℤ
cross a b = a.x *ℤ b.y -ℤ a.y *ℤ b.x

abbrev pub dot : Vec → Vec → ℤ
dot a b = a.x *ℤ b.x +ℤ a.y *ℤ b.y

-- ---- not parallel: the place where the lines meet, if it is within both

abbrev pub meeting_point : Stretch → Stretch → Point
meeting_point A B = record {
  mx = pos 0;
  nx = sgn (cross A.d B.d) *ℤ (moment A.p A.d *ℤ B.d.x -ℤ moment B.p B.d *ℤ A.d.x);
  my = pos 0;
  ny = sgn (cross A.d B.d) *ℤ (moment A.p A.d *ℤ B.d.y -ℤ moment B.p B.d *ℤ A.d.y);
  w = size (cross A.d B.d);
}

-- that place is p + (h / w) d, with w = |dA x dB|: not before the start, where h is 0, nor beyond the stop, where h is w
abbrev pub not_before : Limit → ℤ → Bool
not_before free h = true
not_before (till a) h = le_z (pos 0) h

abbrev pub not_beyond : Limit → ℤ → ℤ → Bool
not_beyond free h w = true
not_beyond (till b) h w = le_z h w

abbrev pub reaches : Stretch → ℤ → ℤ → Bool
reaches A h w = not_before A.start h && not_beyond A.stop h w

abbrev pub skew : Stretch → Stretch → Meeting
skew A B =
    cond
    (reaches A (sgn (cross A.d B.d) *ℤ cross (A.p ⇀ B.p) B.d) (size (cross A.d B.d))
    && reaches B (sgn (cross A.d B.d) *ℤ cross (A.p ⇀ B.p) A.d) (size (cross A.d B.d)))
    (point (divided (meeting_point A B)))
    none

-- ---- on one line: from the later start to the sooner stop, in the first one's direction

abbrev pub later : Vec → Limit → Limit → Limit
later d free l = l
later d (till a) free = till a
later d (till a) (till b) = cond (lt_z (dot d a) (dot d b)) (till b) (till a)

abbrev pub sooner : Vec → Limit → Limit → Limit
sooner d free l = l
sooner d (till a) free = till a
sooner d (till a) (till b) = cond (lt_z (dot d a) (dot d b)) (till a) (till b)

-- none, one given point, or many
abbrev pub between : Vec → Limit → Limit → Meeting
between d free l = many
between d (till a) free = many
between d (till a) (till b) = cond (lt_z (dot d a) (dot d b)) many (cond (lt_z (dot d b) (dot d a)) none (point (given a)))

-- the arrows of both point the same way
abbrev pub alike : Stretch → Stretch → Bool
alike A B = lt_z (pos 0) (dot A.d B.d)

abbrev pub together : Stretch → Stretch → Meeting
together A B =
    between A.d
    (later A.d A.start (cond (alike A B) B.start B.stop))
    (sooner A.d A.stop (cond (alike A B) B.stop B.start))

unfoldable pub stretches : Stretch → Stretch → Meeting
unfolding divided
stretches A B =
    cond (eq_z (cross A.d B.d) (pos 0))
    (cond (eq_z (cross A.d (A.p ⇀ B.p)) (pos 0)) (together A B) none)
    (skew A B)

-- ---- with sides of the frame

-- the point is on the side for every R: its way out over it is R exactly
abbrev pub on_side : Side → Point → Bool
on_side n e = eq_z (out_x n *ℤ e.mx +ℤ out_y n *ℤ e.my) e.w && eq_z (out_x n *ℤ e.nx +ℤ out_y n *ℤ e.ny) (pos 0)

-- the end that is on it
abbrev pub end_on : Side → Point → Meeting → Meeting
end_on n e otherwise = cond (on_side n e) (point e) otherwise

-- the same side: many; adjacent ones: their corner; opposite ones: none
abbrev pub outs : Side → Side → ℤ
outs m n = out_x m *ℤ out_x n +ℤ out_y m *ℤ out_y n

abbrev pub sides : Side → Side → Meeting
sides m n =
    cond (eq_z (outs m n) (pos 0)) (point (corner (out_x m +ℤ out_x n) (out_y m +ℤ out_y n)))
    (cond (lt_z (pos 0) (outs m n)) many none)

-- a side with a ray or line: the end that is on it; with a segment: none
unfoldable pub with_side : Side → Figure → Meeting
unfolding far_end
with_side n (segment p q) = none
with_side n (ray p q) = end_on n (far_end p (p ⇀ q)) none
with_side n (line p q) = end_on n (far_end p (p ⇀ q)) (end_on n (far_end p (reverse (p ⇀ q))) none)
with_side n (side m) = sides n m

-- a stretch, which is that of the figure f, with any figure
unfoldable pub with_stretch : Figure → Stretch → Figure → Meeting
unfolding stretches with_side
with_stretch f A (segment p q) = stretches A (segment_stretch p q)
with_stretch f A (ray p q) = stretches A (ray_stretch p q)
with_stretch f A (line p q) = stretches A (line_stretch p q)
with_stretch f A (side n) = with_side n f

unfoldable pub meeting : Figure → Figure → Meeting
unfolding with_stretch with_side
meeting (segment p q) g = with_stretch (segment p q) (segment_stretch p q) g
meeting (ray p q) g = with_stretch (ray p q) (ray_stretch p q) g
meeting (line p q) g = with_stretch (line p q) (line_stretch p q) g
meeting (side n) g = with_side n g

unfoldable pub crossing_of : Object → Object → Meeting
unfolding figure_of meeting
crossing_of a b = meeting (figure a) (figure b)

-- "Two objects: the first one's, then the second's"
unfoldable pub crossing_refusal : Object → Object → ℤ
crossing_refusal a b = or_else (object_refusal a) (object_refusal b)

-- What follows from demand 3 of the code. To cite:
--   circle-means   what a side of circle that is answered says of the circle through the three places: outside, on it or inside
--   at-the-smaller-bound, at-the-bound   the two bounds are among what it holds of
use Rattle.std.specs.Prelude.{ℤ, pos, ◌≤ℤ◌, ◌<ℤ◌, Ok}
use Rattle.std.proofs.Common.{sym, subst}
use Rattle.std.specs.Int.Signed.{le_z_yes}
use contract.Lifetimes.{Lfts}
use Rattle.sheet.specs.declared.Point.{Point}
use Rattle.cut.specs.Place.{put, Spot, place_of}
use Rattle.cut.specs.Ordinary.{Centre, SideByDistance}
use Rattle.cut.proofs.Same.{spot_at}
use Rattle.cut.proofs.Round.{round}
use Rattle.kernel.proofs.circle.side_of_circle.Reads as side-of-circle
use Rattle.demand.specs.Said.{is_given, CircleSaid, CodeHolds, CodeAt}
use Rattle.demand.proofs.Demand.{smaller-frame, demand}

-- ---- what a side of circle means

-- C, any place over one denominator, is the centre of a circle through the first three: then the sign tells by the distances from C whether
-- the fourth is outside, on the circle or inside
pub circle-means : (R : ℤ) → pos 2000000000000000000 ≤ℤ R → (κs : Lfts 0) (p q s u : Point) (c : ℤ)
    → side-of-circle.Post κs (p, (q, (s, (u, tt)))) (Ok c) (p, (q, (s, (u, tt))))
    → (h : pos 0 <ℤ p.w) (k : pos 0 <ℤ q.w) (l : pos 0 <ℤ s.w) (j : pos 0 <ℤ u.w)
    → (C : Spot) → Centre (place_of C) (put R p h) (put R q k) (put R s l) → SideByDistance (place_of C) (put R p h) (put R q k) (put R s l) (put R u j) c
circle-means R h_r κs p q s u c a h k l j C m = go ((demand R h_r).circles κs p q s u (Ok c) a)
  where
    go : CircleSaid R p q s u (Ok c) → SideByDistance (place_of C) (put R p h) (put R q k) (put R s l) (put R u j) c
    go (is_given z e) =
        subst (SideByDistance (place_of C) (put R p h) (put R q k) (put R s l) (put R u j)) (sym e.is)
        (round C (spot_at R p h) (spot_at R q k) (spot_at R s l) (spot_at R u j) m)

-- ---- the bounds themselves are taken

pub at-the-smaller-bound : CodeHolds (pos 1000000000000000)
at-the-smaller-bound = smaller-frame (pos 1000000000000000) (le_z_yes tt)

pub at-the-bound : CodeAt (pos 2000000000000000000)
at-the-bound = demand (pos 2000000000000000000) (le_z_yes tt)

-- The laws of places. To cite:
--   place-one       no two places say the same
--   corner-side     the side of a corner begins there;  side-where   a frame point is on its side, and not where that side ends
--   side-only       and it is so of no other side
--   side_by          `side_where` by the flags of the four sides
--   Ratios, ratios  the numbers of a point that are divided are within the limits
--   along-is        the coordinate along a side, by the side's number;  along-by   what holds of x and of y holds of it
--   flat-is         a point is standard exactly where mx and my are 0;  frame-standard   on the frame it is not
--   place-standard, place-frame   the place by whether the point is standard
-- Assumes nothing.
use Rattle.std.specs.Prelude.{◌≡◌, refl, ◌⊎◌, Bool, true, false, cond, not, ◌&&◌, ℕ, suc, ℤ, pos, negsuc, neg_ℤ, nat_abs, ◌<◌, ◌<ℤ◌, length, Result}
use Rattle.std.proofs.Common.{sym, ◌∙◌, ap, ap₂, true≢false, arith}
use Rattle.std.proofs.Math.Logic.{inl, inr}
use Rattle.whole.specs.Bound.{w-lit}
use Rattle.whole.specs.Order.{pp-dest}
use Rattle.whole.specs.Flag.{eq_z}
use Rattle.whole.specs.Tests.{eq-eq_z, ne-eq_z, eq_z-true}
use Rattle.sheet.specs.declared.Point.{Point}
use Rattle.sheet.specs.declared.refusal.Refusal.{Refusal}
use Rattle.sheet.specs.Figure.{Side, left, bottom, right, top, side_number}
use Rattle.sheet.specs.Ends.{begins}
use Rattle.sheet.specs.Flags.{both, not-both}
use Rattle.sheet.specs.Points.{size, standard}
use Rattle.sheet.specs.PointFacts.{Standard, OnEdge, Frame, APoint, a_standard, a_frame}
use Rattle.sheet.specs.PointsLaws.{point-sizes, standard-is}
use Rattle.screen.specs.declared.OnScreen.{OnScreen}
use Rattle.screen.specs.declared.OnScreen.TheVariants.{At, Edge}
use Rattle.screen.specs.Parts.{Parts}
use Rattle.screen.specs.Values.{Values}
use Rattle.screen.specs.ValuesLaws.{as-many-wholes, float-one}
use Rattle.screen.specs.Places.{on_screen_says, place_says, exactly, is_on, goes_to, side_where, along, position_of, edge_of, place_of}
use Rattle.screen.specs.ByNumber.{along_number}

-- ---- no two places say the same

screen-one : (r s : OnScreen) → on_screen_says r ≡ on_screen_says s → r ≡ s
screen-one (At x y) (At x' y') e =
    let f = ap (λ (t : Values). t.floats) e in
    let ex : x ≡ x' = cc in
    let ey : y ≡ y' = cc in
    ap₂ At ex ey
screen-one (At x y) (Edge n t o) e = let z = as-many-wholes e in absurd (omega arith)
screen-one (Edge n t o) (At x y) e = let z = as-many-wholes e in absurd (omega arith)
screen-one (Edge n t o) (Edge n' t' o') e =
    let f = ap (λ (u : Values). u.floats) e in
    let g = ap (λ (u : Values). u.wholes) e in
    let et : t ≡ t' = cc in
    let eo : o ≡ o' = cc in
    let en : n ≡ n' = cc in
    λ i. Edge (en i) (et i) (eo i)

two_floats : (r : OnScreen) → 0 < length (on_screen_says r).floats
two_floats (At x y) = omega arith
two_floats (Edge n t o) = omega arith

pub place-one : (r s : Result OnScreen Refusal) → place_says r ≡ place_says s → r ≡ s
place-one = float-one on_screen_says screen-one two_floats

-- ---- the side of a frame point

pub corner-side : (s : Side) → side_where (begins s) ≡ s
unfolding side_where
corner-side left = refl
corner-side bottom = refl
corner-side right = refl
corner-side top = refl

-- by the flags of the four sides
abbrev pub side_by : Bool → Bool → Bool → Bool → Side
side_by l b r t = cond (l && not b) left (cond (b && not r) bottom (cond (r && not t) right top))

abbrev goes : Side → Bool → Bool → Bool → Bool → Bool
goes left l b r t = l && not b
goes bottom l b r t = b && not r
goes right l b r t = r && not t
goes top l b r t = t && not l

abbrev Some : Bool → Bool → Bool → Bool → Type 0
Some l b r t = ((l ≡ true) ⊎ (r ≡ true)) ⊎ ((b ≡ true) ⊎ (t ≡ true))

-- on some side, and on no two that lie opposite
picked : (l b r t : Bool) → Some l b r t → (l ≡ true → r ≡ false) → (b ≡ true → t ≡ false) → goes (side_by l b r t) l b r t ≡ true
picked true false r t some lr bt = refl
picked true true false t some lr bt = refl
picked true true true t some lr bt = absurd (true≢false (lr refl))
picked false true false t some lr bt = refl
picked false true true false some lr bt = refl
picked false true true true some lr bt = absurd (true≢false (bt refl))
picked false false true false some lr bt = refl
picked false false true true some lr bt = refl
picked false false false true some lr bt = refl
picked false false false false some lr bt = absurd (nowhere some)
  where
    nowhere : Some false false false false → ⊥
    nowhere (inl (inl e)) = true≢false (sym e)
    nowhere (inl (inr e)) = true≢false (sym e)
    nowhere (inr (inl e)) = true≢false (sym e)
    nowhere (inr (inr e)) = true≢false (sym e)

-- and there is no other
only : (s : Side) (l b r t : Bool) → (l ≡ true → r ≡ false) → (b ≡ true → t ≡ false) → goes s l b r t ≡ true → side_by l b r t ≡ s
only left true false r t lr bt e = refl
only left true true r t lr bt e = absurd (true≢false (sym e))
only left false b r t lr bt e = absurd (true≢false (sym e))
only bottom true true false t lr bt e = refl
only bottom false true false t lr bt e = refl
only bottom l true true t lr bt e = absurd (true≢false (sym e))
only bottom l false r t lr bt e = absurd (true≢false (sym e))
only right true b true t lr bt e = absurd (true≢false (lr refl))
only right false true true false lr bt e = refl
only right false false true false lr bt e = refl
only right false b true true lr bt e = absurd (true≢false (sym e))
only right l b false t lr bt e = absurd (true≢false (sym e))
only top false true r true lr bt e = absurd (true≢false (bt refl))
only top false false true true lr bt e = refl
only top false false false true lr bt e = refl
only top true b r true lr bt e = absurd (true≢false (sym e))
only top l b r false lr bt e = absurd (true≢false (sym e))

exactly-of : {m n v : ℤ} → m ≡ v → n ≡ pos 0 → exactly m n v ≡ true
exactly-of {m} {n} {v} e z = (both (eq_z m v) (eq_z n (pos 0))).1 (eq-eq_z e, eq-eq_z z)

-- a coordinate of size w is -w or w
edge-ends : {m n w : ℤ} → OnEdge m n w → (exactly m n (neg_ℤ w) ≡ true) ⊎ (exactly m n w ≡ true)
edge-ends {m} {n} {w} o = go m o.full
  where
    go : (k : ℤ) → size k ≡ w → (exactly k n (neg_ℤ w) ≡ true) ⊎ (exactly k n w ≡ true)
    go (pos a) e = inr (exactly-of e o.even)
    go (negsuc a) e = inl (exactly-of {v = neg_ℤ w} (ap neg_ℤ e) o.even)

-- -w is not w
two_ends : {w : ℤ} (m n : ℤ) → pos 0 <ℤ w → exactly m n (neg_ℤ w) ≡ true → exactly m n w ≡ false
two_ends {w} m n h e = (not-both (eq_z m w) (eq_z n (pos 0))).1 (λ k. absurd (apart (sym low ∙ eq_z-true {a = m} {b = w} k)))
  where
    low : m ≡ neg_ℤ w
    low = eq_z-true ((both (eq_z m (neg_ℤ w)) (eq_z n (pos 0))).0 e).0

    apart : neg_ℤ w ≡ w → ⊥
    apart q =
        let d = pp-dest h in
        let z : negsuc d.0 ≡ pos (suc d.0) = sym (ap neg_ℤ d.1) ∙ q ∙ d.1 in
        let y : ◌≡◌ {A = ℕ} 0 1 = cc in
        omega arith

goes-is : (s : Side) (p : Point) → goes_to s p ≡ goes s (is_on left p) (is_on bottom p) (is_on right p) (is_on top p)
goes-is left p = refl
goes-is bottom p = refl
goes-is right p = refl
goes-is top p = refl

module _ {p : Point} (f : Frame p) where
  not-opposite-x : is_on left p ≡ true → is_on right p ≡ false
  not-opposite-x = two_ends p.mx p.nx f.slim.in-w.above

  not-opposite-y : is_on bottom p ≡ true → is_on top p ≡ false
  not-opposite-y = two_ends p.my p.ny f.slim.in-w.above

  pub side-where : goes_to (side_where p) p ≡ true
  unfolding side_where
  side-where =
      goes-is (side_by (is_on left p) (is_on bottom p) (is_on right p) (is_on top p)) p
      ∙ picked (is_on left p) (is_on bottom p) (is_on right p) (is_on top p) (some f.on_edge) not-opposite-x not-opposite-y
    where
      some : OnEdge p.mx p.nx p.w ⊎ OnEdge p.my p.ny p.w
          → Some (is_on left p) (is_on bottom p) (is_on right p) (is_on top p)
      some (inl o) = inl (edge-ends o)
      some (inr o) = inr (edge-ends o)

  pub side-only : (s : Side) → goes_to s p ≡ true → side_where p ≡ s
  unfolding side_where
  side-only s e =
      only s (is_on left p) (is_on bottom p) (is_on right p) (is_on top p) not-opposite-x not-opposite-y (sym (goes-is s p) ∙ e)

-- ---- the coordinate along a side, by its number

pub along-is : (s : Side) (x y : ℤ) → along_number (side_number s) x y ≡ along s x y
along-is left x y = refl
along-is bottom x y = refl
along-is right x y = refl
along-is top x y = refl

pub along-by : (F : ℤ → Type 0) (s : Side) {x y : ℤ} → F x → F y → F (along s x y)
along-by F left a b = b
along-by F bottom a b = a
along-by F right a b = b
along-by F top a b = a

-- ---- standard and frame points

full-above : {m n w : ℤ} → pos 0 <ℤ w → OnEdge m n w → m ≡ pos 0 → ⊥
full-above {m} {n} {w} h o e =
    let d = pp-dest h in
    let z : pos 0 ≡ pos (suc d.0) = sym (ap size e) ∙ o.full ∙ d.1 in
    let y = ap nat_abs z in
    omega arith

frame-moves : {p : Point} → Frame p → p.mx ≡ pos 0 → p.my ≡ pos 0 → ⊥
frame-moves {p} f ex ey = go f.on_edge
  where
    go : OnEdge p.mx p.nx p.w ⊎ OnEdge p.my p.ny p.w → ⊥
    go (inl o) = full-above f.slim.in-w.above o ex
    go (inr o) = full-above f.slim.in-w.above o ey

pub frame-standard : {p : Point} → Frame p → standard p ≡ false
frame-standard {p} f = go (standard p) (λ e. (standard-is p).0 e)
  where
    go : (t : Bool) → (t ≡ true → Standard p) → t ≡ false
    go true h = let s = h refl in absurd (frame-moves f s.no_mx s.no_my)
    go false h = refl

pub flat-is : {p : Point} → APoint p → eq_z p.mx (pos 0) && eq_z p.my (pos 0) ≡ standard p
flat-is {p} (a_standard s e) =
    (both (eq_z p.mx (pos 0)) (eq_z p.my (pos 0))).1 (eq-eq_z s.no_mx, eq-eq_z s.no_my) ∙ sym ((standard-is p).1 s)
flat-is {p} (a_frame f e) =
    (not-both (eq_z p.mx (pos 0)) (eq_z p.my (pos 0))).1 (λ k. ne-eq_z (frame-moves f (eq_z-true k))) ∙ sym (frame-standard f)

module _ (p : Point) where
  pub place-standard : standard p ≡ true → place_of p ≡ position_of p
  unfolding place_of
  place-standard e = simp e

  pub place-frame : standard p ≡ false → place_of p ≡ edge_of p
  unfolding place_of
  place-frame e = simp e

-- ---- the values of a place

-- the numbers that a place divides
pub record Ratios (p : Point) : Type 0 where
  pub in_nx : Parts p.nx p.w
  pub in_ny : Parts p.ny p.w
  pub in_mx : Parts p.mx p.w
  pub in_my : Parts p.my p.w

pub ratios : {p : Point} → APoint p → Ratios p
ratios a =
    let s = point-sizes a in
    record {
      in_nx = record { in_n = s.in_nx; in-w = s.in-w };
      in_ny = record { in_n = s.in_ny; in-w = s.in-w };
      in_mx = record { in_n = w-lit s.in_mx tt; in-w = s.in-w };
      in_my = record { in_n = w-lit s.in_my tt; in-w = s.in-w };
    }

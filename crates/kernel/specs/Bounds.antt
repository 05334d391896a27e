-- What the kernel's inner functions ask of their numbers. Nothing here is part of a public promise.
use Rattle.std.specs.Prelude.{◌≡◌, List, [], ◌∷◌, ℕ, ◌<◌, ◌≤◌, ℤ, pos, ◌-ℤ◌, ◌*ℤ◌, ◌<ℤ◌}
use Rattle.whole.specs.Within.{Within}
use Rattle.whole.specs.Flat.{All}
use Rattle.sheet.specs.declared.Point.{Point}
use Rattle.sheet.specs.Refusal.{refusal_of}

-- the five numbers of an accepted object
pub record Numbers (kind px py qx qy : ℤ) : Type 0 where
  pub not_refused : refusal_of kind px py qx qy ≡ pos 0

-- five numbers before the common divisor goes out
pub record Raw (mx nx my ny w : ℤ) : Type 0 where
  pub bmx : Within 64000000000 mx
  pub bnx : Within 64000000000 nx
  pub bmy : Within 64000000000 my
  pub bny : Within 64000000000 ny
  pub bw : Within 64000000000 w
  pub above : pos 0 <ℤ w

-- one of them, and the divisor
pub record PartBounds (n : ℤ) (g : ℕ) : Type 0 where
  pub bn : Within 64000000000 n
  pub above : 0 < g
  pub small : g ≤ 64000000000

-- a direction with its moment k = dx py - dy px
pub record Direction (dx dy k : ℤ) : Type 0 where
  pub bdx : Within 4000 dx
  pub bdy : Within 4000 dy
  pub bk : Within 16000000 k

-- a given point and a direction that is not 0
pub record Ahead (px py dx dy : ℤ) : Type 0 where
  pub bpx : Within 2000 px
  pub bpy : Within 2000 py
  pub bdx : Within 4000 dx
  pub bdy : Within 4000 dy
  pub moves : dx ≡ pos 0 → dy ≡ pos 0 → ⊥

-- one coordinate of a point, by its numbers m, n and w
pub record CoordinateBounds (m n w : ℤ) : Type 0 where
  pub bm : Within 4000 m
  pub bn : Within 64000000000 n
  pub bw : Within 32000000 w

-- a row of the determinant: w, x and y
pub record Row (w x y : ℤ) : Type 0 where
  pub bw : Within 4000 w
  pub bx : Within 8000000 x
  pub by : Within 8000000 y

-- the five numbers of a narrow point
pub record NarrowSizes (p : Point) : Type 0 where
  pub bw : Within 4000 p.w
  pub bmx : Within 8000000 p.mx
  pub bnx : Within 8000000 p.nx
  pub bmy : Within 8000000 p.my
  pub bny : Within 8000000 p.ny

-- two given points
pub record TwoPoints (px py qx qy : ℤ) : Type 0 where
  pub bpx : Within 2000 px
  pub bpy : Within 2000 py
  pub bqx : Within 2000 qx
  pub bqy : Within 2000 qy

-- three given points
pub record ThreePoints (px py qx qy sx sy : ℤ) : Type 0 where
  pub near : All (2000 ∷ 2000 ∷ 2000 ∷ 2000 ∷ 2000 ∷ 2000 ∷ []) (px ∷ py ∷ qx ∷ qy ∷ sx ∷ sy ∷ [])

-- eight coordinates of given points
abbrev pub eight : List ℕ
eight = 2000 ∷ 2000 ∷ 2000 ∷ 2000 ∷ 2000 ∷ 2000 ∷ 2000 ∷ 2000 ∷ []

-- four given points, as those of two objects that are no sides
pub record FourPoints (px py qx qy rx ry sx sy : ℤ) : Type 0 where
  pub near : All eight (px ∷ py ∷ qx ∷ qy ∷ rx ∷ ry ∷ sx ∷ sy ∷ [])

-- their directions are not parallel
pub record Apart (px py qx qy rx ry sx sy : ℤ) : Type 0 where
  pub near : FourPoints px py qx qy rx ry sx sy
  pub apart : ((qx -ℤ px) *ℤ (sy -ℤ ry) -ℤ (qy -ℤ py) *ℤ (sx -ℤ rx)) ≡ pos 0 → ⊥

-- a number that is not 0, and one that its sign goes into
pub record TimesSign (w z : ℤ) : Type 0 where
  pub bz : Within 64000000000 z
  pub not_zero : w ≡ pos 0 → ⊥

-- the way out over a side
pub record Out (ox oy : ℤ) : Type 0 where
  pub box : Within 1 ox
  pub boy : Within 1 oy

-- What the paper promises of a place and of a box: `Shown p r` is what r, the place that was given for p, has to do with p, and `BoxShown l r`
-- what the box r has to do with the list l; and which objects have no place of an end in common. Definitions alone; `proofs/Shows` shows them
-- of the calls.
use Rattle.std.specs.Prelude.{◌≡◌, ◌⊎◌, true, false, List, [], ◌∷◌, ℕ, ◌<◌, Float, ℤ, pos, ◌≤ℤ◌, Option, Some, None, Result, Ok, Err}
use Rattle.sheet.specs.declared.Object.{Object}
use Rattle.sheet.specs.declared.Point.{Point}
use Rattle.sheet.specs.declared.Ends.{Ends}
use Rattle.sheet.specs.declared.refusal.Refusal.{Refusal}
use Rattle.sheet.specs.declared.refusal.Refusal.TheVariants as refusal
use Rattle.sheet.specs.Refused.{no_of}
use Rattle.sheet.specs.Figure.{◌⇀◌, Side, side_number, first, second}
use Rattle.sheet.specs.Points.{is_point, standard}
use Rattle.sheet.specs.PointFacts.{Standard, Frame}
use Rattle.sheet.specs.Ends.{moment, first_end, last_end}
use Rattle.sheet.specs.Crossing.{cross}
use Rattle.sheet.specs.Lists.{count_of, object_at, list_refusal}
use Rattle.screen.specs.declared.OnScreen.{OnScreen}
use Rattle.screen.specs.declared.OnScreen.TheVariants as place
use Rattle.screen.specs.declared.Position.{Position}
use Rattle.screen.specs.declared.SheetBox.{SheetBox}
use Rattle.screen.specs.Quotient.{quotient, Near}
use Rattle.screen.specs.Quotient.{zero+}
use Rattle.screen.specs.Values.{Values}
use Rattle.screen.specs.Boxes.{boxed_says}
use Rattle.screen.specs.Places.{goes_to, m_along, n_along}

-- ---- a place

pub data Shown (p : Point) : Result OnScreen Refusal → Type 0 where
  a_position : {x y : Float} → Standard p → Near p.nx p.w x → Near p.ny p.w y → Shown p (Ok (place.At x y))
  an_edge : {t o : Float} (s : Side) → Frame p → goes_to s p ≡ true → Near (m_along s p) p.w t → Near (n_along s p) p.w o
      → Shown p (Ok (place.Edge (side_number s) t o))
  no-point : is_point p ≡ false → Shown p (Err refusal.NoPoint)

-- ---- parallel objects

-- p is one of the ends that an answer gives
abbrev pub EndIn : Point → Result Ends Refusal → Type 0
EndIn p (Ok e) = (p ≡ e.first) ⊎ (p ≡ e.last)
EndIn p (Err r) = ⊥

-- "two parallel gauge lines": segments, rays or lines that run the same way or the opposite one, with different k. "k = dx py - dy px" is taken
-- with dx and dy of the first for both, since those of the second may be longer, or turned round.
pub record Parallel (o u : Object) : Type 0 where
  pub no_sides : (o.kind ≡ pos 4 → ⊥) × (u.kind ≡ pos 4 → ⊥)
  pub one_direction : cross (first o ⇀ second o) (first u ⇀ second u) ≡ pos 0
  pub other_k : moment (first o) (first o ⇀ second o) ≡ moment (first u) (first o ⇀ second o) → ⊥

-- ---- a box

-- one of some
pub data Among {A : Type 0} (v : A) : List A → Type 0 where
  here : {vs : List A} → Among v (v ∷ vs)
  later : {u : A} {vs : List A} → Among v vs → Among v (u ∷ vs)

-- "its standard ends": an end of one of the list's objects that is a standard point
pub record StandardEnd (l : List ℤ) (p : Point) : Type 0 where
  pub index : ℕ
  pub below : index < count_of l
  pub is-end : Among p (first_end (object_at l index) ∷ last_end (object_at l index) ∷ [])
  pub is_standard : standard p ≡ true

-- z is a coordinate of one of them
pub record Touched (l : List ℤ) (coordinate : Point → ℤ) (z : ℤ) : Type 0 where
  pub end : Point
  pub is-end : StandardEnd l end
  pub equal : coordinate end ≡ z

-- p is where nx and ny say, and that is within the four
abbrev pub Inside : ℤ → ℤ → ℤ → ℤ → Point → Type 0
Inside lx ly hx hy p = (p.w ≡ pos 1) × (lx ≤ℤ p.nx) × (p.nx ≤ℤ hx) × (ly ≤ℤ p.ny) × (p.ny ≤ℤ hy)

-- "lowest and highest x and y over its standard ends"
pub record Encloses (l : List ℤ) (lx ly hx hy : ℤ) : Type 0 where
  pub low_x : Touched l (λ p. p.nx) lx
  pub low_y : Touched l (λ p. p.ny) ly
  pub high_x : Touched l (λ p. p.nx) hx
  pub high_y : Touched l (λ p. p.ny) hy
  pub inside : (p : Point) → StandardEnd l p → Inside lx ly hx hy p

-- x is the float of the coordinate z, as in the place of an end
pub record Shows (z : ℤ) (x : Float) : Type 0 where
  pub is : x ≡ quotient z (pos 1)
  pub near : Near z (pos 1) x

pub record Corner (x y : ℤ) (at : Position) : Type 0 where
  pub in_x : Shows x at.x
  pub in_y : Shows y at.y

-- "with none, all four are +0 and a flag says so": 0 for no refusal, the flag, and the four
abbrev pub no_box_said : Values
no_box_said = record { wholes = pos 0 ∷ pos 1 ∷ []; floats = zero+ ∷ zero+ ∷ zero+ ∷ zero+ ∷ [] }

pub data BoxShown (l : List ℤ) : Result (Option SheetBox) Refusal → Type 0 where
  box_refused : {r : Refusal} → no_of r ≡ list_refusal l → (no_of r ≡ pos 0 → ⊥) → BoxShown l (Err r)
  around_none : list_refusal l ≡ pos 0 → ((p : Point) → StandardEnd l p → ⊥) → boxed_says (Ok None) ≡ no_box_said → BoxShown l (Ok None)
  around : {lx ly hx hy : ℤ} {low high : Position} → list_refusal l ≡ pos 0 → Encloses l lx ly hx hy → Corner lx ly low → Corner hx hy high
      → BoxShown l (Ok (Some (record { low = low; high = high })))

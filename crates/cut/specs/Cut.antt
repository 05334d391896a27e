-- "Take any whole R .. and cut every ray and line at the square from -R to R; segments and sides stay whole." Which places lie on an
-- object so cut, and what two objects share.
use Rattle.std.specs.Prelude.{◌≡◌, ℤ, ◌+ℤ◌, ◌-ℤ◌, ◌*ℤ◌, ◌≤ℤ◌}
use Rattle.sheet.specs.declared.Object.{Object}
use Rattle.sheet.specs.Figure.{Vec, ◌⇀◌, Side, out_x, out_y, Figure, segment, ray, line, side, figure}
use Rattle.cut.specs.Place.{Place, SamePlace, Spot, spot, fixed}

-- on the line through p in the direction d: dx (y - py) = dy (x - px)
pub record OnLine (p d : Vec) (S : Spot) : Type 0 where
  pub online : d.x *ℤ (S.Y -ℤ p.y *ℤ S.W) ≡ d.y *ℤ (S.X -ℤ p.x *ℤ S.W)

-- how far in the direction d, times the denominator
abbrev pub along : Vec → Spot → ℤ
along d S = d.x *ℤ S.X +ℤ d.y *ℤ S.Y

-- in the direction d, Q is not before P
pub record Upto (d : Vec) (P Q : Spot) : Type 0 where
  pub upto : (along d P *ℤ Q.W) ≤ℤ (along d Q *ℤ P.W)

-- how far out over a side, times the denominator: -x, -y, x or y
abbrev pub out : Side → Spot → ℤ
out n S = out_x n *ℤ S.X +ℤ out_y n *ℤ S.Y

-- "the square from -R to R", its edge included: over no side is the place further out than R
pub record InSquare (R : ℤ) (S : Spot) : Type 0 where
  pub inside : (n : Side) → out n S ≤ℤ (R *ℤ S.W)

-- ---- "cut every ray and line at the square .. ; segments and sides stay whole"

-- "segment from p to q"
pub record OfSegment (p q : Vec) (S : Spot) : Type 0 where
  pub on : OnLine p (p ⇀ q) S
  pub not_before_p : Upto (p ⇀ q) (fixed p) S
  pub not_beyond_q : Upto (p ⇀ q) S (fixed q)

-- "line through p and q", cut at the square
pub record OfLine (R : ℤ) (p q : Vec) (S : Spot) : Type 0 where
  pub on : OnLine p (p ⇀ q) S
  pub cut : InSquare R S

-- "ray from p through q", cut at the square
pub record OfRay (R : ℤ) (p q : Vec) (S : Spot) : Type 0 where
  pub of_line : OfLine R p q S
  pub from_p : Upto (p ⇀ q) (fixed p) S

-- "a whole frame side": in the square, and out over this side as far as R; both corners are on it
pub record OnSide (R : ℤ) (n : Side) (S : Spot) : Type 0 where
  pub in-square : InSquare R S
  pub edge : out n S ≡ R *ℤ S.W

pub data On (R : ℤ) : Figure → Spot → Type 0 where
  on_segment : {p q : Vec} {S : Spot} → OfSegment p q S → On R (segment p q) S
  on_ray : {p q : Vec} {S : Spot} → OfRay R p q S → On R (ray p q) S
  on_line : {p q : Vec} {S : Spot} → OfLine R p q S → On R (line p q) S
  on-side : {n : Side} {S : Spot} → OnSide R n S → On R (side n) S

-- the place P is on the object o cut at R
pub record Lies (R : ℤ) (o : Object) (P : Place) : Type 0 where
  pub lies : On R (figure o) (spot P)

-- ---- "two cut pieces share one point .. they share more .. they share nothing"

pub record Shared (R : ℤ) (a b : Object) (P : Place) : Type 0 where
  pub on_first : Lies R a P
  pub on_second : Lies R b P

pub record OnlyShared (R : ℤ) (a b : Object) (P : Place) : Type 0 where
  pub is_shared : Shared R a b P
  pub no_other : (Q : Place) → Shared R a b Q → SamePlace Q P

pub record MoreShared (R : ℤ) (a b : Object) : Type 0 where
  pub one : Place
  pub other : Place
  pub one_shared : Shared R a b one
  pub other_shared : Shared R a b other
  pub differ : SamePlace one other → ⊥

pub record NothingShared (R : ℤ) (a b : Object) : Type 0 where
  pub nothing : (P : Place) → Shared R a b P → ⊥

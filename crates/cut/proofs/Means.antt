-- What an answer says of a set of places at R. To cite:
--   Both, both-swap, both-map   the places of two sets; changed over; under other names
--   Means                     none: there is none; point e: a point, whose place at R is in the set, and no other; many: two that differ
--   means-map                 of the same set under another name
use Rattle.std.specs.Prelude.{◌↔◌, ℤ, pos, ◌<ℤ◌}
use Rattle.sheet.specs.declared.Point.{Point}
use Rattle.sheet.specs.PointFacts.{APoint}
use Rattle.sheet.specs.Crossing.{Meeting, none, point, many}
use Rattle.cut.specs.Place.{Spot}
use Rattle.cut.proofs.Same.{Same, spot_at}

pub record Both (F G : Spot → Type 0) (S : Spot) : Type 0 where
  pub first : F S
  pub second : G S

pub both-swap : {F G : Spot → Type 0} (S : Spot) → Both F G S ↔ Both G F S
both-swap S = ((λ b. record { first = b.second; second = b.first }), (λ b. record { first = b.second; second = b.first }))

pub both-map : {F F' G G' : Spot → Type 0} → ((S : Spot) → F S ↔ F' S) → ((S : Spot) → G S ↔ G' S) → (S : Spot) → Both F G S ↔ Both F' G' S
both-map f g S = (
  (λ b. record { first = (f S).0 b.first; second = (g S).0 b.second }),
  (λ b. record { first = (f S).1 b.first; second = (g S).1 b.second }),
)

pub data Means (R : ℤ) (F : Spot → Type 0) : Meeting → Type 0 where
  means_none : ((S : Spot) → F S → ⊥) → Means R F none
  means_point : {e : Point} (h : pos 0 <ℤ e.w) → APoint e → F (spot_at R e h) → ((S : Spot) → F S → Same S (spot_at R e h)) → Means R F (point e)
  means_many : (P Q : Spot) → F P → F Q → (Same P Q → ⊥) → Means R F many

pub means-map : {R : ℤ} {F G : Spot → Type 0} {m : Meeting} → ((S : Spot) → F S ↔ G S) → Means R F m → Means R G m
means-map f (means_none h) = means_none (λ S g. h S ((f S).1 g))
means-map f (means_point h i a u) = means_point h i ((f _).0 a) (λ S g. u S ((f S).1 g))
means-map f (means_many P Q a b n) = means_many P Q ((f P).0 a) ((f Q).0 b) n

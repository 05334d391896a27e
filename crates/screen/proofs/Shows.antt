-- What the paper promises of places and boxes, of the contracts themselves (`Post`). To cite:
--   place-shows      "it is shown to meet |P w - n Q| times 2^53 at most |n| Q, and zero gives +0"; the side; 5 of no point alone
--   equal-edges      "Two frame points then give equal edges exactly when they are equal"; the second may be any five numbers
--   equal-places     the same where the first is a narrow point;  equal-ends   where it is an end that `ends_of` gives
--   parallel-edges   two parallel lines with different k have different ends, and so different edges
--   box-shows        "lowest and highest x and y over its standard ends; with none, all four are +0 and a flag says so"
use mathlib.Core.Path.{◌≡◌}
use mathlib.Core.Logic.{◌↔◌}
use mathlib.Core.Bool.{true}
use mathlib.Core.List.{List}
use lib.IntN.{ℤ}
use contract.Lifetimes.{Lfts}
use denote.Ref.{Bor}
use Rattle.std.specs.Prelude.{Option, Result}
use Rattle.sheet.specs.declared.Object.{Object}
use Rattle.sheet.specs.declared.Point.{Point}
use Rattle.sheet.specs.declared.Ends.{Ends}
use Rattle.sheet.specs.declared.refusal.Refusal.{Refusal}
use Rattle.sheet.specs.Points.{narrow, frame, is_point}
use Rattle.sheet.specs.PointsLaws.{narrow-is, frame_is}
use Rattle.kernel.proofs.ends.ends_of.Reads as ends_of
use Rattle.screen.specs.declared.OnScreen.{OnScreen}
use Rattle.screen.specs.declared.SheetBox.{SheetBox}
use Rattle.screen.specs.Shown.{Shown, EndIn, Parallel, BoxShown}
use Rattle.screen.proofs.PlaceShown.{shown}
use Rattle.screen.proofs.EqualPlaces.{places-equal}
use Rattle.screen.specs.EndsApart.{end-narrow, end-lined, lined-apart}
use Rattle.screen.proofs.BoxShown.{box-shown}
use Rattle.screen.proofs.places.place_of.Reads as place_of
use Rattle.screen.proofs.boxes.box_of.Reads as box_of

pub place-shows : (κs : Lfts 0) (p : Point) (r : Result OnScreen Refusal) → place_of.Post κs (p, tt) r (p, tt) → Shown p r
place-shows κs p r = shown p r

-- r and s are places that were given for p and q
module _ (κs : Lfts 0) (p q : Point) (r s : Result OnScreen Refusal) (h : place_of.Post κs (p, tt) r (p, tt)) (k : place_of.Post κs (q, tt) s (q, tt)) where
  pub equal-places : (is_point p ≡ true) × (narrow p ≡ true) → (r ≡ s) ↔ (p ≡ q)
  equal-places = places-equal p q r s h k

  pub equal-edges : (is_point p ≡ true) × (frame p ≡ true) → (r ≡ s) ↔ (p ≡ q)
  equal-edges f = equal-places (f.0, (narrow-is p).1 ((frame_is p).0 f.1).slim)

  -- p is an end that was given for o
  module _ (o : Object) (a : Result Ends Refusal) (ea : ends_of.Post κs (o, tt) a (o, tt)) (i : EndIn p a) where
    pub equal-ends : (r ≡ s) ↔ (p ≡ q)
    equal-ends = equal-places (end-narrow o a ea p i)

    -- and q is one that was given for u
    pub parallel-edges : (u : Object) (b : Result Ends Refusal) → ends_of.Post κs (u, tt) b (u, tt) → EndIn q b → Parallel o u → (p ≡ q → ⊥) × (r ≡ s → ⊥)
    parallel-edges u b eb j h =
        let x = end-lined o a ea p i h.no_sides.0 in
        let y = end-lined u b eb q j h.no_sides.1 in
        let apart = lined-apart h (end-narrow o a ea p i).0 x y in
        (apart, λ e. apart (equal-ends.0 e))

pub box-shows : (κs : Lfts 1) (l : Bor (List ℤ)) (r : Result (Option SheetBox) Refusal) → box_of.Post κs (l, tt) r (l, tt) → BoxShown l.now r
box-shows κs l r = box-shown l.now r

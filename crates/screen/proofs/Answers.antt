-- Two answers that meet a function's contract are equal, floats too: stated of the contract itself (`Post`), at any arguments.
use mathlib.Core.Path.{◌≡◌, sym, ◌∙◌}
use mathlib.Core.List.{List}
use lib.IntN.{ℤ}
use contract.Lifetimes.{Lfts}
use denote.Ref.{Bor}
use Rattle.std.specs.Prelude.{Option, Result}
use Rattle.sheet.specs.declared.Point.{Point}
use Rattle.sheet.specs.declared.refusal.Refusal.{Refusal}
use Rattle.screen.specs.declared.OnScreen.{OnScreen}
use Rattle.screen.specs.declared.SheetBox.{SheetBox}
use Rattle.screen.proofs.PlacesLaws.{place-one}
use Rattle.screen.specs.BoxesLaws.{box-one}
use Rattle.screen.proofs.places.place_of.Reads as place_of
use Rattle.screen.proofs.boxes.box_of.Reads as box_of
use Rattle.screen.proofs.boxes.nothing.Reads as nothing

pub place-of-answer :
    (κs : Lfts 0) (a : Point) (r s : Result OnScreen Refusal) → place_of.Post κs (a, tt) r (a, tt) → place_of.Post κs (a, tt) s (a, tt) → r ≡ s
place-of-answer κs a r s p q = place-one r s (p ∙ sym q)

pub box-of-answer :
    (κs : Lfts 1) (l : Bor (List ℤ)) (r s : Result (Option SheetBox) Refusal) → box_of.Post κs (l, tt) r (l, tt) → box_of.Post κs (l, tt) s (l, tt) → r ≡ s
box-of-answer κs l r s p q = box-one r s (p ∙ sym q)

pub nothing-answer : (κs : Lfts 0) (r s : SheetBox) → nothing.Post κs tt r tt → nothing.Post κs tt s tt → r ≡ s
nothing-answer κs r s p q = p ∙ sym q

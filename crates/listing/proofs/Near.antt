-- What document 02 promises of the listing of near ones, shown of the contracts (`Post`): "Its rows, their order, its refusals and the lent list
-- afterwards equal those of the plain listing for every input."
use mathlib.Core.Path.{◌≡◌, sym, ◌∙◌}
use contract.Lifetimes.{Lfts}
use borrow.Fn.Kinds.{Dens, ended_of}
use denote.Triple.Clauses.{AtExit}
use Rattle.std.specs.Prelude.{Result}
use Rattle.sheet.specs.declared.refusal.Unfilled.{Unfilled}
use Rattle.listing.specs.declared.Listed.{Listed}
use Rattle.listing.specs.ListingLaws.{told-one}
use Rattle.listing.proofs.list_all.Kinds as kinds
use Rattle.listing.proofs.list_all.Reads as list_all
use Rattle.listing.proofs.list_near.Reads as list-near

pub near-as-all :
    (κs : Lfts 2) (a : Dens κs kinds.ps) (r s : Result Listed Unfilled) (x y : AtExit (ended_of 2 kinds.ps kinds.r) κs)
    → list-near.Post κs a r x → list_all.Post κs a s y → (r ≡ s) × (x.1.1.0.now ≡ y.1.1.0.now)
near-as-all κs a r s x y p q = (told-one r s (p.0 ∙ sym q.0), p.1 ∙ sym q.1)

-- Two answers that meet a function's contract are equal, and so are the two contents of the lent list afterwards: stated of the
-- contract itself (`Post`), at any arguments.
use mathlib.Core.Path.{◌≡◌, sym, ◌∙◌}
use contract.Lifetimes.{Lfts}
use borrow.Fn.Kinds.{Dens, ended_of}
use denote.Triple.Clauses.{AtExit}
use Rattle.std.specs.Prelude.{Result}
use Rattle.sheet.specs.declared.refusal.Unfilled.{Unfilled}
use Rattle.listing.specs.declared.Listed.{Listed}
use Rattle.listing.specs.ListingLaws.{told-one}
use Rattle.listing.proofs.list_one.Kinds as one-kinds
use Rattle.listing.proofs.list_one.Reads as list-one
use Rattle.listing.proofs.list_all.Kinds as all_kinds
use Rattle.listing.proofs.list_all.Reads as list_all
use Rattle.listing.proofs.list_near.Kinds as near-kinds
use Rattle.listing.proofs.list_near.Reads as list-near

pub list-one-answer :
    (κs : Lfts 2) (a : Dens κs one-kinds.ps) (r s : Result Listed Unfilled) (x y : AtExit (ended_of 2 one-kinds.ps one-kinds.r) κs)
    → list-one.Post κs a r x → list-one.Post κs a s y → (r ≡ s) × (x.1.1.1.0.now ≡ y.1.1.1.0.now)
list-one-answer κs a r s x y p q = (told-one r s (p.0 ∙ sym q.0), p.1 ∙ sym q.1)

pub list-all-answer :
    (κs : Lfts 2) (a : Dens κs all_kinds.ps) (r s : Result Listed Unfilled) (x y : AtExit (ended_of 2 all_kinds.ps all_kinds.r) κs)
    → list_all.Post κs a r x → list_all.Post κs a s y → (r ≡ s) × (x.1.1.0.now ≡ y.1.1.0.now)
list-all-answer κs a r s x y p q = (told-one r s (p.0 ∙ sym q.0), p.1 ∙ sym q.1)

pub list-near-answer :
    (κs : Lfts 2) (a : Dens κs near-kinds.ps) (r s : Result Listed Unfilled) (x y : AtExit (ended_of 2 near-kinds.ps near-kinds.r) κs)
    → list-near.Post κs a r x → list-near.Post κs a s y → (r ≡ s) × (x.1.1.0.now ≡ y.1.1.0.now)
list-near-answer κs a r s x y p q = (told-one r s (p.0 ∙ sym q.0), p.1 ∙ sym q.1)

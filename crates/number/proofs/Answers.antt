-- Two answers that meet a function's contract are equal, and so are lent bytes afterwards: stated of the contract itself (`Post`), at any arguments.
use mathlib.Core.Path.{◌≡◌, sym, ◌∙◌}
use mathlib.Core.List.{List}
use Prim.Native.Nat.{ℕ}
use contract.Lifetimes.{Lfts}
use denote.Ref.{Bor}
use denote.MutBor.{MutBor}
use Rattle.std.specs.Prelude.{Result}
use Rattle.sheet.specs.declared.refusal.Refusal.{Refusal}
use Rattle.number.specs.declared.Number.{Number}
use Rattle.number.specs.SaysLaws.{says-one}
use Rattle.number.proofs.read_number.Reads as read_number
use Rattle.number.proofs.stored_size.Reads as stored-size
use Rattle.number.proofs.put_stored.Reads as put-stored

pub read-number-answer :
    (κs : Lfts 1) (bytes : Bor (List ℕ)) (r s : Result Number Refusal)
    → read_number.Post κs (bytes, tt) r (bytes, tt) → read_number.Post κs (bytes, tt) s (bytes, tt) → r ≡ s
read-number-answer κs bytes r s p q = says-one r s (p.0 ∙ sym q.0)

pub stored-size-answer :
    (κs : Lfts 1) (numbers : Bor (List ℕ)) (r s : ℕ)
    → stored-size.Post κs (numbers, tt) r (numbers, tt) → stored-size.Post κs (numbers, tt) s (numbers, tt) → r ≡ s
stored-size-answer κs numbers r s p q = p ∙ sym q

pub put-stored-answer :
    (κs : Lfts 2) (numbers : Bor (List ℕ)) (out d e : MutBor (List ℕ)) (at r s : ℕ)
    → put-stored.Post κs (numbers, (out, (at, tt))) r (numbers, (d, (at, tt))) → put-stored.Post κs (numbers, (out, (at, tt))) s (numbers, (e, (at, tt)))
    → (r ≡ s) × (d.now ≡ e.now)
put-stored-answer κs numbers out d e at r s p q = (p.0.place ∙ sym q.0.place, p.0.cells ∙ sym q.0.cells)

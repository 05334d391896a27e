-- Two answers that meet a function's contract are equal, and so are the lent bytes afterwards: stated of the contract itself (`Post`),
-- at any arguments.
use mathlib.Core.Path.{◌≡◌, sym, ◌∙◌}
use mathlib.Core.Bool.{Bool}
use mathlib.Core.List.{List}
use Prim.Native.Nat.{ℕ}
use lib.IntN.{ℤ}
use contract.Lifetimes.{Lfts}
use denote.MutBor.{MutBor}
use denote.Ref.{Bor}
use Rattle.decimal.proofs.put_text.Reads as put-text
use Rattle.decimal.proofs.put_sized.Reads as put-sized
use Rattle.decimal.proofs.put_number.Reads as put-number
use Rattle.decimal.proofs.put_field.Reads as put-field
use Rattle.decimal.proofs.put_fields.Reads as put-fields

pub put-text-answer :
    (κs : Lfts 2) (text : Bor (List ℕ)) (out d e : MutBor (List ℕ)) (at r s : ℕ)
    → put-text.Post κs (text, (out, (at, tt))) r (text, (d, (at, tt))) → put-text.Post κs (text, (out, (at, tt))) s (text, (e, (at, tt)))
    → (r ≡ s) × (d.now ≡ e.now)
put-text-answer κs text out d e at r s p q = (p.place ∙ sym q.place, p.cells ∙ sym q.cells)

pub put-sized-answer :
    (κs : Lfts 1) (below : Bool) (n : ℕ) (out d e : MutBor (List ℕ)) (at r s : ℕ)
    → put-sized.Post κs (below, (n, (out, (at, tt)))) r (below, (n, (d, (at, tt))))
    → put-sized.Post κs (below, (n, (out, (at, tt)))) s (below, (n, (e, (at, tt))))
    → (r ≡ s) × (d.now ≡ e.now)
put-sized-answer κs below n out d e at r s p q = (p.place ∙ sym q.place, p.cells ∙ sym q.cells)

pub put-number-answer :
    (κs : Lfts 1) (n : ℤ) (out d e : MutBor (List ℕ)) (at r s : ℕ)
    → put-number.Post κs (n, (out, (at, tt))) r (n, (d, (at, tt))) → put-number.Post κs (n, (out, (at, tt))) s (n, (e, (at, tt)))
    → (r ≡ s) × (d.now ≡ e.now)
put-number-answer κs n out d e at r s p q = (p.place ∙ sym q.place, p.cells ∙ sym q.cells)

pub put-field-answer :
    (κs : Lfts 1) (n : ℤ) (out d e : MutBor (List ℕ)) (at r s : ℕ)
    → put-field.Post κs (n, (out, (at, tt))) r (n, (d, (at, tt))) → put-field.Post κs (n, (out, (at, tt))) s (n, (e, (at, tt)))
    → (r ≡ s) × (d.now ≡ e.now)
put-field-answer κs n out d e at r s p q = (p.place ∙ sym q.place, p.cells ∙ sym q.cells)

pub put-fields-answer :
    (κs : Lfts 2) (list : Bor (List ℤ)) (out d e : MutBor (List ℕ)) (at r s : ℕ)
    → put-fields.Post κs (list, (out, (at, tt))) r (list, (d, (at, tt))) → put-fields.Post κs (list, (out, (at, tt))) s (list, (e, (at, tt)))
    → (r ≡ s) × (d.now ≡ e.now)
put-fields-answer κs list out d e at r s p q = (p.place ∙ sym q.place, p.cells ∙ sym q.cells)

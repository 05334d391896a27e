-- Two answers that meet a function's contract are equal, and so are the lent bytes afterwards: stated of the contract itself (`Post`),
-- at any arguments.
use mathlib.Core.Path.{◌≡◌, sym, ◌∙◌}
use mathlib.Core.List.{List}
use Prim.Native.Nat.{ℕ}
use lib.IntN.{ℤ}
use contract.Lifetimes.{Lfts}
use denote.MutBor.{MutBor}
use denote.Ref.{Bor}
use Rattle.std.specs.Prelude.{Result}
use Rattle.sheet.specs.declared.refusal.Unfilled.{Unfilled}
use Rattle.rowtext.specs.PutLaws.{told-one}
use Rattle.rowtext.proofs.put_rows.Reads as put-rows
use Rattle.rowtext.proofs.put_objects.Reads as put-objects
use Rattle.rowtext.proofs.put_count.Reads as put_count
use Rattle.rowtext.proofs.put_refused.Reads as Put-refused

pub put-rows-answer :
    (κs : Lfts 2) (rows : Bor (List ℤ)) (out d e : MutBor (List ℕ)) (r s : Result ℕ Unfilled)
    → put-rows.Post κs (rows, (out, tt)) r (rows, (d, tt)) → put-rows.Post κs (rows, (out, tt)) s (rows, (e, tt))
    → (r ≡ s) × (d.now ≡ e.now)
put-rows-answer κs rows out d e r s p q = (told-one r s (p.0 ∙ sym q.0), p.1.0 ∙ sym q.1.0)

pub put-objects-answer :
    (κs : Lfts 1) (n : ℕ) (out d e : MutBor (List ℕ)) (r s : Result ℕ Unfilled)
    → put-objects.Post κs (n, (out, tt)) r (n, (d, tt)) → put-objects.Post κs (n, (out, tt)) s (n, (e, tt))
    → (r ≡ s) × (d.now ≡ e.now)
put-objects-answer κs n out d e r s p q = (told-one r s (p.0 ∙ sym q.0), p.1 ∙ sym q.1)

pub put-count-answer :
    (κs : Lfts 1) (n : ℕ) (out d e : MutBor (List ℕ)) (r s : Result ℕ Unfilled)
    → put_count.Post κs (n, (out, tt)) r (n, (d, tt)) → put_count.Post κs (n, (out, tt)) s (n, (e, tt))
    → (r ≡ s) × (d.now ≡ e.now)
put-count-answer κs n out d e r s p q = (told-one r s (p.0 ∙ sym q.0), p.1 ∙ sym q.1)

pub put-refused-answer :
    (κs : Lfts 1) (n : ℤ) (out d e : MutBor (List ℕ)) (r s : Result ℕ Unfilled)
    → Put-refused.Post κs (n, (out, tt)) r (n, (d, tt)) → Put-refused.Post κs (n, (out, tt)) s (n, (e, tt))
    → (r ≡ s) × (d.now ≡ e.now)
put-refused-answer κs n out d e r s p q = (told-one r s (p.0 ∙ sym q.0), p.1.0 ∙ sym q.1.0)

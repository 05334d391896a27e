-- Two answers that meet a function's contract are equal: stated of the contract itself (`Post`), at any arguments.
use mathlib.Core.Path.{◌≡◌, sym, ◌∙◌}
use Prim.Native.Nat.{ℕ}
use lib.IntN.{ℤ}
use contract.Lifetimes.{Lfts}
use Rattle.whole.specs.DivisorLaws.{gcd-unique}
use Rattle.whole.proofs.sign.Reads as sign
use Rattle.whole.proofs.size.Reads as size
use Rattle.whole.proofs.gcd.Reads as gcd
use Rattle.whole.proofs.or_else.Reads as or_else

pub sign-answer : (κs : Lfts 0) (x r s : ℤ) → sign.Post κs (x, tt) r (x, tt) → sign.Post κs (x, tt) s (x, tt) → r ≡ s
sign-answer κs x r s p q = p ∙ sym q

pub size-answer : (κs : Lfts 0) (x : ℤ) (r s : ℕ) → size.Post κs (x, tt) r (x, tt) → size.Post κs (x, tt) s (x, tt) → r ≡ s
size-answer κs x r s p q = p ∙ sym q

pub gcd-answer : (κs : Lfts 0) (a b r s : ℕ) → gcd.Post κs (a, (b, tt)) r (a, (b, tt)) → gcd.Post κs (a, (b, tt)) s (a, (b, tt)) → r ≡ s
gcd-answer κs a b r s p q = gcd-unique p q

pub or-else-answer :
    (κs : Lfts 0) (n m r s : ℤ) → or_else.Post κs (n, (m, tt)) r (n, (m, tt)) → or_else.Post κs (n, (m, tt)) s (n, (m, tt)) → r ≡ s
or-else-answer κs n m r s p q = p ∙ sym q

-- What reading a number is, and what its answer says. To cite:
--   Numbered, number_is   a number with some bytes in front of the rest, or refusal 7 or 8
--   number-tells, number_at   what the answer of `read_number` says of the reading, of bytes and of the rest of them
-- Assumes nothing.
use Rattle.std.specs.Prelude.{◌≡◌, refl, Bool, true, false, List, [], ◌∷◌, ◌++◌, ℕ, ◌+◌, ◌-◌, ◌≤◌, pos, nat_abs, length, take, drop, Result, Ok, Err}
use Rattle.std.proofs.Common.{sym, ap, ◌∙◌, arith, length-append, drop_at}
use Rattle.sheet.specs.declared.refusal.Refusal.{Refusal}
use Rattle.sheet.specs.Refused.{no_of}
use Rattle.sheet.specs.RefusedLaws.{no-zero}
use Rattle.number.specs.declared.Number.{Number}
use Rattle.number.specs.Number.{Said, most_groups, value_of, needless, Reading, got, no, checked, number_from, read_number, number_of, number_says}
use Rattle.number.proofs.ReadGroupsLaws.{Behind, read_behind}
use Rattle.number.proofs.ReadGroupsLaws as groups
use Rattle.number.specs.Reads.{Took, Reads}
use Rattle.number.specs.ReadsLaws.{reads_at, reads-rest}

pub data Numbered (bs : List ℕ) : Reading ℕ → Type 0 where
  number : (n : ℕ) (front rest : List ℕ) → bs ≡ front ++ rest → Numbered bs (got n rest)
  ends : Numbered bs (no (pos 7))
  wrong : Numbered bs (no (pos 8))

pub number_is : (bs : List ℕ) → Numbered bs (read_number bs)
number_is bs = go (read_behind most_groups bs [])
  where
    go : {r r' : Reading (List ℕ)} → Behind most_groups bs [] r r' → Numbered bs (number_from r)
    go groups.over = wrong
    go (groups.cut r h) = ends
    go (groups.taken g gs front rest e l) = second (needless (g ∷ gs))
      where
        second : (t : Bool) → Numbered bs (checked t (pos 8) (value_of (g ∷ gs)) rest)
        second true = wrong
        second false = number (value_of (g ∷ gs)) front rest e

said-taken : (bs : List ℕ) {r : Reading ℕ} → Numbered bs r → (n : Number) → number_says (Ok n) ≡ number_of bs r → Took bs r n.value n.size
said-taken bs ends n e = absurd (omega (arith, ap (λ (s : Said). nat_abs s.refusal) e))
said-taken bs wrong n e = absurd (omega (arith, ap (λ (s : Said). nat_abs s.refusal) e))
said-taken bs (number v front rest f) n e =
    let long = ap length f ∙ length-append front rest in
    let value : n.value ≡ v = ap (λ (s : Said). s.value) e in
    let size : n.size ≡ length front = omega (arith, ap (λ (s : Said). s.size) e, long) in
    let there : drop n.size bs ≡ rest = (λ i. drop (size i) (f i)) ∙ drop_at front rest (length front) refl in
    record { taken = λ i. got (sym value i) (sym there i); within = omega arith }

said-refused : (bs : List ℕ) {r : Reading ℕ} → Numbered bs r → (e : Refusal) → number_says (Err e) ≡ number_of bs r → r ≡ no (no_of e)
said-refused bs ends e s = ap no (sym (ap (λ (s : Said). s.refusal) s))
said-refused bs wrong e s = ap no (sym (ap (λ (s : Said). s.refusal) s))
said-refused bs (number v front rest f) e s = absurd (no-zero e (ap (λ (s : Said). s.refusal) s))

pub number-tells :
    (bs : List ℕ) (r : Result Number Refusal) → number_says r ≡ number_of bs (read_number bs) → Reads bs (read_number bs) r (λ n. n.value) (λ n. n.size)
number-tells bs (Ok n) e = said-taken bs (number_is bs) n e
number-tells bs (Err r) e = said-refused bs (number_is bs) r e

-- of the rest of a slice, as a place of the slice
pub number_at :
    (at : ℕ) (bs : List ℕ) (r : Result Number Refusal) → at ≤ length bs
    → number_says r ≡ number_of (take (length bs - at) (drop at bs)) (read_number (take (length bs - at) (drop at bs)))
    → Reads bs (read_number (drop at bs)) r (λ n. n.value) (λ n. at + n.size)
number_at at bs r h e =
    reads_at (λ n. n.value) (λ n. n.size) at bs (read_number (drop at bs)) h r (reads-rest (λ n. n.value) (λ n. n.size) at bs read_number r (number-tells (take (length bs - at) (drop at bs)) r e))

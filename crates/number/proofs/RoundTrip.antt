-- What is read is exactly what is written, of the contracts (`Post`) of read_number and put_stored, for every number that is stored. To cite:
--   Exactly, reads-exactly   any bytes: the number whose own bytes are in front; 7 where with others behind they would begin with one; 8 where not
--   number-comes-back        a number that is put at the front of bytes is read there, and takes as many as were put
--   bytes-come-back          of a number that is read the same bytes are put
use mathlib.Core.Path.{◌≡◌, refl, sym, ap, ◌∙◌}
use mathlib.Core.List.{List, [], ◌∷◌, ◌++◌}
use Prim.Native.Nat.{ℕ, ◌-◌, ◌<◌, ◌≤◌}
use native.Mathlib.Omega.{arith}
use lib.IntN.{pos}
use lib.ListN.{length, take, drop, length-append}
use lib.Seq.{take_at}
use contract.Lifetimes.{Lfts}
use denote.Ref.{Bor}
use denote.MutBor.{MutBor}
use Rattle.std.specs.Prelude.{Result, Ok}
use Rattle.whole.specs.Tests.{eq_z-false}
use Rattle.sheet.specs.declared.refusal.Refusal.{Refusal}
use Rattle.sheet.specs.Lent.{Wrote}
use Rattle.sheet.specs.LentLaws.{clipped-is, wrote_as, wrote-size, wrote-front}
use Rattle.number.specs.declared.Number.{Number}
use Rattle.number.specs.Number.{Bytes, number_limit, write_number, write_numbers, Reading, Said, read_number, number_of, number_says}
use Rattle.number.specs.SaysLaws.{says-one}
use Rattle.number.specs.ReadsNumber.{ReadsNumber, taken, cut, wrong}
use Rattle.number.proofs.GroupsLaws.{number-most}
use Rattle.number.proofs.WrittenLaws.{number-alone}
use Rattle.number.proofs.TripLaws.{number-back, number-exact}
use Rattle.number.proofs.read_number.Reads as ReadNumber
use Rattle.number.proofs.put_stored.Reads as put-stored

pub record Exactly (bs : List ℕ) (r : Result Number Refusal) : Type 0 where
  pub reading : Reading ℕ
  pub answered : number_says r ≡ number_of bs reading
  pub exact : ReadsNumber bs reading

pub reads-exactly :
    (κs : Lfts 1) (bytes : Bor (List ℕ)) (r : Result Number Refusal) → Bytes bytes.now → ReadNumber.Post κs (bytes, tt) r (bytes, tt) → Exactly bytes.now r
reads-exactly κs bytes r h p = record { reading = read_number bytes.now; answered = p.0; exact = number-exact bytes.now h }

-- one number is put at the front
module _ (κs : Lfts 2) (numbers : Bor (List ℕ)) (lent after : MutBor (List ℕ)) (size n : ℕ) (one : numbers.now ≡ n ∷ []) (stored : n < number_limit)
    (put : put-stored.Post κs (numbers, (lent, (0, tt))) size (numbers, (after, (0, tt)))) where
  was-put : Wrote lent.now after.now 0 size (write_number n)
  was-put = wrote_as put.0 (ap write_numbers one ∙ number-alone stored)

  its-size : size ≡ length (write_number n)
  its-size = wrote-size was-put ∙ clipped-is (omega (arith, number-most n))

  its-front : size ≤ length lent.now → after.now ≡ write_number n ++ drop (length (write_number n)) lent.now
  its-front room = wrote-front was-put (omega (arith, its-size))

  pub number-comes-back :
      size ≤ length lent.now → (κs : Lfts 1) (bytes : Bor (List ℕ)) (r : Result Number Refusal) → bytes.now ≡ after.now
      → ReadNumber.Post κs (bytes, tt) r (bytes, tt) → r ≡ Ok (record { value = n; size = size })
  number-comes-back room κs bytes r same p =
      let rest = drop (length (write_number n)) lent.now in
      let bs : bytes.now ≡ write_number n ++ rest = same ∙ its-front room in
      let long : length bytes.now - length rest ≡ size = omega (arith, ap length bs, length-append (write_number n) rest, its-size) in
      says-one r (Ok (record { value = n; size = size }))
      (p.0
      ∙ ap (number_of bytes.now) (ap read_number bs ∙ number-back n rest stored)
      ∙ ap (λ (k : ℕ). record { refusal = pos 0; value = n; size = k }) long)

  pub bytes-come-back :
      (κs : Lfts 1) (bytes : Bor (List ℕ)) (r : Number) → Bytes bytes.now → ReadNumber.Post κs (bytes, tt) (Ok r) (bytes, tt)
      → r.value ≡ n → r.size ≤ length lent.now → (size ≡ r.size) × (take size after.now ≡ take size bytes.now)
  bytes-come-back κs bytes r h p same room = go (number-exact bytes.now h) p.0
    where
      bs : List ℕ
      bs = bytes.now

      go : {reading : Reading ℕ} → ReadsNumber bs reading → number_says (Ok r) ≡ number_of bs reading → (size ≡ r.size) × (take size after.now ≡ take size bs)
      go (cut m b more l e) is = absurd (eq_z-false {a = pos 7} {b = pos 0} refl (sym (ap (λ (s : Said). s.refusal) is)))
      go (wrong w) is = absurd (eq_z-false {a = pos 8} {b = pos 0} refl (sym (ap (λ (s : Said). s.refusal) is)))
      go (taken m rest l e) is =
          let it : m ≡ n = sym (ap (λ (s : Said). s.value) is) ∙ same in
          let bytes-are : bs ≡ write_number n ++ rest = e ∙ ap (λ (k : ℕ). write_number k ++ rest) it in
          let size_is : size ≡ r.size =
          omega (arith, its-size, ap (λ (s : Said). s.size) is, ap length bytes-are, length-append (write_number n) rest) in
          let front = ap (take size) (its-front (omega arith)) ∙ take_at (write_number n) _ size (sym its-size) in
          let own = ap (take size) bytes-are ∙ take_at (write_number n) rest size (sym its-size) in
          (size_is, front ∙ sym own)

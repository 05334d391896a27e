-- The laws of what the code's answers say. To cite:
--   reading-from   what is answered where `?` hands on a refusal
--   read-told-one, write-told-one   no two answers of reading say the same, and none of writing
--   item-told-one, step-told-one, take-told-one   no two answers of the reader say the same
-- Assumes nothing.
use Rattle.std.specs.Prelude.{◌≡◌, refl, ℕ, Option, None, Some, Result, Ok, Err, IsErrAnd}
use Rattle.std.proofs.Common.{ap, sym}
use Rattle.sheet.specs.declared.Object.{Object}
use Rattle.sheet.specs.declared.refusal.Refusal.{Refusal}
use Rattle.sheet.specs.declared.refusal.Unfilled.{Unfilled}
use Rattle.sheet.specs.Refused.{no_of}
use Rattle.sheet.specs.RefusedLaws.{no-one, unfilled-one, unfilled-zero}
use Rattle.number.specs.Number.{no}
use Rattle.store.specs.declared.reading.Got.{Got}
use Rattle.store.specs.declared.Read.{Read}
use Rattle.store.specs.declared.Stepped.{Stepped}
use Rattle.store.specs.declared.Taken.{Taken}
use Rattle.store.specs.Answers.{ReadSays, WriteSays}
use Rattle.store.specs.Reader.{Step, Take}
use Rattle.store.specs.Told.{reading_of, read_told, write_told, item_told, step_told, take_told}

pub reading-from : {A : Type 0} (e : Refusal) (r : Result (Got A) Refusal) → IsErrAnd r (λ y. y ≡ e) → reading_of r ≡ no (no_of e)
reading-from e (Ok g) h = absurd h
reading-from e (Err y) h = ap (λ (r : Refusal). no (no_of r)) h

pub read-told-one : (a b : Result Read Unfilled) → read_told a ≡ read_told b → a ≡ b
read-told-one (Ok r) (Ok s) e = λ i. Ok (record { count = (e i).count; length = (e i).length })
read-told-one (Ok r) (Err v) e = absurd (unfilled-zero v (sym (ap (λ (x : ReadSays). x.refusal) e)))
read-told-one (Err u) (Ok s) e = absurd (unfilled-zero u (ap (λ (x : ReadSays). x.refusal) e))
read-told-one (Err u) (Err v) e =
    ap Err (unfilled-one u v (ap (λ (x : ReadSays). x.refusal) e) (ap (λ (x : ReadSays). x.length) e))

pub write-told-one : (a b : Result ℕ Unfilled) → write_told a ≡ write_told b → a ≡ b
write-told-one (Ok n) (Ok m) e = ap Ok (ap (λ (x : WriteSays). x.length) e)
write-told-one (Ok n) (Err v) e = absurd (unfilled-zero v (sym (ap (λ (x : WriteSays). x.refusal) e)))
write-told-one (Err u) (Ok m) e = absurd (unfilled-zero u (ap (λ (x : WriteSays). x.refusal) e))
write-told-one (Err u) (Err v) e =
    ap Err (unfilled-one u v (ap (λ (x : WriteSays). x.refusal) e) (ap (λ (x : WriteSays). x.length) e))

pub item-told-one : (a b : Result (Option Object) Refusal) → item_told a ≡ item_told b → a ≡ b
item-told-one (Ok (Some o)) (Ok (Some p)) e = let f : o ≡ p = cc in ap (λ (x : Object). Ok (Some x)) f
item-told-one (Ok (Some o)) (Ok None) e = cc
item-told-one (Ok (Some o)) (Err s) e = cc
item-told-one (Ok None) (Ok (Some p)) e = cc
item-told-one (Ok None) (Ok None) e = refl
item-told-one (Ok None) (Err s) e = cc
item-told-one (Err r) (Ok (Some p)) e = cc
item-told-one (Err r) (Ok None) e = cc
item-told-one (Err r) (Err s) e = let f : no_of r ≡ no_of s = cc in ap Err (no-one r s f)

pub step-told-one : (a b : Stepped) → step_told a ≡ step_told b → a ≡ b
step-told-one a b e =
    let item = item-told-one a.item b.item (ap (λ (s : Step). s.item) e) in λ i. record { item = item i; place = (e i).place }

pub take-told-one : (a b : Taken) → take_told a ≡ take_told b → a ≡ b
take-told-one a b e =
    let item = item-told-one a.item b.item (ap (λ (t : Take). t.item) e) in λ i. record { reader = (e i).reader; item = item i }

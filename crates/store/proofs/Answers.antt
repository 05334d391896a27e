-- Two answers that meet a function's contract are equal, and so are two final contents of each lent buffer: stated of the contract itself
-- (`Post`), at any arguments.
use mathlib.Core.Path.{◌≡◌, sym, ◌∙◌}
use mathlib.Core.List.{List}
use Prim.Native.Nat.{ℕ}
use lib.IntN.{ℤ}
use contract.Lifetimes.{Lfts}
use denote.Ref.{Bor}
use denote.MutBor.{MutBor}
use denote.Triple.Clauses.{AtExit}
use Rattle.store.specs.declared.Form.{Form}
use Rattle.store.specs.declared.Read.{Read}
use Rattle.store.specs.declared.Bookmark.{Bookmark}
use Rattle.store.specs.declared.Stepped.{Stepped}
use Rattle.store.specs.declared.Reader.{Reader}
use Rattle.store.specs.declared.Taken.{Taken}
use Rattle.std.specs.Prelude.{Result}
use Rattle.sheet.specs.declared.refusal.Refusal.{Refusal}
use Rattle.sheet.specs.declared.refusal.Unfilled.{Unfilled}
use Rattle.sheet.specs.RefusedLaws.{refused-one}
use Rattle.store.specs.AnswersLaws.{formed-one}
use Rattle.store.specs.ToldLaws.{read-told-one, write-told-one, step-told-one, take-told-one}
use Rattle.store.proofs.check_drawing.Reads as check-drawing
use Rattle.store.proofs.form_of.Reads as form_of
use Rattle.store.proofs.read_drawing.Reads as read-drawing
use Rattle.store.proofs.write_drawing.Reads as write-drawing
use Rattle.store.proofs.move_drawing.Reads as move-drawing
use Rattle.store.proofs.start.Reads as start
use Rattle.store.proofs.step.Reads as step
use Rattle.store.specs.contracts.open_reader as open-reader
use Rattle.store.specs.contracts.next as next
use Rattle.store.proofs.ReaderPosts.{OpenReaderPost, NextPost}

pub check-drawing-answer :
    (κs : Lfts 1) (bytes : Bor (List ℕ)) (r s : Result Unit Refusal)
    → check-drawing.Post κs (bytes, tt) r (bytes, tt) → check-drawing.Post κs (bytes, tt) s (bytes, tt) → r ≡ s
check-drawing-answer κs bytes r s p q = refused-one r s (p ∙ sym q)

pub form-of-answer :
    (κs : Lfts 1) (bytes : Bor (List ℕ)) (r s : Result Form Refusal) → form_of.Post κs (bytes, tt) r (bytes, tt) → form_of.Post κs (bytes, tt) s (bytes, tt) → r ≡ s
form-of-answer κs bytes r s p q = formed-one r s (p ∙ sym q)

pub read-drawing-answer :
    (κs : Lfts 2) (bytes : Bor (List ℕ)) (out : MutBor (List ℤ)) (r s : Result Read Unfilled) (l m : MutBor (List ℤ))
    → read-drawing.Post κs (bytes, (out, tt)) r (bytes, (l, tt)) → read-drawing.Post κs (bytes, (out, tt)) s (bytes, (m, tt))
    → (r ≡ s) × (l.now ≡ m.now)
read-drawing-answer κs bytes out r s l m p q = (read-told-one r s (p.0 ∙ sym q.0), p.1 ∙ sym q.1)

pub write-drawing-answer :
    (κs : Lfts 2) (form : Form) (list : Bor (List ℤ)) (out : MutBor (List ℕ)) (r s : Result ℕ Unfilled) (l m : MutBor (List ℕ))
    → write-drawing.Post κs (form, (list, (out, tt))) r (form, (list, (l, tt))) → write-drawing.Post κs (form, (list, (out, tt))) s (form, (list, (m, tt)))
    → (r ≡ s) × (l.now ≡ m.now)
write-drawing-answer κs form list out r s l m p q = (write-told-one r s (p.0 ∙ sym q.0), p.1 ∙ sym q.1)

pub move-drawing-answer :
    (κs : Lfts 2) (bytes : Bor (List ℕ)) (form : Form) (out : MutBor (List ℕ)) (r s : Result ℕ Unfilled) (l m : MutBor (List ℕ))
    → move-drawing.Post κs (bytes, (form, (out, tt))) r (bytes, (form, (l, tt))) → move-drawing.Post κs (bytes, (form, (out, tt))) s (bytes, (form, (m, tt)))
    → (r ≡ s) × (l.now ≡ m.now)
move-drawing-answer κs bytes form out r s l m p q = (write-told-one r s (p.0 ∙ sym q.0), p.1 ∙ sym q.1)

pub start-answer : (κs : Lfts 0) (r s : Bookmark) → start.Post κs tt r tt → start.Post κs tt s tt → r ≡ s
start-answer κs r s p q = p ∙ sym q

pub step-answer :
    (κs : Lfts 1) (bytes : Bor (List ℕ)) (place : Bookmark) (r s : Stepped)
    → step.Post κs (bytes, (place, tt)) r (bytes, (place, tt)) → step.Post κs (bytes, (place, tt)) s (bytes, (place, tt)) → r ≡ s
step-answer κs bytes place r s p q = step-told-one r s (p ∙ sym q)

-- ---- the reader's own calls

pub open-reader-answer :
    (κs : Lfts 1) (bytes : Bor (List ℕ)) (r s : Reader) (e f : AtExit open-reader.ended κs)
    → OpenReaderPost κs bytes r e → OpenReaderPost κs bytes s f → r ≡ s
open-reader-answer κs bytes r s e f p q = λ i. record { bytes = (p.0 ∙ sym q.0) i; place = (p.1 ∙ sym q.1) i }

pub next-answer :
    (κs : Lfts 1) (reader : Reader) (r s : Taken) (e f : AtExit next.ended κs) → NextPost κs reader r e → NextPost κs reader s f → r ≡ s
next-answer κs reader r s e f p q = take-told-one r s (p ∙ sym q)

-- Calling a reader again and again, of what its calls ensure (`OpenReaderPost`, `NextPost`). To cite:
--   reader-gives   "gives one object per call": call number k gives object number k of the drawing; behind the last one every call gives
--                  the end, or the refusal
--   reader-stays   and the reader holds the lent bytes all the time
use mathlib.Core.Path.{◌≡◌, ap, ◌∙◌}
use mathlib.Core.List.{List}
use Prim.Native.Nat.{ℕ, suc}
use contract.Lifetimes.{Lfts}
use denote.Ref.{Bor}
use denote.Triple.Clauses.{AtExit}
use Rattle.store.specs.declared.Reader.{Reader}
use Rattle.store.specs.declared.Taken.{Taken}
use Rattle.store.specs.Stored.{read_drawing}
use Rattle.store.specs.Reader.{Take, call_from, item_of}
use Rattle.store.specs.Told.{item_told}
use Rattle.store.proofs.ReaderLaws.{calls-give}
use Rattle.store.specs.contracts.open_reader as open-reader
use Rattle.store.specs.contracts.next as next
use Rattle.store.proofs.ReaderPosts.{OpenReaderPost, NextPost}

-- `next` is called on a reader, and then each time on the reader that it gave: call number k, counted from 0, gave this
pub data Called : Reader → ℕ → Taken → Type 0 where
  first_call : {reader : Reader} (κs : Lfts 1) (e : AtExit next.ended κs) (t : Taken) → NextPost κs reader t e → Called reader 0 t
  later_call : {reader : Reader} (κs : Lfts 1) (e : AtExit next.ended κs) (t : Taken) → NextPost κs reader t e
      → {k : ℕ} {u : Taken} → Called t.reader k u → Called reader (suc k) u

called : {reader : Reader} {k : ℕ} {t : Taken} → Called reader k t → item_told t.item ≡ call_from reader.bytes.now reader.place k
unfolding call_from
called (first_call κs e t p) = ap (λ (x : Take). x.item) p
called (later_call κs e t p {k} c) = called c ∙ (λ i. call_from (p i).reader.bytes.now (p i).reader.place k)

called-bytes : {reader : Reader} {k : ℕ} {t : Taken} → Called reader k t → t.reader.bytes ≡ reader.bytes
called-bytes (first_call κs e t p) = ap (λ (x : Take). x.reader.bytes) p
called-bytes (later_call κs e t p c) = called-bytes c ∙ ap (λ (x : Take). x.reader.bytes) p

module _ (κs : Lfts 1) (bytes : Bor (List ℕ)) (reader : Reader) (e : AtExit open-reader.ended κs) (opened : OpenReaderPost κs bytes reader e) where
  pub reader-gives : {k : ℕ} {t : Taken} → Called reader k t → item_told t.item ≡ item_of (read_drawing bytes.now) k
  reader-gives {k} c = called c ∙ (λ i. call_from (opened.0 i).now (opened.1 i) k) ∙ calls-give bytes.now k

  pub reader-stays : {k : ℕ} {t : Taken} → Called reader k t → t.reader.bytes ≡ bytes
  reader-stays c = called-bytes c ∙ opened.0

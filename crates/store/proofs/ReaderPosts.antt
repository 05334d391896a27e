-- What the reader's two calls ensure, as a fact of the caller's: `Post` of `open_reader` and of `next`, at the lent bytes and at a reader.
use mathlib.Core.List.{List}
use Prim.Native.Nat.{ℕ}
use contract.Lifetimes.{Lfts}
use denote.Ref.{Bor}
use denote.Triple.Clauses.{AtExit}
use Rattle.store.specs.declared.Reader.{Reader}
use Rattle.store.specs.declared.Taken.{Taken}
use Rattle.store.specs.contracts.open_reader as open-reader
use Rattle.store.specs.contracts.next as next
use Rattle.store.proofs.open_reader.Reads as OpenReader
use Rattle.store.proofs.next.Reads as Next

abbrev pub OpenReaderPost : (κs : Lfts 1) → Bor (List ℕ) → Reader → AtExit open-reader.ended κs → Type 0
OpenReaderPost κs bytes r e = OpenReader.Post κs (bytes, tt) r e

abbrev pub NextPost : (κs : Lfts 1) → Reader → Taken → AtExit next.ended κs → Type 0
NextPost κs reader r e = Next.Post κs (reader, tt) r e

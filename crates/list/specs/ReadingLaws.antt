-- What the program reads and tells. To cite:
--   refusal_is      a list for the most objects has room for every drawing, so that reading into it refuses what the drawing does
--   status-is       the status of a drawing, from what `status_of` answers
--   told-of-all     the same status tells that something did not go, where the output's flag is not known
--   lists-input     what is told of an input, from what is told of its beginning
-- Assumes nothing.
use Rattle.std.specs.Prelude.{◌≡◌, Bool, true, OnOk, List, ℕ, ◌+◌, ◌*◌, ◌<◌, ◌≤◌, ℤ, length, take, Option, None, Some, IfSome, Result, Ok, Err}
use Rattle.std.specs.Io.KnownBytes.{Consumes, IsAtEnd}
use Rattle.std.proofs.Common.{refl, ap, subst, ◌∙◌, inl, inr}
use Rattle.sheet.specs.Limits.{most}
use Rattle.sheet.specs.Lists.{width}
use Rattle.store.specs.Forms.{longest}
use Rattle.store.specs.Stored.{Drawing, read_drawing}
use Rattle.store.specs.Answers.{read_answer}
use Rattle.store.proofs.LongestLaws.{beginning-decides}
use Rattle.store.proofs.RoomyLaws.{roomy}
use Rattle.stream.specs.declared.status.Status.{Status}
use Rattle.stream.specs.Status.{status_of, status_all, MayTell}
use Rattle.stream.specs.StreamLaws.{beginning}
use Rattle.list.specs.Asked.{ListsInput, ToldOfAll}

pub refusal_is : (bs : List ℕ) (lent : List ℤ) → length lent ≡ most * width → (read_answer (read_drawing bs) lent).refusal ≡ (read_drawing bs).refusal
refusal_is bs lent l = (roomy bs lent l refl refl).refusal

pub status-is : {A E : Type 0} (sent : Result A E) (z n : ℤ) (status : Status) → z ≡ n → status ≡ status_of sent z → MayTell n status
status-is (Ok x) z n status e h = inr (h ∙ ap status_all e)
status-is (Err x) z n status e h = inl h

pub told-of-all : {A E : Type 0} (sent : Result A E) (z : ℤ) (status : Status) {whole : Bool} → status ≡ status_of sent z → OnOk sent (whole ≡ true)
    → ToldOfAll status whole
told-of-all (Ok x) z status e h = inr h
told-of-all (Err x) z status e h = inl e

pub lists-input : (status : Status) (a b : Option (List ℕ)) (got : ℕ) (bytes : List ℕ) → length bytes ≡ longest + 1 → got ≤ length bytes
    → Consumes a b (take got bytes) → (got < length bytes → IsAtEnd b) → MayTell (read_drawing (take got bytes)).refusal status
    → IfSome a (ListsInput status)
lists-input status None b got bytes long within read end tells = tt
lists-input status (Some xs) b got bytes long within read end tells =
    let front = beginning (longest + 1) (Some xs) b got bytes long within read end in
    let same = ap (λ (l : List ℕ). (read_drawing l).refusal) front ∙ ap (λ (r : Drawing). r.refusal) (beginning-decides xs) in
    inr (subst (λ (n : ℤ). MayTell n status) same tells)

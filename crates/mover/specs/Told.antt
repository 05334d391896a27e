-- What the program is asked for, and what it tells. Definitions only.
use Rattle.std.specs.Prelude.{ℕ, zero, suc, ◌≡◌, ◌⊎◌, List, ℤ, pos, negsuc, Option, None, Some}
use Rattle.std.specs.Io.KnownBytes.{Keeps}
use Rattle.decimal.specs.Decimal.{ascii}
use Rattle.store.specs.declared.Form.{Form}
use Rattle.store.specs.declared.Form.TheVariants.{Old, New}
use Rattle.store.specs.Stored.{move_refusal, moved}
use Rattle.stream.specs.declared.status.Status.{Status}
use Rattle.stream.specs.declared.status.Status.TheVariants.{Done, Refused, Unread, Unwritten}
use Rattle.stream.specs.Status.{is_done}
use Rattle.stream.specs.Stream.{FrontWent}

abbrev pub new_word : List ℕ
new_word = ascii "new"

abbrev pub old_word : List ℕ
old_word = ascii "old"

-- what a word asks for
pub data Asks : List ℕ → Option Form → Type 0 where
  to_new : Asks new_word (Some New)
  to_old : Asks old_word (Some Old)
  nothing : {word : List ℕ} → (word ≡ new_word → ⊥) → (word ≡ old_word → ⊥) → Asks word None

-- what is told of a drawing that was read, by the refusal of its move: "refused" exactly where it is refused, which prints nothing; else that
-- all of the moved bytes went, or that they did not
abbrev pub TellsMove : ℤ → Status → Type 0
TellsMove (pos zero) status = (status ≡ Done) ⊎ (status ≡ Unwritten)
TellsMove (pos (suc n)) status = status ≡ Refused
TellsMove (negsuc n) status = status ≡ Refused

-- what is written of such a drawing: nothing where its move is refused, else a front of the moved bytes, and all of them where "done" is told
abbrev pub WritesMove : ℤ → Status → Option (List ℕ) → Option (List ℕ) → List ℕ → Type 0
WritesMove (pos zero) status old new bytes = FrontWent (is_done status) old new bytes
WritesMove (pos (suc n)) status old new bytes = Keeps old new
WritesMove (negsuc n) status old new bytes = Keeps old new

-- what is told and written of an input: that it could not be read, and nothing; or what is of a drawing of all its bytes
abbrev pub MovesInput : Form → Status → Option (List ℕ) → Option (List ℕ) → List ℕ → Type 0
MovesInput form status old new input =
    ((status ≡ Unread) × Keeps old new)
    ⊎ (TellsMove (move_refusal form input) status × WritesMove (move_refusal form input) status old new (moved form input))

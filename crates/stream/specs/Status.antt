-- What a program tells of its end. Definitions only.
use Rattle.std.specs.Prelude.{ℕ, zero, suc, ◌≡◌, ◌⊎◌, Bool, true, false, Result, Ok, Err, ℤ, pos, negsuc}
use Rattle.stream.specs.declared.status.Status.{Status}
use Rattle.stream.specs.declared.status.Status.TheVariants.{Done, Refused, Unread, Unwritten}

-- the codes of the digits 0 to 3: all went, the input was refused, it could not be read, the output could not be written
abbrev pub byte_of : Status → ℕ
byte_of Done = 48
byte_of Refused = 49
byte_of Unread = 50
byte_of Unwritten = 51

-- where it is told
abbrev pub status_descriptor : ℕ
status_descriptor = 3

-- of an input with this refusal, where all went
abbrev pub status_all : ℤ → Status
status_all (pos zero) = Done
status_all (pos (suc n)) = Refused
status_all (negsuc n) = Refused

abbrev pub status_of : {A E : Type 0} → Result A E → ℤ → Status
status_of (Ok x) refusal = status_all refusal
status_of (Err e) refusal = Unwritten

-- what may be told of an input with this refusal, where something is printed of a refused one too
abbrev pub MayTell : ℤ → Status → Type 0
MayTell refusal status = (status ≡ Unwritten) ⊎ (status ≡ status_all refusal)

abbrev pub is_done : Status → Bool
is_done Done = true
is_done Refused = false
is_done Unread = false
is_done Unwritten = false

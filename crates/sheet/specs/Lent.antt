-- What a call that fills lent cells answers, and what it leaves in them: "A refused call returns its number with every other number 0 and
-- changes no lent buffer. An accepted one fills from the front and leaves the rest unchanged. Refusal 10 alone also returns the length
-- needed." Here n is the refusal before 10, 0 for none; size is the length of the result, and room that of the lent cells.
use Rattle.std.specs.Prelude.{◌≡◌, cond, List, ◌++◌, ℕ, ◌+◌, ◌-◌, ◌^◌, ◌≤◌, min, ltb, ℤ, pos, length, drop}
use Rattle.std.proofs.lemmas.List.Edits.{sets}
use Rattle.whole.specs.Flag.{eq_z}
use Rattle.whole.specs.Choice.{or_else}

-- "10: the lent list or byte buffer is too short for the result"
abbrev pub room_refusal : ℤ → ℕ → ℕ → ℤ
room_refusal n size room = or_else n (cond (ltb room size) (pos 10) (pos 0))

-- a number that a call returns beside its refusal n: "with every other number 0"
abbrev pub other_number : ℤ → ℕ → ℕ
other_number n v = cond (eq_z n (pos 0)) v 0

-- the length of the result, which is also the length needed; 0 with every refusal but 10
abbrev pub length_given : ℤ → ℕ → ℕ
length_given n size = other_number n size

-- the lent cells afterwards: the result in front of what is left of them, or as they were
abbrev pub filled : {A : Type 0} → ℤ → List A → List A → List A
filled n result lent =
    cond (eq_z (room_refusal n (length result) (length lent)) (pos 0)) (result ++ drop (length result) lent) lent

-- ---- the inner steps: a piece was put at a place as far as there are cells, every other cell is as it was, and `next` is the place behind it

-- the largest place that a call can answer
abbrev pub largest : ℕ
largest = 2 ^ 64 - 1

-- a place as a call answers it
unfoldable pub clipped : ℕ → ℕ
clipped n = min n largest

pub record Wrote {A : Type 0} (before after : List A) (at next : ℕ) (piece : List A) : Type 0 where
  pub cells : after ≡ sets before at piece
  pub place : next ≡ clipped (at + length piece)
  pub lent : length before ≤ largest

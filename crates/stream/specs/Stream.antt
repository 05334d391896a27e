-- What is said of bytes that go in and out. What becomes of them the operating system decides, so that no answer is fixed here: each has its
-- limits. Definitions only.
use Rattle.std.specs.Prelude.{ℕ, ◌+◌, ◌≤◌, ◌<◌, MatchResult, ◌≡◌, Bool, true, false, cond, List, eqb, length, take, Option, Result, Ok, Err, IfOk, is_ok}
use Rattle.std.specs.Io.KnownBytes.{Appends}
use Rattle.stream.specs.declared.output.Unwritten.{Unwritten}
use Rattle.stream.specs.declared.input.Unread.{Unread}

-- so many items can be taken from the front, and then there are as many; the second part follows from the first
abbrev pub IsPrefixLen : {A : Type 0} → ℕ → List A → Type 0
IsPrefixLen n xs = (n ≤ length xs) × (n ≡ length (take n xs))

-- how many bytes have gone where `done` had, and a call on the rest answered; one that failed moved none
abbrev pub gone : {E : Type 0} → ℕ → Result ℕ E → ℕ
gone done (Ok k) = done + k
gone done (Err e) = done

-- what a call that is handed n bytes may answer: that it failed, or how many bytes it moved, at most n
abbrev pub Moved : {E : Type 0} → ℕ → Result ℕ E → Type 0
Moved n answer = IfOk answer (λ k. k ≤ n)

-- how many bytes of a text went: all of them, or so many as an answer says that it could not be written
abbrev pub sent : {A : Type 0} → List ℕ → Result A Unwritten → ℕ
sent text (Ok x) = length text
sent text (Err u) = u.length

-- a text was handed on, `before` being whether all before it went: some bytes of its front went, none where something before it did not, and
-- it is no error exactly where all before it went and all of its own
pub record HandedOn {A : Type 0} (before : Bool) (text : List ℕ) (r : Result A Unwritten) : Type 0 where
  pub front : sent text r ≤ cond before (length text) 0
  pub told : is_ok r ≡ cond before (eqb (sent text r) (length text)) false

-- some bytes were read into the front of as many cells as there were; there was one at least where the input could not be read
pub record ReadInto (before after : List ℕ) (r : Result ℕ Unread) : Type 0 where
  pub cells : length after ≡ length before
  pub front : MatchResult r (λ n. n ≤ length after) (λ _. 0 < length after)

-- a front of a text was put behind what a writer held, all of it where "whole" is said
pub record FrontWent (whole : Bool) (old new : Option (List ℕ)) (text : List ℕ) : Type 0 where
  pub count : ℕ
  pub within : count ≤ length text
  pub went : Appends old new (take count text)
  pub all : whole ≡ true → count ≡ length text

-- How a call refuses: by a refusal, whose number is the paper's ("Numbers that say no"), and by nothing more.
use Rattle.std.specs.Prelude.{ℕ, List, [], ◌∷◌, ℤ, pos, Result, Ok, Err}
use Rattle.sheet.specs.declared.refusal.Refusal.{Refusal}
use Rattle.sheet.specs.declared.refusal.Refusal.TheVariants as refusal
use Rattle.sheet.specs.declared.refusal.Unfilled.{Unfilled}
use Rattle.sheet.specs.declared.refusal.Unfilled.TheVariants as unfilled

abbrev pub no_of : Refusal → ℤ
no_of refusal.NoKind = pos 1
no_of refusal.TooFar = pos 2
no_of refusal.SamePoints = pos 3
no_of refusal.NoSide = pos 4
no_of refusal.NoPoint = pos 5
no_of refusal.WidePoint = pos 6
no_of refusal.BytesEnd = pos 7
no_of refusal.BadNumber = pos 8
no_of refusal.BytesAfter = pos 9
no_of refusal.TooMany = pos 11
no_of refusal.NoObject = pos 13
no_of refusal.ListLength = pos 14
no_of refusal.NoTag = pos 15
no_of refusal.TagLost = pos 16
no_of refusal.NotGiven = pos 21

-- what a call refuses by, 0 where it does not refuse
abbrev pub refused_by : {A : Type 0} → Result A Refusal → ℤ
refused_by (Ok a) = pos 0
refused_by (Err r) = no_of r

-- what a call says: 0 and the numbers of its answer, or the number of the refusal and nothing more
abbrev pub says : {A : Type 0} → (A → List ℤ) → Result A Refusal → List ℤ
says numbers (Ok a) = pos 0 ∷ numbers a
says numbers (Err r) = no_of r ∷ []

-- "10: the lent list or byte buffer is too short for the result": why lent cells were not filled, and with 10 the length needed
abbrev pub unfilled_no : Unfilled → ℤ
unfilled_no (unfilled.Refused r) = no_of r
unfilled_no (unfilled.NoRoom n) = pos 10

abbrev pub needed : Unfilled → ℕ
needed (unfilled.Refused r) = 0
needed (unfilled.NoRoom n) = n

-- What the code's answers say in the words of the definitions: a refusal by its number.
use Rattle.std.specs.Prelude.{ℕ, pos, Option, None, Some, Result, Ok, Err}
use Rattle.sheet.specs.declared.Object.{Object}
use Rattle.sheet.specs.declared.refusal.Refusal.{Refusal}
use Rattle.sheet.specs.declared.refusal.Unfilled.{Unfilled}
use Rattle.sheet.specs.Figure.{Vec, vec}
use Rattle.sheet.specs.Refused.{no_of, unfilled_no, needed}
use Rattle.number.specs.Number.{Reading, got, no}
use Rattle.store.specs.declared.reading.Got.{Got}
use Rattle.store.specs.declared.reading.Spot.{Spot}
use Rattle.store.specs.declared.Read.{Read}
use Rattle.store.specs.declared.Stepped.{Stepped}
use Rattle.store.specs.declared.Taken.{Taken}
use Rattle.store.specs.Answers.{ReadSays, WriteSays}
use Rattle.store.specs.Reader.{Item, One, End, Refused, Step, Take}

-- what was read, with the bytes behind it
abbrev pub reading_of : {A : Type 0} → Result (Got A) Refusal → Reading A
reading_of (Ok g) = got g.value g.rest.now
reading_of (Err r) = no (no_of r)

abbrev pub point_of : Result (Got Spot) Refusal → Reading Vec
point_of (Ok g) = got (vec g.value.x g.value.y) g.rest.now
point_of (Err r) = no (no_of r)

-- what reading into a lent list answers, and what writing or moving into lent bytes does: where they are not filled, the length needed
abbrev pub read_told : Result Read Unfilled → ReadSays
read_told (Ok r) = record { refusal = pos 0; count = r.count; length = r.length }
read_told (Err u) = record { refusal = unfilled_no u; count = 0; length = needed u }

abbrev pub write_told : Result ℕ Unfilled → WriteSays
write_told (Ok n) = record { refusal = pos 0; length = n }
write_told (Err u) = record { refusal = unfilled_no u; length = needed u }

-- what a call of the reader gives
abbrev pub item_told : Result (Option Object) Refusal → Item
item_told (Ok (Some o)) = One o
item_told (Ok None) = End
item_told (Err r) = Refused (no_of r)

abbrev pub step_told : Stepped → Step
step_told s = record { item = item_told s.item; place = s.place }

abbrev pub take_told : Taken → Take
take_told t = record { reader = t.reader; item = item_told t.item }

-- What each answer says, as the paper's numbers: 0 and the values of an accepted call, or the number of a refusal and nothing more.
-- No two values of an answer say the same numbers.
use Rattle.std.specs.Prelude.{cond, List, [], ◌∷◌, ◌++◌, ℤ, pos, Result}
use Rattle.whole.specs.Flag.{eq_z}
use Rattle.sheet.specs.declared.Object.{Object}
use Rattle.sheet.specs.declared.Ends.{Ends}
use Rattle.sheet.specs.declared.Crossing.{Crossing}
use Rattle.sheet.specs.declared.Crossing.TheVariants as crossing
use Rattle.sheet.specs.declared.refusal.Refusal.{Refusal}
use Rattle.sheet.specs.Refused.{says}
use Rattle.sheet.specs.Refusal.{object_refusal}
use Rattle.sheet.specs.Points.{numbers}
use Rattle.sheet.specs.Lists.{number}
use Rattle.sheet.specs.Crossing.{Meeting, none, point, many}

-- what an answer refuses by: the first of its numbers
abbrev pub refusal_in : List ℤ → ℤ
refusal_in l = number l 0

-- the values where the number is 0, else the number
abbrev pub answer : ℤ → List ℤ → List ℤ
answer n values = cond (eq_z n (pos 0)) (pos 0 ∷ values) (n ∷ [])

abbrev pub object_numbers : Object → List ℤ
object_numbers o = o.kind ∷ o.px ∷ o.py ∷ o.qx ∷ o.qy ∷ o.tag ∷ []

abbrev pub made_says : Result Object Refusal → List ℤ
made_says = says object_numbers

-- what a maker says: the object of these numbers, or its refusal
abbrev pub makes : ℤ → ℤ → ℤ → ℤ → ℤ → ℤ → List ℤ
makes kind px py qx qy tag =
    let o : Object = record { kind = kind; px = px; py = py; qx = qx; qy = qy; tag = tag } in
    answer (object_refusal o) (object_numbers o)

abbrev pub ends_numbers : Ends → List ℤ
ends_numbers e = numbers e.first ++ numbers e.last

abbrev pub ends_say : Result Ends Refusal → List ℤ
ends_say = says ends_numbers

abbrev pub signed_says : Result ℤ Refusal → List ℤ
signed_says = says (λ sign. sign ∷ [])

-- "The answer is none, point or many": 0, 1 with the five numbers, 2
abbrev pub meeting_numbers : Meeting → List ℤ
meeting_numbers none = pos 0 ∷ []
meeting_numbers (point e) = pos 1 ∷ numbers e
meeting_numbers many = pos 2 ∷ []

abbrev pub crossing_numbers : Crossing → List ℤ
crossing_numbers crossing.Nothing = pos 0 ∷ []
crossing_numbers (crossing.Once p) = pos 1 ∷ numbers p
crossing_numbers crossing.Many = pos 2 ∷ []

abbrev pub crossing_says : Result Crossing Refusal → List ℤ
crossing_says = says crossing_numbers

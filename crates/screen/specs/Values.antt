-- What an answer with floats says, as the paper's numbers: 0 and the values of an accepted call, or the number of a refusal and nothing more.
use Rattle.std.specs.Prelude.{cond, List, [], ◌∷◌, ℤ, pos, Float, Result, Ok, Err}
use Rattle.whole.specs.Flag.{eq_z}
use Rattle.sheet.specs.declared.refusal.Refusal.{Refusal}
use Rattle.sheet.specs.Refused.{no_of}

pub record Values : Type 0 where
  pub wholes : List ℤ
  pub floats : List Float

-- a refusal's number alone
abbrev pub refusal : ℤ → Values
refusal n = record { wholes = n ∷ []; floats = [] }

-- what a call says: what its answer says, or the number of the refusal
abbrev pub float_says : {A : Type 0} → (A → Values) → Result A Refusal → Values
float_says told (Ok a) = told a
float_says told (Err r) = refusal (no_of r)

-- what is told where the number is 0, else the number
abbrev pub float_answer : ℤ → Values → Values
float_answer n t = cond (eq_z n (pos 0)) t (refusal n)

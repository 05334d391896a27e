-- The laws of how a call refuses. To cite:
--   refusal-is                  a refusal by its number
--   no-one, refused-one, says-one  no two refusals have the same number; no two answers refuse by the same, or say the same numbers
--   no-zero, no-ten             0 and 10 are no refusal's number
--   unfilled-one, unfilled-zero  the same of why lent cells were not filled: number and length needed tell it
--   err-says, ok-says           what `answer` says where a check refuses, and where it does not
--   err-first, ok-next          of two checks in turn: the first refuses; the first does not, and the second is left
--   refused-from, says-from, unfilled-from  what is answered where `?` hands on a refusal
--   err-ends                    how a call that fills lent cells ends where it refuses
-- Assumes nothing.
use Rattle.std.specs.Prelude.{◌≡◌, refl, List, [], ◌∷◌, ℕ, ℤ, pos, nat_abs, get_or, Result, Ok, Err, IsErrAnd}
use Rattle.std.proofs.Common.{sym, ◌∙◌, ap, arith}
use Rattle.whole.specs.Tests.{eq-eq_z, ne-eq_z}
use Rattle.sheet.specs.declared.refusal.Refusal.{Refusal}
use Rattle.sheet.specs.declared.refusal.Refusal.TheVariants as refusal
use Rattle.whole.specs.Choice.{or_else}
use Rattle.whole.specs.ChoiceLaws.{or-first, or-next}
use Rattle.sheet.specs.declared.refusal.Unfilled.{Unfilled}
use Rattle.sheet.specs.declared.refusal.Unfilled.TheVariants as unfilled
use Rattle.sheet.specs.Refused.{no_of, refused_by, says, unfilled_no, needed}
use Rattle.sheet.specs.Answers.{answer}
use Rattle.sheet.specs.LentLaws.{End}

-- the refusal of a number: by the place in this list, where NotGiven stands at each that is no refusal's
abbrev pub by_no : List Refusal
by_no =
    refusal.NotGiven ∷ refusal.NoKind ∷ refusal.TooFar ∷ refusal.SamePoints ∷ refusal.NoSide ∷ refusal.NoPoint ∷ refusal.WidePoint ∷ refusal.BytesEnd
    ∷ refusal.BadNumber ∷ refusal.BytesAfter ∷ refusal.NotGiven ∷ refusal.TooMany ∷ refusal.NotGiven ∷ refusal.NoObject ∷ refusal.ListLength ∷ refusal.NoTag
    ∷ refusal.TagLost ∷ []

abbrev pub refusal_of_no : ℕ → Refusal
refusal_of_no n = get_or by_no n refusal.NotGiven

pub refusal-is : (r : Refusal) → refusal_of_no (nat_abs (no_of r)) ≡ r
refusal-is refusal.NoKind = refl
refusal-is refusal.TooFar = refl
refusal-is refusal.SamePoints = refl
refusal-is refusal.NoSide = refl
refusal-is refusal.NoPoint = refl
refusal-is refusal.WidePoint = refl
refusal-is refusal.BytesEnd = refl
refusal-is refusal.BadNumber = refl
refusal-is refusal.BytesAfter = refl
refusal-is refusal.TooMany = refl
refusal-is refusal.NoObject = refl
refusal-is refusal.ListLength = refl
refusal-is refusal.NoTag = refl
refusal-is refusal.TagLost = refl
refusal-is refusal.NotGiven = refl

pub no-one : (r s : Refusal) → no_of r ≡ no_of s → r ≡ s
no-one r s e = sym (refusal-is r) ∙ ap (λ (z : ℤ). refusal_of_no (nat_abs z)) e ∙ refusal-is s

pub no-zero : (r : Refusal) → no_of r ≡ pos 0 → ⊥
no-zero refusal.NoKind e = omega (arith, ap nat_abs e)
no-zero refusal.TooFar e = omega (arith, ap nat_abs e)
no-zero refusal.SamePoints e = omega (arith, ap nat_abs e)
no-zero refusal.NoSide e = omega (arith, ap nat_abs e)
no-zero refusal.NoPoint e = omega (arith, ap nat_abs e)
no-zero refusal.WidePoint e = omega (arith, ap nat_abs e)
no-zero refusal.BytesEnd e = omega (arith, ap nat_abs e)
no-zero refusal.BadNumber e = omega (arith, ap nat_abs e)
no-zero refusal.BytesAfter e = omega (arith, ap nat_abs e)
no-zero refusal.TooMany e = omega (arith, ap nat_abs e)
no-zero refusal.NoObject e = omega (arith, ap nat_abs e)
no-zero refusal.ListLength e = omega (arith, ap nat_abs e)
no-zero refusal.NoTag e = omega (arith, ap nat_abs e)
no-zero refusal.TagLost e = omega (arith, ap nat_abs e)
no-zero refusal.NotGiven e = omega (arith, ap nat_abs e)

-- 10 says that there is no room, and not why a call refuses
pub no-ten : (r : Refusal) → no_of r ≡ pos 10 → ⊥
no-ten refusal.NoKind e = omega (arith, ap nat_abs e)
no-ten refusal.TooFar e = omega (arith, ap nat_abs e)
no-ten refusal.SamePoints e = omega (arith, ap nat_abs e)
no-ten refusal.NoSide e = omega (arith, ap nat_abs e)
no-ten refusal.NoPoint e = omega (arith, ap nat_abs e)
no-ten refusal.WidePoint e = omega (arith, ap nat_abs e)
no-ten refusal.BytesEnd e = omega (arith, ap nat_abs e)
no-ten refusal.BadNumber e = omega (arith, ap nat_abs e)
no-ten refusal.BytesAfter e = omega (arith, ap nat_abs e)
no-ten refusal.TooMany e = omega (arith, ap nat_abs e)
no-ten refusal.NoObject e = omega (arith, ap nat_abs e)
no-ten refusal.ListLength e = omega (arith, ap nat_abs e)
no-ten refusal.NoTag e = omega (arith, ap nat_abs e)
no-ten refusal.TagLost e = omega (arith, ap nat_abs e)
no-ten refusal.NotGiven e = omega (arith, ap nat_abs e)

pub unfilled-one : (u v : Unfilled) → unfilled_no u ≡ unfilled_no v → needed u ≡ needed v → u ≡ v
unfilled-one (unfilled.Refused r) (unfilled.Refused s) e f = ap unfilled.Refused (no-one r s e)
unfilled-one (unfilled.Refused r) (unfilled.NoRoom n) e f = absurd (no-ten r e)
unfilled-one (unfilled.NoRoom n) (unfilled.Refused r) e f = absurd (no-ten r (sym e))
unfilled-one (unfilled.NoRoom n) (unfilled.NoRoom m) e f = ap unfilled.NoRoom f

-- no reason has the number 0
pub unfilled-zero : (u : Unfilled) → unfilled_no u ≡ pos 0 → ⊥
unfilled-zero (unfilled.Refused r) e = no-zero r e
unfilled-zero (unfilled.NoRoom n) e = omega (arith, ap nat_abs e)

pub refused-one : (r s : Result Unit Refusal) → refused_by r ≡ refused_by s → r ≡ s
refused-one (Ok a) (Ok b) e = refl
refused-one (Ok a) (Err r) e = absurd (no-zero r (sym e))
refused-one (Err r) (Ok b) e = absurd (no-zero r e)
refused-one (Err r) (Err s) e = ap Err (no-one r s e)

pub says-one :
    {A : Type 0} {numbers : A → List ℤ} → ((a b : A) → numbers a ≡ numbers b → a ≡ b) → (r s : Result A Refusal) → says numbers r ≡ says numbers s → r ≡ s
says-one {A} {numbers} one (Ok a) (Ok b) e = let e1 : numbers a ≡ numbers b = cc in ap Ok (one a b e1)
says-one {A} {numbers} one (Ok a) (Err s) e = let z : pos 0 ≡ no_of s = cc in absurd (no-zero s (sym z))
says-one {A} {numbers} one (Err r) (Ok b) e = let z : no_of r ≡ pos 0 = cc in absurd (no-zero r z)
says-one {A} {numbers} one (Err r) (Err s) e = let e1 : no_of r ≡ no_of s = cc in ap Err (no-one r s e1)

-- ---- a check, and what it is followed by

pub err-says : {n : ℤ} (r : Refusal) (values : List ℤ) → no_of r ≡ n → no_of r ∷ [] ≡ answer n values
err-says {n} r values e =
    let d : n ≡ pos 0 → ⊥ = λ z. no-zero r (e ∙ z) in
    ap (λ (z : ℤ). z ∷ []) e ∙ simp (ne-eq_z d)

pub ok-says : {n : ℤ} (values : List ℤ) → pos 0 ≡ n → pos 0 ∷ values ≡ answer n values
ok-says {n} values e = simp (eq-eq_z (sym e))

pub err-first : {n : ℤ} (r : Refusal) (m : ℤ) → no_of r ≡ n → no_of r ≡ or_else n m
err-first r m e = e ∙ sym (or-first m (λ z. no-zero r (e ∙ z)))

pub ok-next : {n : ℤ} (m : ℤ) → pos 0 ≡ n → or_else n m ≡ m
ok-next m e = or-next m (sym e)

-- ---- `?` hands a refusal on

pub refused-from : {A : Type 0} (e : Refusal) (r : Result A Refusal) → IsErrAnd r (λ y. y ≡ e) → refused_by r ≡ no_of e
refused-from e (Ok a) h = absurd h
refused-from e (Err y) h = ap no_of h

pub says-from :
    {A : Type 0} (numbers : A → List ℤ) (e : Refusal) (r : Result A Refusal) → IsErrAnd r (λ y. y ≡ e) → says numbers r ≡ no_of e ∷ []
says-from numbers e (Ok a) h = absurd h
says-from numbers e (Err y) h = ap (λ (r : Refusal). no_of r ∷ []) h

pub unfilled-from : {A : Type 0} (u : Unfilled) (r : Result A Unfilled) → IsErrAnd r (λ y. y ≡ u) → r ≡ Err u
unfilled-from u (Ok a) h = absurd h
unfilled-from u (Err y) h = ap Err h

-- ---- lent cells

module _ {A : Type 0} {n : ℤ} {result lent : List A} {size v : ℕ} where
  pub err-ends : (r : Refusal) → no_of r ≡ n → End n result lent size v (no_of r) 0 0 lent
  err-ends r e =
      let z = ne-eq_z {a = n} {b = pos 0} (λ y. no-zero r (e ∙ y)) in
      record { refusal = e ∙ sym (simp z); given = simp z; other = simp z; cells = simp z }

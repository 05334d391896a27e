-- The laws of answers. To cite:
--   refused, accepted           what `answer` says where the number is not 0, and where it is
--   says-refused, says-accepted the same from the code's test of a call's result
--   by_answer                   what holds of both things that an answer may be, each where its number says so, holds of the answer
--   not_refused                 a refusal is 0 where the code's test of a call's result finds 0
--   refused-first, refused-next   the first that finds something, from the code's test; what comes after one that finds nothing
--   object-one, point-one       no two objects, and no two points, have the same numbers
--   made_one, ends-one, signed-one, crossing-one   no two values of an answer say the same numbers
--   crossing-says               what two objects share as it is answered
--   crossing-met, met_by        an answer as what they share; and back
-- Assumes nothing.
use Rattle.std.specs.Prelude.{◌≡◌, refl, List, [], ◌∷◌, ℕ, ℤ, pos, Result}
use Rattle.std.proofs.Common.{sym, ◌∙◌, ap, subst, arith, SFits, of_z}
use Rattle.std.proofs.Math.IntN.{ℤ_discrete}
use Rattle.std.specs.Int.{w64}
use Rattle.whole.specs.Tests.{eq-eq_z, ne-eq_z, eq-left, out, out-is, Fit, fits-ok, lit-taken}
use Rattle.sheet.specs.declared.Object.{Object}
use Rattle.sheet.specs.declared.Point.{Point}
use Rattle.sheet.specs.declared.Ends.{Ends}
use Rattle.sheet.specs.declared.Crossing.{Crossing}
use Rattle.sheet.specs.declared.refusal.Refusal.{Refusal}
use Rattle.sheet.specs.declared.Crossing.TheVariants as crossing
use Rattle.sheet.specs.Points.{numbers}
use Rattle.whole.specs.Choice.{or_else}
use Rattle.whole.specs.ChoiceLaws.{or-first, or-next}
use Rattle.sheet.specs.Crossing.{Meeting, none, point, many}
use Rattle.sheet.specs.Answers.{answer, object_numbers, made_says, ends_numbers, ends_say, signed_says, meeting_numbers, crossing_numbers, crossing_says}
use Rattle.sheet.specs.RefusedLaws.{says-one}
use Rattle.sheet.specs.Meetings.{crossing_by, meeting_by}

pub accepted : {n : ℤ} (values : List ℤ) → n ≡ pos 0 → answer n values ≡ pos 0 ∷ values
accepted {n} values e = simp (eq-eq_z e)

pub refused : {n : ℤ} (values : List ℤ) → (n ≡ pos 0 → ⊥) → answer n values ≡ n ∷ []
refused {n} values d = simp (ne-eq_z d)

-- r is a call's result, and the code tests whether it is 0
pub says-refused :
    {r n : ℤ} (values : List ℤ) → SFits w64 r → r ≡ n → (of_z w64 r ≡ 0 → ⊥) → out r ∷ [] ≡ answer n values
says-refused {r} {n} values f e d =
    ap (λ (z : ℤ). z ∷ []) (out-is f ∙ e) ∙ sym (refused values (λ z. eq-left {x = r} {y = pos 0} d (e ∙ z)))

pub says-accepted :
    {r n : ℤ} (values : List ℤ) → SFits w64 r → r ≡ n → of_z w64 r ≡ 0 → pos 0 ∷ values ≡ answer n values
says-accepted values f e z = sym (accepted values (sym e ∙ lit-taken 0 tt f z))

pub not_refused : {r n : ℤ} → Fit r → r ≡ n → of_z w64 r ≡ 0 → n ≡ pos 0
not_refused {r} h e z = sym e ∙ lit-taken 0 tt (fits-ok r h) z

-- what says the same as `answer` is `given` where the number n is 0, and else `other`, which says n
pub by_answer :
    {A : Type 0} {says : A → List ℤ} (one : (r s : A) → says r ≡ says s → r ≡ s) (F : A → Type 0) {n : ℤ} {values : List ℤ} (given other : A)
    → says given ≡ pos 0 ∷ values → says other ≡ n ∷ [] → (n ≡ pos 0 → F given) → ((n ≡ pos 0 → ⊥) → F other)
    → (r : A) → says r ≡ answer n values → F r
by_answer one F {n} {values} given other f g h k r e = go (ℤ_discrete n (pos 0))
  where
    go : Dec (n ≡ pos 0) → F r
    go (yes z) = subst F (sym (one r given (e ∙ accepted values z ∙ sym f))) (h z)
    go (no d) = subst F (sym (one r other (e ∙ refused values d ∙ sym g))) (k d)

-- of several checks in turn: r, the result for n, is not 0; or it is 0, and what comes after it is left
pub refused-first : {r n : ℤ} (m : ℤ) → r ≡ n → (of_z w64 r ≡ 0 → ⊥) → r ≡ or_else n m
refused-first {r} {n} m e d = e ∙ sym (or-first m (λ z. eq-left {x = r} {y = pos 0} d (e ∙ z)))

pub refused-next : {r n : ℤ} (m : ℤ) → SFits w64 r → r ≡ n → of_z w64 r ≡ 0 → or_else n m ≡ m
refused-next m f e z = or-next m (sym e ∙ lit-taken 0 tt f z)

-- ---- no two values say the same

pub object-one : (a b : Object) → object_numbers a ≡ object_numbers b → a ≡ b
object-one a b e =
    let e1 : a.kind ≡ b.kind = cc in
    let e2 : a.px ≡ b.px = cc in
    let e3 : a.py ≡ b.py = cc in
    let e4 : a.qx ≡ b.qx = cc in
    let e5 : a.qy ≡ b.qy = cc in
    let e6 : a.tag ≡ b.tag = cc in
    λ i. record { kind = e1 i; px = e2 i; py = e3 i; qx = e4 i; qy = e5 i; tag = e6 i }

pub point-one : (a b : Point) → numbers a ≡ numbers b → a ≡ b
point-one a b e =
    let e1 : a.mx ≡ b.mx = cc in
    let e2 : a.nx ≡ b.nx = cc in
    let e3 : a.my ≡ b.my = cc in
    let e4 : a.ny ≡ b.ny = cc in
    let e5 : a.w ≡ b.w = cc in
    λ i. record { mx = e1 i; nx = e2 i; my = e3 i; ny = e4 i; w = e5 i }

pub made_one : (r s : Result Object Refusal) → made_says r ≡ made_says s → r ≡ s
made_one = says-one object-one

two-ends-one : (e f : Ends) → ends_numbers e ≡ ends_numbers f → e ≡ f
two-ends-one e f h =
    let e1 : numbers e.first ≡ numbers f.first = cc in
    let e2 : numbers e.last ≡ numbers f.last = cc in
    λ i. record { first = point-one e.first f.first e1 i; last = point-one e.last f.last e2 i }

pub ends-one : (r s : Result Ends Refusal) → ends_say r ≡ ends_say s → r ≡ s
ends-one = says-one two-ends-one

pub signed-one : (r s : Result ℤ Refusal) → signed_says r ≡ signed_says s → r ≡ s
signed-one = says-one (λ a b e. let e1 : a ≡ b = cc in e1)

pub share-one : (r s : Crossing) → crossing_numbers r ≡ crossing_numbers s → r ≡ s
share-one crossing.Nothing crossing.Nothing e = refl
share-one crossing.Nothing (crossing.Once q) e = let z : ◌≡◌ {A = ℕ} 0 1 = cc in absurd (omega arith)
share-one crossing.Nothing crossing.Many e = let z : ◌≡◌ {A = ℕ} 0 2 = cc in absurd (omega arith)
share-one (crossing.Once p) crossing.Nothing e = let z : ◌≡◌ {A = ℕ} 0 1 = cc in absurd (omega arith)
share-one (crossing.Once p) (crossing.Once q) e = let e1 : numbers p ≡ numbers q = cc in ap crossing.Once (point-one p q e1)
share-one (crossing.Once p) crossing.Many e = let z : ◌≡◌ {A = ℕ} 1 2 = cc in absurd (omega arith)
share-one crossing.Many crossing.Nothing e = let z : ◌≡◌ {A = ℕ} 0 2 = cc in absurd (omega arith)
share-one crossing.Many (crossing.Once q) e = let z : ◌≡◌ {A = ℕ} 1 2 = cc in absurd (omega arith)
share-one crossing.Many crossing.Many e = refl

pub crossing-one : (r s : Result Crossing Refusal) → crossing_says r ≡ crossing_says s → r ≡ s
crossing-one = says-one share-one

-- ---- a crossing as it is answered, and back

pub crossing-says : (m : Meeting) → crossing_numbers (crossing_by m) ≡ meeting_numbers m
crossing-says none = refl
crossing-says (point p) = refl
crossing-says many = refl

pub crossing-met : (m : Meeting) → meeting_by (crossing_by m) ≡ m
crossing-met none = refl
crossing-met (point p) = refl
crossing-met many = refl

pub met_by : (r : Crossing) (m : Meeting) → crossing_numbers r ≡ meeting_numbers m → meeting_by r ≡ m
met_by r m e = ap meeting_by (share-one r (crossing_by m) (e ∙ sym (crossing-says m))) ∙ crossing-met m

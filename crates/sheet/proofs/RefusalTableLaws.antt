-- The laws of the table of refusals. To cite:
--   one_of, one_more, split   one of some numbers; of one number more; the first of them, or one of the others
--   one-among                 one of numbers that are all among others is one of those
--   not-one                   no other number is
--   known-or, known-first     of several checks in turn, each of the table or 0, so is the first that finds something
--   known-object, known-point, known-order, known-turn, known-side-sign, known-circle, known-crossing, known-list, known-index,
--   known-room                what the definitions refuse by is of the table
--   refusal-in                what an answer refuses by
--   numbers-are               the numbers of the code's refusals are the table
-- Assumes nothing.
use Rattle.std.specs.Prelude.{◌≡◌, refl, ◌⊎◌, Bool, true, false, cond, not, ◌&&◌, ◌||◌, List, [], ◌∷◌, ◌++◌, ℕ, ◌%◌, eqb, ltb, ℤ, pos, nat_abs, length, map}
use Rattle.std.proofs.Common.{sym, ap, ◌∙◌, inl, inr, ⊎_elim, true≢false, eqb-true}
use Rattle.whole.specs.InTurnLaws.{turn-all}
use Rattle.whole.specs.Flag.{eq_z}
use Rattle.whole.specs.Tests.{cond-by, eq_z-true}
use Rattle.sheet.specs.declared.Object.{Object}
use Rattle.sheet.specs.declared.Point.{Point}
use Rattle.sheet.specs.Limits.{most, last_tag}
use Rattle.sheet.specs.Flags.{both, either}
use Rattle.sheet.specs.Refusal.{outside, any_beyond, equal, no_side, pair_refusal, side_refusal, refusal_of, tag_refusal, object_refusal}
use Rattle.sheet.specs.declared.refusal.Refusal.TheVariants as refusal
use Rattle.sheet.specs.declared.refusal.Unfilled.{Unfilled}
use Rattle.sheet.specs.declared.refusal.Unfilled.TheVariants as unfilled
use Rattle.sheet.specs.Refused.{unfilled_no}
use Rattle.sheet.specs.RefusalTable.{refusals, among, OneOf, Known}
use Rattle.sheet.specs.Points.{standard, is_point, narrow, point_refusal}
use Rattle.sheet.specs.Signs.{order_refusal, wide_refusal, turn_refusal, side_sign_refusal}
use Rattle.whole.specs.Choice.{or_else}
use Rattle.sheet.specs.Circle.{is_given, given_refusal, circle_refusal}
use Rattle.sheet.specs.Crossing.{crossing_refusal}
use Rattle.sheet.specs.Answers.{answer, refusal_in}
use Rattle.sheet.specs.Lists.{width, count_of, object_at, first_refusal, list_refusal, index_refusal}

-- ---- one of some numbers

pub one_of : {ms : List ℕ} (n : ℕ) → among n ms ≡ true → OneOf ms (pos n)
one_of n e = record { number = n; is = refl; one = e }

pub one_more : {m : ℕ} {ms : List ℕ} {z : ℤ} → OneOf ms z → OneOf (m ∷ ms) z
one_more {m} {ms} o = record { number = o.number; is = o.is; one = (either (eqb o.number m) (among o.number ms)).1 (inr o.one) }

-- the first of the numbers, or one of the others
pub split : {m : ℕ} {ms : List ℕ} {z : ℤ} → OneOf (m ∷ ms) z → (z ≡ pos m) ⊎ OneOf ms z
split {m} {ms} {z} o = go ((either (eqb o.number m) (among o.number ms)).0 o.one)
  where
    go : (eqb o.number m ≡ true) ⊎ (among o.number ms ≡ true) → (z ≡ pos m) ⊎ OneOf ms z
    go (inl e) = inl (o.is ∙ ap pos (eqb-true o.number m e))
    go (inr e) = inr (record { number = o.number; is = o.is; one = e })

-- each of some numbers is among others
abbrev all_among : List ℕ → List ℕ → Bool
all_among [] ns = true
all_among (m ∷ ms) ns = among m ns && all_among ms ns

pub one-among : (ms ns : List ℕ) {z : ℤ} → all_among ms ns ≡ true → OneOf ms z → OneOf ns z
one-among [] ns h o = absurd (true≢false (sym o.one))
one-among (m ∷ ms) ns {z} h o =
    let t = (both (among m ns) (all_among ms ns)).0 h in
    ⊎_elim (λ e. record { number = m; is = e; one = t.0 }) (λ o. one-among ms ns t.1 o) (split o)

pub not-one : {ms : List ℕ} (n : ℕ) → among n ms ≡ false → {z : ℤ} → OneOf ms z → z ≡ pos n → ⊥
not-one {ms} n h o e = true≢false (sym o.one ∙ ap (λ (k : ℕ). among k ms) (ap nat_abs (sym o.is ∙ e)) ∙ h)

-- ---- the definitions

pub known-or : (n m : ℤ) → Known n → Known m → Known (or_else n m)
known-or n m h k = cond-by Known (eq_z n (pos 0)) (λ e. k) (λ e. h)

pub known-first : (f : ℕ → ℤ) → ((i : ℕ) → Known (f i)) → (n : ℕ) → Known (first_refusal f n)
known-first f h n = turn-all Known or_else (pos 0) f (one_of 0 refl) known-or n (λ i k. h i)

known-pair : (px py qx qy : ℤ) → Known (pair_refusal px py qx qy)
unfolding pair_refusal
known-pair px py qx qy =
    cond-by Known (any_beyond px py qx qy) (λ e. one_of 2 refl) (λ e. cond-by Known (equal px py qx qy) (λ e. one_of 3 refl) (λ e. one_of 0 refl))

known-side : (n a b c : ℤ) → Known (side_refusal n a b c)
unfolding side_refusal
known-side n a b c = cond-by Known (no_side n a b c) (λ e. one_of 4 refl) (λ e. one_of 0 refl)

pub known-object : (o : Object) → Known (object_refusal o)
unfolding object_refusal
known-object o =
    known-or (refusal_of o.kind o.px o.py o.qx o.qy) (tag_refusal o.tag)
    (cond-by Known (outside (pos 1) (pos 4) o.kind) (λ e. one_of 1 refl)
    (λ e. cond-by Known (eq_z o.kind (pos 4)) (λ e. known-side o.px o.py o.qx o.qy) (λ e. known-pair o.px o.py o.qx o.qy)))
    (cond-by Known (outside (pos 0) last_tag o.tag) (λ e. one_of 15 refl) (λ e. one_of 0 refl))

pub known-point : (p : Point) → Known (point_refusal p)
unfolding point_refusal
known-point p = cond-by Known (is_point p) (λ e. one_of 0 refl) (λ e. one_of 5 refl)

pub known-order : (p q : Point) → Known (order_refusal p q)
unfolding order_refusal
known-order p q = known-or (point_refusal p) (point_refusal q) (known-point p) (known-point q)

pub known-turn : (p q s : Point) → Known (turn_refusal p q s)
unfolding turn_refusal
known-turn p q s =
    known-or (point_refusal p) _ (known-point p)
    (known-or (point_refusal q) _ (known-point q)
    (known-or (point_refusal s) (wide_refusal p q s) (known-point s)
    (cond-by Known (narrow p && narrow q && narrow s) (λ e. one_of 0 refl) (λ e. one_of 6 refl))))

pub known-side-sign : (o : Object) (s : Point) → Known (side_sign_refusal o s)
unfolding side_sign_refusal
known-side-sign o s = known-or (object_refusal o) (point_refusal s) (known-object o) (known-point s)

pub known-circle : (p q s u : Point) → Known (circle_refusal p q s u)
unfolding circle_refusal given_refusal
known-circle p q s u =
    known-or (point_refusal p) _ (known-point p)
    (known-or (point_refusal q) _ (known-point q)
    (known-or (point_refusal s) _ (known-point s)
    (known-or (point_refusal u) (given_refusal p q s u) (known-point u)
    (cond-by Known (is_given p && is_given q && is_given s && (is_given u || not (standard u))) (λ e. one_of 0 refl) (λ e. one_of 21 refl)))))

pub known-crossing : (a b : Object) → Known (crossing_refusal a b)
unfolding crossing_refusal
known-crossing a b = known-or (object_refusal a) (object_refusal b) (known-object a) (known-object b)

pub known-list : (l : List ℤ) → Known (list_refusal l)
unfolding list_refusal
known-list l =
    cond-by Known (eqb (length l % width) 0)
    (λ e. cond-by Known (ltb most (count_of l)) (λ e. one_of 11 refl)
    (λ e. known-first (λ i. object_refusal (object_at l i)) (λ i. known-object (object_at l i)) (count_of l)))
    (λ e. one_of 14 refl)

pub known-index : (l : List ℤ) (i : ℕ) → Known (index_refusal l i)
known-index l i = cond-by Known (ltb i (count_of l)) (λ e. one_of 0 refl) (λ e. one_of 13 refl)

-- what `room_refusal` (Lent) gives, by whether the lent cells are too short
pub known-room : (n : ℤ) (short : Bool) → Known n → Known (or_else n (cond short (pos 10) (pos 0)))
known-room n short h = known-or n _ h (cond-by Known short (λ e. one_of 10 refl) (λ e. one_of 0 refl))

-- ---- answers

pub refusal-in : (n : ℤ) (values : List ℤ) → refusal_in (answer n values) ≡ n
refusal-in n values = cond-by (λ (l : List ℤ). refusal_in l ≡ n) (eq_z n (pos 0)) (λ e. sym (eq_z-true e)) (λ e. refl)

-- ---- the code's refusals

-- why lent cells are not filled, each once and in the table's order
abbrev pub every : List Unfilled
every =
    map unfilled.Refused (refusal.NoKind ∷ refusal.TooFar ∷ refusal.SamePoints ∷ refusal.NoSide ∷ refusal.NoPoint ∷ refusal.WidePoint ∷ refusal.BytesEnd
    ∷ refusal.BadNumber ∷ refusal.BytesAfter ∷ [])
    ++ unfilled.NoRoom 0
    ∷ map unfilled.Refused (refusal.TooMany ∷ refusal.NoObject ∷ refusal.ListLength ∷ refusal.NoTag ∷ refusal.TagLost ∷ refusal.NotGiven ∷ [])

pub numbers-are : map unfilled_no every ≡ map pos refusals
numbers-are = refl

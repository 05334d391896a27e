-- Which numbers the public calls refuse by, of their contracts. To cite:
--   in-the-table       each refuses by a number of the table, or by 0, which is not to refuse
--   never, no-twelve   none refuses by a number that is not of the table, as 12
--   once-taken         the point that a crossing answers is a point: no call refuses it by 5
-- Assumes nothing.
use Rattle.std.specs.Prelude.{◌≡◌, refl, Bool, true, false, cond, List, [], ◌∷◌, ℕ, zero, suc, ◌+◌, ◌*◌, ltb, ℤ, pos, negsuc, ◌+ℤ◌, ◌-ℤ◌, length, Option, None, Some, Result, Ok, Err}
use Rattle.std.proofs.Common.{sym, ap, subst, ◌∙◌, ⊎_elim, true≢false, arith}
use Rattle.std.specs.Int.Signed.{lt_z}
use contract.Lifetimes.{Lfts}
use Rattle.std.specs.Borrow.{MutBor}
use Rattle.whole.specs.Flag.{eq_z}
use Rattle.whole.specs.Ring.{var, lit, ◌⊕◌, ◌⊖◌, ring}
use Rattle.whole.specs.Within.{Within}
use Rattle.whole.specs.Order.{lt-intro}
use Rattle.whole.specs.Tests.{cond-by, eq_z-true, lt-lt_z}
use Rattle.sheet.specs.declared.Object.{Object}
use Rattle.sheet.specs.declared.Point.{Point}
use Rattle.sheet.specs.declared.Crossing.TheVariants as crossing
use Rattle.sheet.specs.declared.refusal.Refusal.{Refusal}
use Rattle.sheet.specs.declared.refusal.Refusal.TheVariants as refusal
use Rattle.sheet.specs.declared.refusal.Unfilled.{Unfilled}
use Rattle.sheet.specs.declared.refusal.Unfilled.TheVariants as unfilled
use Rattle.sheet.specs.Refused.{no_of, refused_by, unfilled_no}
use Rattle.sheet.specs.RefusalTable.{refusals, among, Known}
use Rattle.sheet.proofs.RefusalTableLaws.{one_of, one-among, not-one, known-or, known-object, known-point, known-order, known-side-sign, known-circle, known-crossing, known-list, known-index, known-room, refusal-in}
use Rattle.sheet.specs.Points.{standard, point_refusal}
use Rattle.whole.specs.Choice.{or_else}
use Rattle.sheet.specs.Lists.{row_width, list_refusal, index_refusal}
use Rattle.sheet.specs.Answers.{answer, refusal_in, meeting_numbers, crossing_numbers}
use Rattle.sheet.specs.AnswersLaws.{accepted, met_by}
use Rattle.sheet.specs.AcceptsLaws.{cross-taken}
use Rattle.sheet.specs.Crossing.{crossing_of, crossing_refusal}
use Rattle.sheet.proofs.CrossingLaws.{crossing-is-point}
use Rattle.store.specs.Refusals.{of_bytes}
use Rattle.store.specs.declared.Form.{Form}
use Rattle.store.specs.declared.Form.TheVariants.{Old, New}
use Rattle.store.specs.Stored.{read_drawing, form_of, write_drawing, tags_refusal, write_refusal, move_refusal, moved}
use Rattle.store.proofs.TagsLaws.{tags-refused}
use Rattle.number.specs.Number.{Reading, read_number, number_of}
use Rattle.store.proofs.SureLaws.{Sure, Any, sure-number}
use Rattle.store.proofs.SureLaws as sure
use Rattle.store.specs.Answers.{read_answer, write_answer, move_answer, form_number}
use Rattle.listing.specs.Rows.{sharing_with, sharing}
use Rattle.listing.specs.Listing.{one_refusal}
use Rattle.screen.specs.Values.{Values, float_answer}
use Rattle.screen.specs.declared.SheetBox.{SheetBox}
use Rattle.screen.specs.Places.{place_of}
use Rattle.screen.specs.Boxes.{box_says}
use Rattle.trial.specs.declared.RowCounts.{RowCounts}
use Rattle.trial.specs.declared.TwoNumbers.{TwoNumbers}
use Rattle.trial.specs.declared.ThreeNumbers.{ThreeNumbers}
use Rattle.trial.specs.Numbers.{form_from, form_told}
use Rattle.trial.specs.declared.SixNumbers.{SixNumbers}
use Rattle.spot.specs.declared.TwoEnds.{TwoEnds}
use Rattle.spot.specs.declared.Answer.{Answer}
use Rattle.viewer.specs.SideIs.{of_side, SideIs, a_sign, a_refusal}
use Rattle.viewer.proofs.SideIsLaws.{side-answers}
use Rattle.viewer.specs.Calls.{side_answer}
use Rattle.store.proofs.SoundLaws.{bytes-refusal}
use Rattle.kernel.proofs.crossing.cross.Reads as cross
use Rattle.refusals.specs.Calls.{side_refusal_in, form_refusal_in, unfilled_by, Calls, Never}

-- ---- the code's refusals

known-no : (e : Refusal) → Known (no_of e)
known-no refusal.NoKind = one_of 1 refl
known-no refusal.TooFar = one_of 2 refl
known-no refusal.SamePoints = one_of 3 refl
known-no refusal.NoSide = one_of 4 refl
known-no refusal.NoPoint = one_of 5 refl
known-no refusal.WidePoint = one_of 6 refl
known-no refusal.BytesEnd = one_of 7 refl
known-no refusal.BadNumber = one_of 8 refl
known-no refusal.BytesAfter = one_of 9 refl
known-no refusal.TooMany = one_of 11 refl
known-no refusal.NoObject = one_of 13 refl
known-no refusal.ListLength = one_of 14 refl
known-no refusal.NoTag = one_of 15 refl
known-no refusal.TagLost = one_of 16 refl
known-no refusal.NotGiven = one_of 21 refl

-- of a call whose answer is a Result
known : {A : Type 0} (r : Result A Refusal) → Known (refused_by r)
known (Ok a) = one_of 0 refl
known (Err e) = known-no e

known-unfilled : (u : Unfilled) → Known (unfilled_no u)
known-unfilled (unfilled.Refused e) = known-no e
known-unfilled (unfilled.NoRoom n) = one_of 10 refl

-- of a call that fills lent cells
known-filled : {A : Type 0} (r : Result A Unfilled) → Known (unfilled_by r)
known-filled (Ok a) = one_of 0 refl
known-filled (Err u) = known-unfilled u

-- ---- an answer's numbers

-- by a struct that has their first
known-shown : {z : ℤ} (n : ℤ) (values : List ℤ) → Known n → z ≡ refusal_in (answer n values) → Known z
known-shown n values k e = subst Known (sym (e ∙ refusal-in n values)) k

-- with floats
told-refusal : (n : ℤ) (t : Values) → refusal_in t.wholes ≡ pos 0 → refusal_in (float_answer n t).wholes ≡ n
told-refusal n t h = cond-by (λ (u : Values). refusal_in u.wholes ≡ n) (eq_z n (pos 0)) (λ e. h ∙ sym (eq_z-true e)) (λ e. refl)

place-told : (p : Point) → refusal_in (place_of p).wholes ≡ pos 0
unfolding place_of
place-told p = cond-by (λ (t : Values). refusal_in t.wholes ≡ pos 0) (standard p) (λ e. refl) (λ e. refl)

box-told : (b : Option SheetBox) → refusal_in (box_says b).wholes ≡ pos 0
box-told None = refl
box-told (Some e) = refl

-- ---- with lent cells

-- the lent cells are too short for a result of this size
abbrev short : {A : Type 0} → MutBor (List A) → ℕ → Bool
short lent size = ltb (length lent.now) size

-- what a call says that refuses by n, or by 10 where they are
known-lent : {z : ℤ} (n : ℤ) (short : Bool) → Known n → z ≡ or_else n (cond short (pos 10) (pos 0)) → Known z
known-lent n short k e = subst Known (sym e) (known-room n short k)

known-one : (l : List ℤ) (i : ℕ) → Known (one_refusal l i)
known-one l i = known-or (list_refusal l) (index_refusal l i) (known-list l) (known-index l i)

-- ---- stored bytes

known_bytes : (bs : List ℕ) → Known (read_drawing bs).refusal
known_bytes bs = one-among (0 ∷ of_bytes) _ refl (bytes-refusal bs)

known_read : {z : ℤ} (bs : List ℕ) (lent : MutBor (List ℤ)) → z ≡ (read_answer (read_drawing bs) lent.now).refusal → Known z
unfolding read_answer
known_read bs lent e = known-lent _ (short lent (length (read_drawing bs).objects)) (known_bytes bs) e

known-tags : (f : Form) (l : List ℤ) → Known (tags_refusal f l)
known-tags f l = ⊎_elim (λ e. subst Known (sym e) (one_of 0 refl)) (λ e. subst Known (sym e) (one_of 16 refl)) (tags-refused l f)

known_written : {z : ℤ} (f : Form) (l : List ℤ) (lent : MutBor (List ℕ)) → z ≡ (write_answer f l lent.now).refusal → Known z
unfolding write_answer write_refusal
known_written f l lent e = known-lent _ (short lent (length (write_drawing f l))) (known-or _ _ (known-list l) (known-tags f l)) e

known-moved : {z : ℤ} (f : Form) (bs : List ℕ) (lent : MutBor (List ℕ)) → z ≡ (move_answer f bs lent.now).refusal → Known z
unfolding move_answer move_refusal
known-moved f bs lent e =
    known-lent _ (short lent (length (moved f bs))) (known-or _ _ (known_bytes bs) (known-tags f (read_drawing bs).objects)) e

number-known : (bs : List ℕ) → Known (number_of bs (read_number bs)).refusal
number-known bs = go (sure-number bs)
  where
    go : {r : Reading ℕ} → Sure Any bs r → Known (number_of bs r).refusal
    go (sure.read n front rest e h) = one_of 0 refl
    go (sure.refused n e) = one-among of_bytes _ refl (one_of n e)

-- ---- the viewer's side

sign-in : (r : ℤ) → Within 1 r → side_refusal_in r ≡ pos 0
sign-in (pos zero) h = refl
sign-in (pos (suc zero)) h = refl
sign-in (pos (suc (suc n))) h = absurd (omega (arith, h.within))
sign-in (negsuc zero) h = refl
sign-in (negsuc (suc n)) h = absurd (omega (arith, h.within))

-- behind the hundred stands the refusal
hundred-less : (n : ℕ) (other : ℤ) → cond (lt_z (pos 100) (pos 100 +ℤ pos (suc n))) (pos 100 +ℤ pos (suc n) -ℤ pos 100) other ≡ pos (suc n)
hundred-less n other =
    let above = lt-lt_z {a = pos 100} {b = pos (100 + suc n)} (lt-intro n refl) in
    simp above (ring (pos (suc n) ∷ []) (lit 100 ⊕ var 0 ⊖ lit 100) (var 0) tt)

refused_in : (n : ℕ) → among n of_side ≡ true → Known (side_refusal_in (pos 100 +ℤ pos n))
refused_in zero e = absurd (true≢false (sym e))
refused_in (suc n) e = subst Known (sym (hundred-less n _)) (one-among of_side _ refl (one_of (suc n) e))

side-known : (bs : List ℕ) (i x y : ℤ) → Known (side_refusal_in (side_answer bs i x y))
side-known bs i x y = go (side-answers bs i x y)
  where
    go : {r : ℤ} → SideIs (read_drawing bs) i x y r → Known (side_refusal_in r)
    go (a_sign e f w) = subst Known (sym (sign-in _ w)) (one_of 0 refl)
    go (a_refusal o e) =
        subst (λ (z : ℤ). Known (side_refusal_in z)) (sym (e ∙ ap (λ (z : ℤ). pos 100 +ℤ z) o.is)) (refused_in o.number o.one)

-- ---- which form

number_in : (f : Form) → Known (form_refusal_in (form_number f))
number_in Old = one_of 0 refl
number_in New = one_of 0 refl

told_in : (n : ℕ) → among n (0 ∷ of_bytes) ≡ true → eq_z (pos n) (pos 0) ≡ false → Known (form_refusal_in (pos 100 +ℤ pos n))
told_in zero e other = absurd (true≢false other)
told_in (suc n) e other = subst Known (sym (hundred-less n _)) (one-among (0 ∷ of_bytes) _ refl (one_of (suc n) e))

told-known : (bs : List ℕ) → Known (form_refusal_in (form_told bs))
told-known bs =
    let o = bytes-refusal bs in
    cond-by (λ (z : ℤ). Known (form_refusal_in z)) (eq_z (read_drawing bs).refusal (pos 0)) (λ _. number_in (form_of bs))
    (λ other. subst (λ (z : ℤ). Known (form_refusal_in (pos 100 +ℤ z))) (sym o.is)
    (told_in o.number o.one (ap (λ (z : ℤ). eq_z z (pos 0)) (sym o.is) ∙ other)))

-- ---- the calls

calls : (P : ℤ → Type 0) → ((z : ℤ) → Known z → P z) → Calls P
calls P f = record {
  of_segment = λ κs a r e. f _ (known r);
  of_ray = λ κs a r e. f _ (known r);
  of_line = λ κs a r e. f _ (known r);
  of-side = λ κs a r e. f _ (known r);
  of_check_object = λ κs o r e. f _ (known r);
  of_check_list = λ κs l r e. f _ (known r);
  of_check_point = λ κs p r e. f _ (known r);
  of_ends_of = λ κs o r e. f _ (known r);
  of_order_points = λ κs p q r e. f _ (known r);
  of_turn_points = λ κs p q s r e. f _ (known r);
  of_side_of_circle = λ κs p q s u r e. f _ (known r);
  of_side_of = λ κs o s r e. f _ (known r);
  of_cross = λ κs a b r e. f _ (known r);
  of_cross_kept = λ κs a b joints r e. f _ (known r);
  of_read_number = λ κs bytes r e. f _ (known r);
  of_check_drawing = λ κs bytes r e. f _ (known r);
  of_read_drawing = λ κs bytes out after r e. f _ (known-filled r);
  of_form_of = λ κs bytes r e. f _ (known r);
  of_write_drawing = λ κs form list out after r e. f _ (known-filled r);
  of_move_drawing = λ κs bytes form out after r e. f _ (known-filled r);
  of_step = λ κs bytes place r e. f _ (known r.item);
  of_next = λ κs reader r x e. f _ (known r.item);
  of_list_one = λ κs list i joints out after r e. f _ (known-filled r);
  of_list_all = λ κs list joints out after r e. f _ (known-filled r);
  of_list_near = λ κs list joints out after r e. f _ (known-filled r);
  of_put_rows = λ κs rows out after r e. f _ (known-filled r);
  of_put_objects = λ κs n out after r e. f _ (known-filled r);
  of_put_count = λ κs n out after r e. f _ (known-filled r);
  of_put_refused = λ κs n out after r e. f _ (known-filled r);
  of_place_of = λ κs p r e. f _ (known r);
  of_box_of = λ κs l r e. f _ (known r);
  of_viewer_check = λ κs bytes r e. f _ (subst Known (sym e) (known_bytes bytes.now));
  of_viewer_side = λ κs bytes i x y r e. f _ (subst (λ (z : ℤ). Known (side_refusal_in z)) (sym e) (side-known bytes.now i x y));
  of_trial_list = λ κs list joints out after r e.
      f _ (known-lent _ (short out (sharing joints list.now * row_width)) (known-list list.now) (ap (λ (x : RowCounts). x.refusal) e.0));
  of_trial_near = λ κs list joints out after r e.
      f _ (known-lent _ (short out (sharing joints list.now * row_width)) (known-list list.now) (ap (λ (x : RowCounts). x.refusal) e.0));
  of_trial_one = λ κs list i joints out after r e.
      f _ (known-lent _ (short out (sharing_with joints list.now i * row_width)) (known-one list.now i) (ap (λ (x : RowCounts). x.refusal) e.0));
  of_trial_read = λ κs bytes out after r e. f _ (known_read bytes.now out e.0);
  of_trial_write = λ κs form list out after r e. f _ (known_written (form_from form) list.now out e.0);
  of_trial_form = λ κs bytes r e. f _ (subst (λ (z : ℤ). Known (form_refusal_in z)) (sym e) (told-known bytes.now));
  of_trial_move = λ κs bytes form out after r e. f _ (known-moved (form_from form) bytes.now out (ap (λ (x : TwoNumbers). x.refusal) e.0));
  of_trial_number = λ κs bytes r e. f _ (subst Known (sym (ap (λ (x : ThreeNumbers). x.refusal) e)) (number-known bytes.now));
  of_trial_place = λ κs a r e. f _ (subst Known (sym (ap (λ (x : SixNumbers). x.refusal) e ∙ told-refusal _ _ (place-told _))) (known-point _));
  of_trial_box = λ κs l r e. f _ (subst Known (sym (ap (λ (x : SixNumbers). x.refusal) e ∙ told-refusal _ _ (box-told _))) (known-list l.now));
  of_spot_ends = λ κs o r e. f _ (known-shown _ _ (known-object o) (ap (λ (x : TwoEnds). x.refusal) e));
  of_spot_order = λ κs p q r e. f _ (known-shown _ _ (known-order p q) (ap (λ (x : Answer). x.refusal) e));
  of_spot_side = λ κs o s r e. f _ (known-shown _ _ (known-side-sign o s) (ap (λ (x : Answer). x.refusal) e));
  of_spot_cross = λ κs a b r e. f _ (known-shown _ _ (known-crossing a b) (ap (λ (x : Answer). x.refusal) e));
  of_spot_circle = λ κs p q s u r e. f _ (known-shown _ _ (known-circle p q s u) (ap (λ (x : Answer). x.refusal) e));
}

-- "one of the numbered refusals"
pub in-the-table : Calls Known
in-the-table = calls Known (λ z k. k)

pub never : (n : ℕ) → among n (0 ∷ refusals) ≡ false → Never n
never n h = calls (λ z. z ≡ pos n → ⊥) (λ z k. not-one n h k)

-- "take the refusal out of the calls and the table. The number is not used again"
pub no-twelve : Never 12
no-twelve = never _ refl

-- ---- the point of a crossing, of the code

pub once-taken : (κs : Lfts 0) (a b : Object) (e : Point) → cross.Post κs (a, (b, tt)) (Ok (crossing.Once e)) (a, (b, tt)) → point_refusal e ≡ pos 0
unfolding point_refusal
once-taken κs a b e h =
    let z : crossing_refusal a b ≡ pos 0 = sym (refusal-in (crossing_refusal a b) (meeting_numbers (crossing_of a b))) ∙ sym (ap refusal_in h) in
    let taken = cross-taken a b z in
    let said : pos 0 ∷ crossing_numbers (crossing.Once e) ≡ pos 0 ∷ meeting_numbers (crossing_of a b) = h ∙ accepted _ z in
    let same : crossing_numbers (crossing.Once e) ≡ meeting_numbers (crossing_of a b) = cc in
    let found = met_by (crossing.Once e) (crossing_of a b) same in
    simp (crossing-is-point taken.0 taken.1 (sym found))

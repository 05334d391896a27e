-- Demand 2 on bytes, for each form: "An accepted stored drawing read and written again has the same bytes; a drawing written and read again has
-- the same objects in the same order, first point first." To cite:
--   read-written   what was written is read as it was
--   form-written   and has the form in which it was written
--   read-list      what was read is an accepted list
--   read_taken     and is not refused for writing in the form that the bytes have
--   written_read   and written in that form it has the same bytes
--   same_bytes     two drawings of one form with the same objects have the same bytes
-- Assumes nothing.
use Rattle.std.specs.Prelude.{◌≡◌, refl, Bool, true, false, cond, List, [], ◌∷◌, ◌++◌, ℕ, zero, suc, ◌*◌, ◌<◌, ◌≤◌, ltb, eqb, ℤ, pos, length, drop}
use Rattle.std.proofs.Common.{sym, subst, ◌∙◌, append_assoc, arith, le-ltb, ne_eqb, eqb-true, length-drop}
use Rattle.std.proofs.Math.Path.{ap}
use Rattle.whole.specs.InTurn.{in_turn}
use Rattle.whole.specs.Tests.{eq_z-false}
use Rattle.sheet.specs.declared.Object.{Object}
use Rattle.sheet.specs.Limits.{most}
use Rattle.sheet.specs.Answers.{object_numbers}
use Rattle.sheet.specs.Lists.{width, count_of, object_at, list_refusal}
use Rattle.sheet.specs.ListsLaws.{listable, is-listable, object-next, numbers-first}
use Rattle.number.specs.Number.{Reading, got, next, checked, write_number, Bytes}
use Rattle.number.proofs.TripLaws.{behind-bytes, From, from, not, from-checked, number-back, number-from}
use Rattle.store.specs.declared.Form.{Form}
use Rattle.store.specs.declared.Form.TheVariants.{Old, New}
use Rattle.store.specs.Forms.{mark, write_mark}
use Rattle.store.specs.Stored.{Drawing, head_of, head_in, before, and_then, counted, form_in, write_object, write_objects, write_drawing, write_refusal, read_object, read_objects, read_form, read_count, read_head, read_drawing, form_of}
use Rattle.store.specs.declared.reading.Head.{Head}
use Rattle.store.proofs.SureLaws.{Sure, not-nought, Fits, sure-fits, sure-head}
use Rattle.store.proofs.SureLaws as sure
use Rattle.store.proofs.TagsLaws.{Keeps, kept-taken, taken-kept}
use Rattle.store.proofs.ObjectsLaws.{objects-length}
use Rattle.store.specs.ListLaws.{objects-first}
use Rattle.store.proofs.ObjectTrip.{object-back, object-from}

abbrev taken : List ℤ → Drawing
taken l = record { objects = l; refusal = pos 0 }

-- the first n objects of a list are accepted, and the form keeps their tags
abbrev Each : Form → ℕ → List ℤ → Type 0
Each f n l = (i : ℕ) → i < n → Fits f (object_at l i)

-- ---- written, and then read

objects-back : (f : Form) (n : ℕ) (l : List ℤ) → length l ≡ n * width → Each f n l → read_objects f n (write_objects f n l) ≡ taken l
unfolding read_objects in_turn
objects-back f zero [] e h = refl
objects-back f zero (a ∷ l) e h = absurd (omega arith)
objects-back f (suc n) l e h =
    let o = object_at l 0 in
    let rest = drop width l in
    let behind : Each f n rest = λ i k. subst (Fits f) (sym (object-next l i)) (h (suc i) (omega arith)) in
    ap (λ (bs : List ℕ). and_then (read_object f bs) (λ rest. read_objects f n rest)) (objects-first f n l)
    ∙ ap (λ (r : Reading Object). and_then r (λ rest. read_objects f n rest)) (object-back f o (write_objects f n rest) (h 0 (omega arith)))
    ∙ ap (before o) (objects-back f n rest (omega (arith, length-drop width l)) behind)
    ∙ ap taken (numbers-first l (omega arith))

head-back : (f : Form) (n : ℕ) (rest : List ℕ) → n ≤ most → read_head (write_mark f ++ (write_number n ++ rest)) ≡ got (head_of f n) rest
unfolding read_head read_form read_count write_mark
head-back Old n rest h =
    let count : n ≡ mark → ⊥ = λ e. omega arith in
    simp (number-back n rest (omega arith), ne_eqb n mark count, le-ltb most n h)
head-back New n rest h =
    simp (number-back mark (write_number n ++ rest) (omega arith), number-back n rest (omega arith), le-ltb most n h)

module _ (f : Form) (l : List ℤ) where
  head-written : list_refusal l ≡ pos 0 → read_head (write_drawing f l) ≡ got (head_of f (count_of l)) (write_objects f (count_of l) l)
  unfolding write_drawing
  head-written h = head-back f (count_of l) (write_objects f (count_of l) l) (listable l h).few

  pub read-written : write_refusal f l ≡ pos 0 → read_drawing (write_drawing f l) ≡ taken l
  unfolding read_drawing
  read-written h =
      let k = taken-kept l f h in
      let g = listable l k.0 in
      ap counted (head-written k.0) ∙ objects-back f (count_of l) l (sym g.whole) (λ i b. (g.each i b, k.1.each i b))

  pub form-written : list_refusal l ≡ pos 0 → form_of (write_drawing f l) ≡ f
  unfolding form_of
  form-written h = ap form_in (head-written h)

-- ---- read, and then written

each_next : (f : Form) (o : Object) (n : ℕ) (l : List ℤ) → Fits f o → Each f n l → Each f (suc n) (object_numbers o ++ l)
each_next f o n l p h zero k = p
each_next f o n l p h (suc i) k = subst (Fits f) (object-next (object_numbers o ++ l) i) (h i (omega arith))

objects-each : (f : Form) (n : ℕ) (bs : List ℕ) → (read_objects f n bs).refusal ≡ pos 0 → Each f n (read_objects f n bs).objects
unfolding read_objects
objects-each f zero bs e = λ i k. absurd (omega arith)
objects-each f (suc n) bs e = go (sure-fits f bs) (objects-each f n) e
  where
    go : {r : Reading Object} → Sure (Fits f) bs r
        → ((rest : List ℕ) → (read_objects f n rest).refusal ≡ pos 0 → Each f n (read_objects f n rest).objects)
        → (and_then r (λ rest. read_objects f n rest)).refusal ≡ pos 0 → Each f (suc n) (and_then r (λ rest. read_objects f n rest)).objects
    go (sure.read o front rest _ p) behind e = each_next f o n (read_objects f n rest).objects p (behind rest e)
    go (sure.refused m z) behind e = absurd (eq_z-false (not-nought m z) e)

-- an accepted list whose tags a form keeps
record Held (f : Form) (l : List ℤ) : Type 0 where
  list : list_refusal l ≡ pos 0
  keeps : Keeps f l

read_held : (bs : List ℕ) → (read_drawing bs).refusal ≡ pos 0 → Held (form_of bs) (read_drawing bs).objects
unfolding read_drawing form_of
read_held bs e = go (sure-head bs) e
  where
    go : {r : Reading Head} → Sure (λ h. h.count ≤ most) bs r → (counted r).refusal ≡ pos 0 → Held (form_in r) (counted r).objects
    go (sure.read h front rest _ p) e =
        let l = (read_objects h.form h.count rest).objects in
        let k = objects-each h.form h.count rest e in
        let long = objects-length h.form h.count rest e in
        let count : count_of l ≡ h.count = omega arith in
        record {
          list = is-listable l (record { whole = omega arith; few = omega arith; each = λ i b. (k i (omega arith)).0 });
          keeps = record { each = λ i b. (k i (omega arith)).1 };
        }
    go (sure.refused m z) e = absurd (eq_z-false (not-nought m z) e)

module _ (bs : List ℕ) (e : (read_drawing bs).refusal ≡ pos 0) where
  pub read-list : list_refusal (read_drawing bs).objects ≡ pos 0
  read-list = (read_held bs e).list

  pub read_taken : write_refusal (form_of bs) (read_drawing bs).objects ≡ pos 0
  read_taken = let k = read_held bs e in kept-taken (read_drawing bs).objects (form_of bs) k.list k.keeps

objects-from :
    (f : Form) (n : ℕ) (bs : List ℕ) → Bytes bs → (read_objects f n bs).refusal ≡ pos 0 → write_objects f n (read_objects f n bs).objects ≡ bs
unfolding read_objects in_turn
objects-from f zero [] h e = refl
objects-from f zero (b ∷ bs) h e = absurd (eq_z-false {a = pos 9} {b = pos 0} refl e)
objects-from f (suc n) bs h e = go (object-from f bs h) (sure-fits f bs) (objects-from f n) e
  where
    go : {r : Reading Object} → From (write_object f) bs r → Sure (Fits f) bs r
        → ((rest : List ℕ) → Bytes rest → (read_objects f n rest).refusal ≡ pos 0 → write_objects f n (read_objects f n rest).objects ≡ rest)
        → (and_then r (λ rest. read_objects f n rest)).refusal ≡ pos 0
        → write_objects f (suc n) (and_then r (λ rest. read_objects f n rest)).objects ≡ bs
    go (from o rest x) s behind e =
        let l = (read_objects f n rest).objects in
        objects-first f n (object_numbers o ++ l)
        ∙ ap (λ (bs : List ℕ). write_object f o ++ bs) (behind rest (behind-bytes (write_object f o) x h) e)
        ∙ sym x
    go (not n) (sure.refused m z) behind e = absurd (eq_z-false (not-nought m z) e)

form-from : (bs : List ℕ) → Bytes bs → From write_mark bs (read_form bs)
unfolding read_form write_mark
form-from bs h = go (number-from bs h)
  where
    go : {r : Reading ℕ} → From write_number bs r → From write_mark bs (next r (λ n rest. cond (eqb n mark) (got New rest) (got Old bs)))
    go (not n) = not n
    go (from n rest e) = second (eqb n mark) (eqb-true n mark)
      where
        second : (t : Bool) → (t ≡ true → n ≡ mark) → From write_mark bs (cond t (got New rest) (got Old bs))
        second true y = from New rest (e ∙ ap (λ (k : ℕ). write_number k ++ rest) (y refl))
        second false y = from Old bs refl

count-from : (bs : List ℕ) → Bytes bs → From write_number bs (read_count bs)
unfolding read_count
count-from bs h = go (number-from bs h)
  where
    go : {r : Reading ℕ} → From write_number bs r → From write_number bs (next r (λ n rest. checked (ltb most n) (pos 11) n rest))
    go (not n) = not n
    go (from n rest e) = from-checked (ltb most n) (pos 11) n rest e

abbrev write_head : Head → List ℕ
write_head h = write_mark h.form ++ write_number h.count

head-from : (bs : List ℕ) → Bytes bs → From write_head bs (read_head bs)
unfolding read_head
head-from bs h = go (form-from bs h)
  where
    second : (f : Form) (rest : List ℕ) → bs ≡ write_mark f ++ rest → {r : Reading ℕ} → From write_number rest r
        → From write_head bs (next r (λ n rest. got (head_of f n) rest))
    second f rest e (not n) = not n
    second f rest e (from n rest' g) =
        from (head_of f n) rest' (e ∙ ap (λ (l : List ℕ). write_mark f ++ l) g ∙ sym (append_assoc (write_mark f) (write_number n) rest'))

    go : {r : Reading Form} → From write_mark bs r → From write_head bs (next r (λ f rest. head_in f rest))
    go (not n) = not n
    go (from f rest e) = second f rest e (count-from rest (behind-bytes (write_mark f) e h))

pub written_read : (bs : List ℕ) → Bytes bs → (read_drawing bs).refusal ≡ pos 0 → write_drawing (form_of bs) (read_drawing bs).objects ≡ bs
unfolding read_drawing write_drawing form_of
written_read bs h e = go (head-from bs h) (sure-head bs) e
  where
    go : {r : Reading Head} → From write_head bs r → Sure (λ h. h.count ≤ most) bs r → (counted r).refusal ≡ pos 0
        → write_drawing (form_in r) (counted r).objects ≡ bs
    go (from t rest g) s e =
        let f = t.form in
        let n = t.count in
        let l = (read_objects f n rest).objects in
        let long = objects-length f n rest e in
        let count : count_of l ≡ n = omega arith in
        (λ i. write_mark f ++ (write_number (count i) ++ write_objects f (count i) l))
        ∙ ap (λ (x : List ℕ). write_mark f ++ (write_number n ++ x)) (objects-from f n rest (behind-bytes (write_head t) g h) e)
        ∙ sym (append_assoc (write_mark f) (write_number n) rest)
        ∙ sym g
    go (not n) (sure.refused m z) e = absurd (eq_z-false (not-nought m z) e)

-- "two drawings with the same objects have the same bytes", where they have one form
pub same_bytes :
    (a b : List ℕ) → Bytes a → Bytes b → (read_drawing a).refusal ≡ pos 0 → (read_drawing b).refusal ≡ pos 0 → form_of a ≡ form_of b
    → (read_drawing a).objects ≡ (read_drawing b).objects → a ≡ b
same_bytes a b p q x y g e = sym (written_read a p x) ∙ (λ i. write_drawing (g i) (e i)) ∙ written_read b q y

-- What calling a reader again and again gives. To cite:
--   calls-give   call number k of a reader gives the object number k of the drawing; after the last, always the end or the refusal
--   keeps        "end and refusal keep its place, so the next call says the same"
--   item-one     no two items say the same numbers
-- Assumes nothing.
use Rattle.std.specs.Prelude.{◌≡◌, refl, Bool, true, false, cond, List, ◌++◌, ℕ, zero, suc, ◌+◌, ◌*◌, ◌<◌, ◌≤◌, ltb, ℤ, pos, length, drop}
use Rattle.std.proofs.Common.{sym, ap, ◌∙◌, arith, lt-ltb, le-ltb, ltb-true, ltb-false, length-append, length-drop, drop-drop, drop_at}
use Rattle.sheet.specs.declared.Object.{Object}
use Rattle.sheet.specs.Answers.{object_numbers}
use Rattle.sheet.specs.AnswersLaws.{object-one}
use Rattle.sheet.specs.Limits.{most}
use Rattle.sheet.specs.Refusal.{Accepted}
use Rattle.sheet.specs.Lists.{width}
use Rattle.sheet.specs.ListsLaws.{object-next}
use Rattle.store.specs.declared.Bookmark.{Bookmark}
use Rattle.store.specs.Reader.{Item, One, End, Refused, Step}
use Rattle.number.specs.Number.{Reading, got, no}
use Rattle.store.specs.declared.Form.{Form}
use Rattle.store.specs.Stored.{Drawing, refused, before, and_then, counted, read_object, read_objects, read_head, read_drawing}
use Rattle.store.specs.declared.reading.Head.{Head}
use Rattle.store.specs.Reader.{start_place, rest_begins, step_to, step_object, step_from, step_head, step_of, call_from, end_of, item_of, item_says}
use Rattle.store.proofs.SureLaws.{Sure, not-nought, sure-object, sure-head}
use Rattle.store.proofs.SureLaws as sure
use Rattle.store.proofs.ObjectsLaws.{objects-end, objects-over}
use Rattle.store.specs.StepLaws.{first_call, step-in}

-- ---- the items of a drawing

item-none : (n : ℤ) (k : ℕ) → item_of (refused n) k ≡ end_of n
unfolding item_of
item-none n k = simp (le-ltb (k * width) 0 (omega arith))

item-first : (o : Object) (d : Drawing) → item_of (before o d) 0 ≡ One o
unfolding item_of
item-first o d = simp (lt-ltb 0 (length (object_numbers o ++ d.objects)) (omega arith))

shift : (a b : ℕ) → ltb (width + a) (width + b) ≡ ltb a b
shift a b = go (ltb a b) (ltb-true a b) (ltb-false a b)
  where
    go : (t : Bool) → (t ≡ true → a < b) → (t ≡ false → b ≤ a) → ltb (width + a) (width + b) ≡ t
    go true y m = let h = y refl in lt-ltb (width + a) (width + b) (omega arith)
    go false y m = let h = m refl in le-ltb (width + a) (width + b) (omega arith)

item-next : (o : Object) (d : Drawing) (k : ℕ) → item_of (before o d) (suc k) ≡ item_of d k
unfolding item_of
item-next o d k =
    let l = d.objects in
    let row = object_numbers o in
    let wide : suc k * width ≡ width + k * width = omega arith in
    let long : length (row ++ l) ≡ width + length l = omega (arith, length-append row l) in
    let test : ltb (suc k * width) (length (row ++ l)) ≡ ltb (k * width) (length l) = (λ i. ltb (wide i) (long i)) ∙ shift (k * width)
    (length l) in
    λ i. cond (test i) (One (sym (object-next (row ++ l) k) i)) (end_of d.refusal)

-- ---- calls

-- a call that keeps the place says the same for ever
stays : (bs : List ℕ) (p : Bookmark) (i : Item) → step_of bs p ≡ step_to i p → (k : ℕ) → call_from bs p k ≡ i
unfolding call_from
stays bs p i e zero = ap (λ (s : Step). s.item) e
stays bs p i e (suc k) = ap (λ (s : Step). call_from bs s.place k) e ∙ stays bs p i e k

call_next : (bs : List ℕ) (p : Bookmark) (k : ℕ) → call_from bs p (suc k) ≡ call_from bs (step_of bs p).place k
unfolding call_from
call_next bs p k = refl

-- where the rest begins
rest_at : (bs front rest : List ℕ) (at : ℕ) → at ≤ length bs → drop at bs ≡ front ++ rest
    → (rest_begins bs rest ≤ length bs) × (drop (rest_begins bs rest) bs ≡ rest)
rest_at bs front rest at h e =
    let long = ap length e ∙ length-append front rest in
    let place : rest_begins bs rest ≡ at + length front = omega (arith, length-drop at bs) in (
      omega arith,
      ap (λ (k : ℕ). drop k bs) place ∙ sym (drop-drop (length front) at bs) ∙ ap (drop (length front)) e ∙ drop_at front rest
          (length front) refl,
    )

runs :
    (f : Form) (left : ℕ) (bs : List ℕ) (at : ℕ) (p : Bookmark) → at ≤ length bs → step_of bs p ≡ step_from bs p f left at → (k : ℕ)
    → call_from bs p k ≡ item_of (read_objects f left (drop at bs)) k
unfolding step_from read_objects
runs f zero bs at p h e k = go (ltb at (length bs)) (ltb-true at (length bs)) (ltb-false at (length bs)) e
  where
    go : (t : Bool) → (t ≡ true → at < length bs) → (t ≡ false → length bs ≤ at) → step_of bs p ≡ step_to (cond t (Refused (pos 9)) End) p
        → call_from bs p k ≡ item_of (read_objects f 0 (drop at bs)) k
    go true y m e =
        let l = y refl in
        stays bs p (Refused (pos 9)) e k
        ∙ sym (ap (λ (d : Drawing). item_of d k) (objects-over f (drop at bs) (omega (arith, length-drop at bs))) ∙ item-none (pos 9) k)
    go false y m e =
        let l = m refl in
        stays bs p End e k
        ∙ sym (ap (λ (d : Drawing). item_of d k) (objects-end f (drop at bs) (omega (arith, length-drop at bs))) ∙ item-none (pos 0) k)
runs f (suc left) bs at p h e k = go (sure-object f (drop at bs)) (runs f left bs) e k
  where
    go : {r : Reading Object} → Sure Accepted (drop at bs) r
        → ((at : ℕ) (p : Bookmark) → at ≤ length bs → step_of bs p ≡ step_from bs p f left at → (k : ℕ)
        → call_from bs p k ≡ item_of (read_objects f left (drop at bs)) k)
        → step_of bs p ≡ step_object bs p f left r → (k : ℕ) → call_from bs p k ≡ item_of (and_then r (λ rest. read_objects f left rest)) k
    go (sure.refused n z) more e k = stays bs p (Refused (pos n)) e k ∙ sym (item-none (pos n) k ∙ simp (not-nought n z))
    go (sure.read o front rest g a) more e zero =
        sym (first_call bs p) ∙ ap (λ (s : Step). s.item) e ∙ sym (item-first o (read_objects f left rest))
    go (sure.read o front rest g a) more e (suc k) =
        let there = rest_at bs front rest at h g in
        let on : Bookmark = record { begun = true; form = f; left = left; at = rest_begins bs rest } in
        call_next bs p k
        ∙ ap (λ (s : Step). call_from bs s.place k) e
        ∙ more (rest_begins bs rest) on there.0 (step-in bs on refl) k
        ∙ ap (λ (l : List ℕ). item_of (read_objects f left l) k) there.1
        ∙ sym (item-next o (read_objects f left rest) k)

-- "calling it again and again gives exactly the objects of the drawing in order and then end, or the objects before the refusal and then
-- that refusal"
pub calls-give : (bs : List ℕ) (k : ℕ) → call_from bs start_place k ≡ item_of (read_drawing bs) k
unfolding read_drawing step_of
calls-give bs k = go (sure-head bs) refl
  where
    go : {r : Reading Head} → Sure (λ h. h.count ≤ most) bs r → step_of bs start_place ≡ step_head bs start_place r → call_from bs start_place k ≡ item_of (counted r) k
    go (sure.refused n z) e = stays bs start_place (Refused (pos n)) e k ∙ sym (item-none (pos n) k ∙ simp (not-nought n z))
    go (sure.read h front rest g a) e =
        let there = rest_at bs front rest 0 (omega arith) g in
        runs h.form h.count bs (rest_begins bs rest) start_place there.0 e k
        ∙ ap (λ (l : List ℕ). item_of (read_objects h.form h.count l) k) there.1

-- ---- the end and a refusal

kept : (bs : List ℕ) (p : Bookmark) (f : Form) (left : ℕ) (r : Reading Object)
    → ((o : Object) → (step_object bs p f left r).item ≡ One o → ⊥) → (step_object bs p f left r).place ≡ p
kept bs p f left (got o rest) h = absurd (h o refl)
kept bs p f left (no n) h = refl

kept_from : (bs : List ℕ) (p : Bookmark) (f : Form) (left at : ℕ) → ((o : Object) → (step_from bs p f left at).item ≡ One o → ⊥)
    → (step_from bs p f left at).place ≡ p
unfolding step_from
kept_from bs p f zero at h = refl
kept_from bs p f (suc left) at h = kept bs p f left (read_object f (drop at bs)) h

kept-head : (bs : List ℕ) (p : Bookmark) (r : Reading Head) → ((o : Object) → (step_head bs p r).item ≡ One o → ⊥)
    → (step_head bs p r).place ≡ p
kept-head bs p (got h rest) g = kept_from bs p h.form h.count (rest_begins bs rest) g
kept-head bs p (no n) h = refl

pub keeps : (bs : List ℕ) (p : Bookmark) → ((o : Object) → (step_of bs p).item ≡ One o → ⊥) → (step_of bs p).place ≡ p
unfolding step_of
keeps bs p h = go p.begun h
  where
    go : (t : Bool) → ((o : Object) → (cond t (step_from bs p p.form p.left p.at) (step_head bs p (read_head bs))).item ≡ One o → ⊥)
        → (cond t (step_from bs p p.form p.left p.at) (step_head bs p (read_head bs))).place ≡ p
    go true h = kept_from bs p p.form p.left p.at h
    go false h = kept-head bs p (read_head bs) h

-- ---- no two items say the same

pub item-one : (a b : Item) → item_says a ≡ item_says b → a ≡ b
item-one (One o) (One p) e = let f : object_numbers o ≡ object_numbers p = cc in ap One (object-one o p f)
item-one (One o) End e = let z : ◌≡◌ {A = ℕ} 0 1 = cc in absurd (omega arith)
item-one (One o) (Refused n) e = let z : ◌≡◌ {A = ℕ} 0 1 = cc in absurd (omega arith)
item-one End (One p) e = let z : ◌≡◌ {A = ℕ} 0 1 = cc in absurd (omega arith)
item-one End End e = refl
item-one End (Refused n) e = let z : ◌≡◌ {A = ℕ} 0 1 = cc in absurd (omega arith)
item-one (Refused n) (One p) e = let z : ◌≡◌ {A = ℕ} 0 1 = cc in absurd (omega arith)
item-one (Refused n) End e = let z : ◌≡◌ {A = ℕ} 0 1 = cc in absurd (omega arith)
item-one (Refused n) (Refused m) e = let f : n ≡ m = cc in ap Refused f

-- How far a drawing reaches into its bytes. To cite:
--   no_longer           no drawing is longer than the longest of its form
--   beginning-decides   and by their beginning: `longest` bytes and one more give the same objects and the same refusal, in either form
--   write-no-longer     what is written in a form is no longer than its longest
--   longest-most        no form's longest is longer than `longest`
--   longest-reached     and a drawing of each form is as long as that
--   large-beyond, large-outside   what more than two groups hold is no coordinate; what is past a range is outside of it
-- Assumes nothing.
use Rattle.std.specs.Prelude.{◌≡◌, refl, Bool, true, false, ◌||◌, List, [], ◌∷◌, ◌++◌, ltb, eqb, ℤ, pos, negsuc, ◌+ℤ◌, ◌-ℤ◌, length, take, drop}
use Rattle.std.proofs.Common.{sym, ap, subst, ◌∙◌, arith, ltb-true, ltb-false, lt-ltb, eqb-true, take-append-drop, take_all, length-take-le}
use Rattle.std.proofs.Math.Bool.{cond}
use Prim.Native.Nat.{ℕ, zero, suc, ◌+◌, ◌*◌, ◌<◌, ◌≤◌}
use Rattle.whole.specs.InTurn.{in_turn}
use Rattle.whole.specs.Tests.{eq_z-false}
use Rattle.sheet.specs.declared.Object.{Object}
use Rattle.sheet.specs.Figure.{vec, Vec}
use Rattle.sheet.specs.Limits.{most, last_tag}
use Rattle.sheet.specs.Refusal.{outside, beyond, equal, pair_refusal, object_refusal, Accepted}
use Rattle.sheet.specs.Lists.{width, count_of, object_at}
use Rattle.sheet.specs.ListsLaws.{is-listable, object-next}
use Rattle.number.specs.Number.{limit, groups_of, bytes_of, zigzag, Reading, got, no, next, checked, unzigzag}
use Rattle.number.specs.ZigzagLaws.{zigzag-unzigzag}
use Rattle.number.proofs.SameLaws.{Same, on, off, same_next, same-checked, same_cond, same-weak, SameNumber, same_number, same-take}
use Rattle.number.proofs.SameLaws as same
use Rattle.store.specs.declared.Form.{Form}
use Rattle.store.specs.declared.Form.TheVariants.{Old, New}
use Rattle.store.specs.Forms.{mark, write_mark, untagged, write_tag, read_tag, nought, origin_of, mark_most, head_most, tag_most, object_most, longest_of, longest}
use Rattle.store.specs.Stored.{Drawing, head_of, head_in, and_then, counted, before, form_in, write_drawing, write_refusal, read_coordinate, side_object, read_side, read_point, read_to, read_pair, read_shape, read_tagged, read_object, read_objects, read_form, read_count, read_head, read_drawing, form_of, write_shape, write_object, write_objects}
use Rattle.store.specs.declared.reading.Head.{Head}
use Rattle.store.proofs.SureLaws.{Sure, kept_old, kept_new, Fits, not-nought, sure-point, sure-object, sure-head}
use Rattle.store.proofs.TagsLaws.{kept-taken, taken-kept}
use Rattle.store.proofs.SureLaws as sure
use Rattle.store.specs.ListLaws.{objects-first}
use Rattle.store.specs.Trip.{back, stored-small, InReach, near-nought, near-origin}
use Rattle.store.proofs.StoredLaws.{read-written, form-written}

-- ---- numbers that are refused where they take more bytes

-- what more than two groups hold is no coordinate
pub large-beyond : (start : ℤ) → beyond start ≡ false → (n : ℕ) → limit 2 ≤ n → beyond (start +ℤ unzigzag n) ≡ true
large-beyond start h n l = go (beyond (start +ℤ unzigzag n)) refl
  where
    go : (b : Bool) → beyond (start +ℤ unzigzag n) ≡ b → b ≡ true
    go true e = refl
    go false e =
        let small = stored-small start (start +ℤ unzigzag n) h e in
        let is : zigzag (start +ℤ unzigzag n -ℤ start) ≡ n = ap zigzag (back start (unzigzag n)) ∙ zigzag-unzigzag n in
        absurd (omega arith)

pub large-outside : (lo hi n : ℕ) → hi < n → outside (pos lo) (pos hi) (pos n) ≡ true
large-outside lo hi n h = go (ltb n lo)
  where
    go : (b : Bool) → (b || ltb hi n) ≡ true
    go true = refl
    go false = lt-ltb hi n h

-- ---- objects

-- what was read has P
same-sure :
    {A B : Type 0} {P : A → Type 0} (j k : ℕ) {bs t : List ℕ} {r r' : Reading A} (f : A → List ℕ → Reading B) → j + k < length bs
    → Same j bs t r r' → Sure P bs r → ((a : A) (rest : List ℕ) → P a → k < length rest → Same k rest t (f a rest) (f a (rest ++ t)))
    → Same (j + k) bs t (next r f) (next r' f)
same-sure j k {bs} {t} f h (off n) u s = off n
same-sure {A} {B} {P} j k {bs} {t} f h (on a rest l) (sure.read _ front _ e p) s = go (s a rest p (omega arith))
  where
    go : {r r' : Reading B} → Same k rest t r r' → Same (j + k) bs t r r'
    go (off n) = off n
    go (on b rest' m) = on b rest' (omega arith)

same-coordinate :
    (start : ℤ) (bs t : List ℕ) → beyond start ≡ false → 2 < length bs → Same 2 bs t (read_coordinate start bs) (read_coordinate start (bs ++ t))
unfolding read_coordinate
same-coordinate start bs t k h =
    same-take 1 0 (pos 2) bs t (λ n rest. checked (beyond (start +ℤ unzigzag n)) (pos 2) (start +ℤ unzigzag n) rest) h (omega arith)
    (λ n l rest. simp (large-beyond start k n l))
    (λ n rest l. same-checked (beyond (start +ℤ unzigzag n)) (pos 2) (start +ℤ unzigzag n) rest t)

same_point : (start : Vec) (bs t : List ℕ) → InReach start → 4 < length bs → Same 4 bs t (read_point start bs) (read_point start (bs ++ t))
unfolding read_point
same_point start bs t k h =
    same_next 2 2 (λ x rest. next (read_coordinate start.y rest) (λ y rest. got (vec x y) rest)) h
    (same-coordinate start.x bs t k.in_x (omega arith))
    (λ x rest l. same_next 2 0 (λ y rest. got (vec x y) rest) l (same-coordinate start.y rest t k.in_y l)
    (λ y rest l. on (vec x y) rest (omega arith)))

same-side : (tag : ℤ) (bs t : List ℕ) → 8 < length bs → Same 8 bs t (read_side tag bs) (read_side tag (bs ++ t))
unfolding read_side
same-side tag bs t h =
    same-weak {j = 1} (omega arith)
    (same-take 0 0 (pos 4) bs t (λ n rest. checked (outside (pos 1) (pos 4) (pos n)) (pos 4) (side_object tag (pos n)) rest)
    (omega arith) (omega arith) (λ n l rest. simp (large-outside 1 4 n (omega arith)))
    (λ n rest l. same-checked (outside (pos 1) (pos 4) (pos n)) (pos 4) (side_object tag (pos n)) rest t))

same_tag : (f : Form) (bs t : List ℕ) → 3 < length bs → Same (tag_most f) bs t (read_tag f bs) (read_tag f (bs ++ t))
unfolding read_tag
same_tag Old bs t h = on untagged bs (omega arith)
same_tag New bs t h =
    same-take 2 0 (pos 15) bs t (λ n rest. checked (outside (pos 0) last_tag (pos n)) (pos 15) (pos n) rest) (omega arith) (omega arith)
    (λ n l rest. simp (large-outside 0 2000000 n (omega arith)))
    (λ n rest l. same-checked (outside (pos 0) last_tag (pos n)) (pos 15) (pos n) rest t)

module _ (f : Form) where
  module _ (kind : ℕ) (tag : ℤ) where
    same-to : (p : Vec) (bs t : List ℕ) → InReach p → 4 < length bs → Same 4 bs t (read_to f kind tag p bs) (read_to f kind tag p (bs ++ t))
    unfolding read_to
    same-to p bs t k h =
        same_next 4 0 _ h (same_point (origin_of f p) bs t (near-origin f k) h)
        (λ q rest l. same-checked (equal p.x p.y q.x q.y) (pos 3) _ rest t)

    same-pair : (bs t : List ℕ) → 8 < length bs → Same 8 bs t (read_pair f kind tag bs) (read_pair f kind tag (bs ++ t))
    unfolding read_pair
    same-pair bs t h =
        same-sure 4 4 (λ p rest. read_to f kind tag p rest) h (same_point nought bs t near-nought (omega arith)) (sure-point nought bs)
        (λ p rest k l. same-to p rest t (record { in_x = k.0; in_y = k.1 }) l)

    same_shape : (bs t : List ℕ) → 8 < length bs → Same 8 bs t (read_shape f kind tag bs) (read_shape f kind tag (bs ++ t))
    unfolding read_shape
    same_shape bs t h = same_cond (eqb kind 4) (same-side tag bs t h) (same-pair bs t h)

  same-tagged : (kind : ℕ) (bs t : List ℕ) → tag_most f + 8 < length bs → Same (tag_most f + 8) bs t (read_tagged f kind bs) (read_tagged f kind (bs ++ t))
  same-tagged kind bs t h =
      same_next (tag_most f) 8 (λ tag rest. read_shape f kind tag rest) h (same_tag f bs t (omega arith)) (λ tag rest l. same_shape kind tag rest t l)

  -- a kind that is taken stands in one byte
  same_object : (bs t : List ℕ) → object_most f < length bs → Same (object_most f) bs t (read_object f bs) (read_object f (bs ++ t))
  unfolding read_object
  same_object bs t h =
      same-weak {j = suc 0 + (tag_most f + 8)} (omega arith)
      (same-take 0 (tag_most f + 8) (pos 1) bs t
      (λ kind rest. cond (outside (pos 1) (pos 4) (pos kind)) (no (pos 1)) (read_tagged f kind rest)) (omega arith) (omega arith)
      (λ n l rest. simp (large-outside 1 4 n (omega arith)))
      (λ kind rest l. same_cond (outside (pos 1) (pos 4) (pos kind)) (off (pos 1)) (same-tagged kind rest t l)))

-- ---- drawings

-- reading more bytes than n objects can take: a refusal, and the same with more bytes behind
record Over (f : Form) (n : ℕ) (bs t : List ℕ) : Type 0 where
  over : (read_objects f n bs).refusal ≡ pos 0 → ⊥
  same : read_objects f n (bs ++ t) ≡ read_objects f n bs

objects-longer : (f : Form) (n : ℕ) (bs t : List ℕ) → n * object_most f < length bs → Over f n bs t
unfolding read_objects
objects-longer f zero [] t h = absurd (omega arith)
objects-longer f zero (b ∷ bs) t h = record { over = eq_z-false {a = pos 9} {b = pos 0} refl; same = refl }
objects-longer f (suc n) bs t h =
    let k = go (same_object f bs t (omega arith)) (sure-object f bs) (objects-longer f n) in record { over = k.0; same = k.1 }
  where
    go : {r r' : Reading Object} → Same (object_most f) bs t r r' → Sure Accepted bs r → ((rest t : List ℕ) → n * object_most f < length rest → Over f n rest t)
        → ((and_then r (λ rest. read_objects f n rest)).refusal ≡ pos 0 → ⊥)
        × (and_then r' (λ rest. read_objects f n rest) ≡ and_then r (λ rest. read_objects f n rest))
    go (off n) (sure.refused m z) more = (eq_z-false (not-nought m z), refl)
    go (on o rest l) s more = let k = more rest t (omega arith) in (k.over, ap (before o) k.same)

-- what stands before the objects, of bytes and of them with others behind, by its form
data SameForm (bs t : List ℕ) : Reading Form → Reading Form → Type 0 where
  marked : (f : Form) (rest : List ℕ) → length bs ≤ length rest + mark_most f → SameForm bs t (got f rest) (got f (rest ++ t))
  unread : (n : ℤ) → SameForm bs t (no n) (no n)

same-form : (bs t : List ℕ) → 2 < length bs → SameForm bs t (read_form bs) (read_form (bs ++ t))
unfolding read_form
same-form bs t h = go (same_number bs t (omega arith))
  where
    go : {r r' : Reading ℕ} → SameNumber bs t r r'
        → SameForm bs t (next r (λ n rest. cond (eqb n mark) (got New rest) (got Old bs)))
        (next r' (λ n rest. cond (eqb n mark) (got New rest) (got Old (bs ++ t))))
    go (same.refused z) = unread z
    go (same.taken n rest few) = second (eqb n mark) (eqb-true n mark)
      where
        second : (c : Bool) → (c ≡ true → n ≡ mark) → SameForm bs t (cond c (got New rest) (got Old bs)) (cond c (got New (rest ++ t)) (got Old (bs ++ t)))
        second true y = let e = y refl in marked New rest (omega (arith, few 1 (omega arith)))
        second false y = marked Old bs (omega arith)

same_count : (bs t : List ℕ) → 2 < length bs → Same 2 bs t (read_count bs) (read_count (bs ++ t))
unfolding read_count
same_count bs t h =
    same-take 1 0 (pos 11) bs t (λ n rest. checked (ltb most n) (pos 11) n rest) h (omega arith)
    (λ n l rest. simp (lt-ltb most n (omega arith)))
    (λ n rest l. same-checked (ltb most n) (pos 11) n rest t)

data SameHead (bs t : List ℕ) : Reading Head → Reading Head → Type 0 where
  behind : (h : Head) (rest : List ℕ) → length bs ≤ length rest + head_most h.form → SameHead bs t (got h rest) (got h (rest ++ t))
  unread : (n : ℤ) → SameHead bs t (no n) (no n)

-- the sizes of each form, worked out
mark-few : (f : Form) → mark_most f ≤ 2
mark-few Old = omega arith
mark-few New = omega arith

objects-fit : (f : Form) (n long rest : ℕ) → n ≤ most → longest_of f < long → long ≤ rest + head_most f → n * object_most f < rest
objects-fit Old n long rest few h l = omega arith
objects-fit New n long rest few h l = omega arith

head-fits : (f : Form) (long : ℕ) → longest_of f < long → 4 < long
head-fits Old long h = omega arith
head-fits New long h = omega arith

pub longest-most : (f : Form) → longest_of f ≤ longest
longest-most Old = omega arith
longest-most New = omega arith

same_head : (bs t : List ℕ) → 4 < length bs → SameHead bs t (read_head bs) (read_head (bs ++ t))
unfolding read_head
same_head bs t h = go (same-form bs t (omega arith))
  where
    second : (f : Form) (rest : List ℕ) → length bs ≤ length rest + mark_most f → {r r' : Reading ℕ} → Same 2 rest t r r'
        → SameHead bs t (next r (λ n rest. got (head_of f n) rest)) (next r' (λ n rest. got (head_of f n) rest))
    second f rest l (off n) = unread n
    second f rest l (on n rest' m) = behind (head_of f n) rest' (omega arith)

    go : {r r' : Reading Form} → SameForm bs t r r' → SameHead bs t (next r (λ f rest. head_in f rest)) (next r' (λ f rest. head_in f rest))
    go (SameForm.unread n) = SameHead.unread n
    go (marked f rest l) = second f rest l (same_count rest t (omega (arith, mark-few f)))

drawing-longer :
    (bs t : List ℕ) → longest_of (form_of bs) < length bs → ((read_drawing bs).refusal ≡ pos 0 → ⊥) × (read_drawing (bs ++ t) ≡ read_drawing bs)
unfolding read_drawing form_of
drawing-longer bs t h = go (same_head bs t (head-fits (form_of bs) (length bs) h)) (sure-head bs) h
  where
    go : {r r' : Reading Head} → SameHead bs t r r' → Sure (λ h. h.count ≤ most) bs r → longest_of (form_in r) < length bs
        → ((counted r).refusal ≡ pos 0 → ⊥) × (counted r' ≡ counted r)
    go (SameHead.unread n) (sure.refused m z) h = (eq_z-false (not-nought m z), refl)
    go (behind t' rest l) (sure.read _ front _ e few) h =
        let k = objects-longer t'.form t'.count rest t (objects-fit t'.form t'.count (length bs) (length rest) few h l) in
        (k.over, k.same)

-- "no drawing is longer than its largest length"
pub no_longer : (bs : List ℕ) → (read_drawing bs).refusal ≡ pos 0 → length bs ≤ longest_of (form_of bs)
no_longer bs e =
    let m = longest_of (form_of bs) in
    go (ltb m (length bs)) (ltb-true m (length bs)) (ltb-false m (length bs))
  where
    go : (t : Bool) → (t ≡ true → longest_of (form_of bs) < length bs) → (t ≡ false → length bs ≤ longest_of (form_of bs))
        → length bs ≤ longest_of (form_of bs)
    go true y m = absurd ((drawing-longer bs [] (y refl)).0 e)
    go false y m = m refl

-- "reading a prefix of that length and one byte more gives the same refusal"
pub beginning-decides : (bs : List ℕ) → read_drawing (take (longest + 1) bs) ≡ read_drawing bs
beginning-decides bs = go (ltb longest (length bs)) (ltb-true longest (length bs)) (ltb-false longest (length bs))
  where
    start : List ℕ
    start = take (longest + 1) bs

    go : (t : Bool) → (t ≡ true → longest < length bs) → (t ≡ false → length bs ≤ longest) → read_drawing start ≡ read_drawing bs
    go true y m =
        let h = y refl in
        sym
        (ap read_drawing (sym (take-append-drop (longest + 1) bs))
        ∙ (drawing-longer start (drop (longest + 1) bs)
        (omega (arith, longest-most (form_of start), length-take-le (longest + 1) bs (omega arith)))).1)
    go false y m = let h = m refl in ap read_drawing (take_all (longest + 1) bs (omega arith))

pub write-no-longer : (f : Form) (l : List ℤ) → write_refusal f l ≡ pos 0 → length (write_drawing f l) ≤ longest_of f
write-no-longer f l e =
    subst (λ (g : Form). length (write_drawing f l) ≤ longest_of g) (form-written f l (taken-kept l f e).0)
    (no_longer (write_drawing f l) (ap (λ (d : Drawing). d.refusal) (read-written f l e)))

-- ---- the largest length is reached

-- a tag that takes as many bytes as the form has for one
abbrev long_tag : Form → ℤ
long_tag Old = untagged
long_tag New = last_tag

-- segments from (2000, 2000) to (-2000, -2000)
unfoldable pub long_segments : Form → ℕ → List ℤ
long_segments f zero = []
long_segments f (suc n) = pos 1 ∷ pos 2000 ∷ pos 2000 ∷ negsuc 1999 ∷ negsuc 1999 ∷ long_tag f ∷ long_segments f n

segments-many : (f : Form) (n : ℕ) → length (long_segments f n) ≡ n * width
unfolding long_segments
segments-many f zero = refl
segments-many f (suc n) = omega (arith, segments-many f n)

segment-fits : (f : Form) → Fits f (record { kind = pos 1; px = pos 2000; py = pos 2000; qx = negsuc 1999; qy = negsuc 1999; tag = long_tag f })
unfolding object_refusal pair_refusal
segment-fits Old = (record { accepted = refl }, kept_old refl)
segment-fits New = (record { accepted = refl }, kept_new)

segments-taken : (f : Form) (n i : ℕ) → i < n → Fits f (object_at (long_segments f n) i)
unfolding long_segments
segments-taken f zero i h = absurd (omega arith)
segments-taken f (suc n) zero h = segment-fits f
segments-taken f (suc n) (suc i) h = subst (Fits f) (object-next (long_segments f (suc n)) i) (segments-taken f n i (omega arith))

segments-long : (f : Form) (n : ℕ) → length (write_objects f n (long_segments f n)) ≡ n * object_most f
unfolding long_segments in_turn write_object write_shape write_tag groups_of bytes_of
segments-long Old zero = refl
segments-long New zero = refl
segments-long Old (suc n) = omega (arith, segments-long Old n, ap length (objects-first Old n (long_segments Old (suc n))))
segments-long New (suc n) = omega (arith, segments-long New n, ap length (objects-first New n (long_segments New (suc n))))

drawing-long : (f : Form) → count_of (long_segments f most) ≡ most → length (write_drawing f (long_segments f most)) ≡ longest_of f
unfolding write_drawing write_mark groups_of bytes_of
drawing-long Old count = simp count (omega (arith, segments-long Old most))
drawing-long New count = simp count (omega (arith, segments-long New most))

pub longest-reached : (f : Form) → (write_refusal f (long_segments f most) ≡ pos 0) × (length (write_drawing f (long_segments f most)) ≡ longest_of f)
longest-reached f =
    let l = long_segments f most in
    let many = segments-many f most in
    let count : count_of l ≡ most = omega arith in
    let fine = is-listable l (record { whole = omega arith; few = omega arith; each = λ i h. (segments-taken f most i (omega arith)).0 }) in
    (kept-taken l f fine (record { each = λ i h. (segments-taken f most i (omega arith)).1 }), drawing-long f count)

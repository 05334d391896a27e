-- Drawings moved from form to form, and what a reader of document 01's form alone says of them. To cite:
--   move-writes     an accepted drawing is refused for moving as its objects are for writing
--   move-refused, moved-accepted   an accepted drawing is refused for moving by nothing or by 16; and what is not refused is accepted
--   few-numbers     how many numbers the objects of an accepted drawing have at most
--   move_new, move-old   to the new form it is refused by nothing, to the old one by nothing exactly where its tags are all 0
--   own-taken, own-kept   moved to the form that it has it is not refused, and keeps its bytes
--   moved-form, moved-objects   what was moved has the form that was asked for, and the same objects with the same tags
--   back-taken, back-same   moved back it is not refused, and has the bytes that it had
--   moved-no-longer   what is moved is no longer than a drawing can be
--   one_form        no bytes are a drawing of both forms
--   as_before, old-refuses   an old reader reads as it is read here, or meets 11; and 11 where the bytes have the new form
--   old-accepts, old-reads   what it accepts has the old form and is read as before; and a drawing of the old form is read by it
-- Assumes nothing.
use Rattle.std.specs.Prelude.{◌≡◌, refl, ◌⊎◌, ◌↔◌, Bool, true, false, cond, List, ℕ, ◌*◌, ◌≤◌, ltb, eqb, ℤ, pos, length}
use Rattle.std.proofs.Math.Path.{sym, ap}
use Rattle.std.proofs.Common.{subst, ◌∙◌, inl, inr, ⊎_elim, arith, eqb-true}
use Rattle.whole.specs.Choice.{or_else}
use Rattle.whole.specs.Tests.{eq_z-false}
use Rattle.whole.specs.ChoiceLaws.{or-next, or-zero}
use Rattle.sheet.specs.Limits.{most}
use Rattle.sheet.specs.Lists.{width, list_refusal}
use Rattle.sheet.specs.ListsLaws.{listable}
use Rattle.number.specs.Number.{Reading, got, no, next, Bytes, checked, read_number}
use Rattle.store.specs.declared.Form.{Form}
use Rattle.store.specs.declared.Form.TheVariants.{Old, New}
use Rattle.store.specs.Forms.{mark, longest}
use Rattle.store.specs.Stored.{Drawing, head_of, head_in, refused, counted, form_in, Untagged, tags_refusal, write_drawing, write_refusal, read_form, read_count, read_head, read_drawing, old_reader, form_of, move_refusal, moved}
use Rattle.store.specs.declared.reading.Head.{Head}
use Rattle.store.proofs.TagsLaws.{kept-tags, tags-kept, untagged-kept, kept-untagged, new-keeps, tags-refused}
use Rattle.store.proofs.StoredLaws.{read-written, form-written, read-list, read_taken, written_read}
use Rattle.store.proofs.SureLaws.{Sure, not-nought, sure-count}
use Rattle.store.proofs.SureLaws as sure
use Rattle.store.proofs.LongestLaws.{longest-most, write-no-longer}

module _ (bs : List ℕ) (h : (read_drawing bs).refusal ≡ pos 0) where
  -- the objects that are read
  abbrev objects : List ℤ
  objects = (read_drawing bs).objects

  -- what an accepted drawing is refused for moving by
  of-tags : (f : Form) → move_refusal f bs ≡ tags_refusal f objects
  unfolding move_refusal
  of-tags f = or-next _ h

  pub move-writes : (f : Form) → write_refusal f objects ≡ move_refusal f bs
  unfolding write_refusal
  move-writes f = or-next _ (read-list bs h) ∙ sym (of-tags f)

  pub few-numbers : length objects ≤ most * width
  few-numbers = let l = listable objects (read-list bs h) in omega (arith, l.whole, l.few)

  pub move-refused : (f : Form) → (move_refusal f bs ≡ pos 0) ⊎ (move_refusal f bs ≡ pos 16)
  move-refused f = ⊎_elim (λ e. inl (of-tags f ∙ e)) (λ e. inr (of-tags f ∙ e)) (tags-refused objects f)

  -- "Given room, an accepted old drawing always goes to new"
  pub move_new : move_refusal New bs ≡ pos 0
  move_new = of-tags New ∙ kept-tags objects New (new-keeps objects)

  -- "and an accepted new one goes to old exactly when all tags are 0"
  pub move-old : (move_refusal Old bs ≡ pos 0) ↔ Untagged objects
  move-old = (
    λ e. kept-untagged objects (tags-kept objects Old (sym (of-tags Old) ∙ e)),
    λ a. of-tags Old ∙ kept-tags objects Old (untagged-kept objects a),
  )

  -- "A drawing moved to the form it already has keeps its bytes"
  pub own-taken : move_refusal (form_of bs) bs ≡ pos 0
  own-taken = sym (move-writes (form_of bs)) ∙ read_taken bs h

  pub own-kept : Bytes bs → moved (form_of bs) bs ≡ bs
  unfolding moved
  own-kept b = written_read bs b h

  module _ (f : Form) (fine : move_refusal f bs ≡ pos 0) where
    pub moved-form : form_of (moved f bs) ≡ f
    unfolding moved
    moved-form = form-written f objects (read-list bs h)

    pub moved-objects : read_drawing (moved f bs) ≡ read_drawing bs
    unfolding moved
    moved-objects = read-written f objects (move-writes f ∙ fine) ∙ (λ i. record { objects = objects; refusal = sym h i })

    -- "There and back gives the same bytes"
    pub back-taken : move_refusal (form_of bs) (moved f bs) ≡ pos 0
    unfolding move_refusal
    back-taken = ap (λ (d : Drawing). or_else d.refusal (tags_refusal (form_of bs) d.objects)) moved-objects ∙ own-taken

    pub back-same : Bytes bs → moved (form_of bs) (moved f bs) ≡ bs
    unfolding moved
    back-same b = ap (λ (d : Drawing). write_drawing (form_of bs) d.objects) moved-objects ∙ written_read bs b h

-- what is moved was accepted
pub moved-accepted : (bs : List ℕ) (f : Form) → move_refusal f bs ≡ pos 0 → (read_drawing bs).refusal ≡ pos 0
unfolding move_refusal
moved-accepted bs f e = (or-zero (read_drawing bs).refusal (tags_refusal f (read_drawing bs).objects) e).0

pub moved-no-longer : (f : Form) (bs : List ℕ) → move_refusal f bs ≡ pos 0 → length (moved f bs) ≤ longest
unfolding moved
moved-no-longer f bs e =
    omega (arith, write-no-longer f (read_drawing bs).objects (move-writes bs (moved-accepted bs f e) f ∙ e), longest-most f)

-- ---- one form

apart : Old ≡ New → ⊥
apart e = let z : ◌≡◌ {A = ℕ} 0 1 = ap number e in omega arith
  where
    number : Form → ℕ
    number Old = 0
    number New = 1

pub one_form : (l m : List ℤ) → list_refusal l ≡ pos 0 → list_refusal m ≡ pos 0 → write_drawing Old l ≡ write_drawing New m → ⊥
one_form l m h k e = apart (sym (form-written Old l h) ∙ ap form_of e ∙ form-written New m k)

-- ---- an old reader

-- what is found before the objects, and what an old reader finds there
data Found : Reading Head → Reading Head → Type 0 where
  same : (r : Reading Head) → form_in r ≡ Old → Found r r
  many : (rest : List ℕ) → Found (head_in New rest) (no (pos 11))

found : (bs : List ℕ) → Found (read_head bs) (head_in Old bs)
unfolding read_head read_form read_count
found bs = go (read_number bs) refl
  where
    -- what an old reader finds, by the first number
    first : Reading ℕ → Reading Head
    first r = next (next r (λ n rest. checked (ltb most n) (pos 11) n rest)) (λ n rest. got (head_of Old n) rest)

    old : (r : Reading ℕ) → form_in (next r (λ n rest. got (head_of Old n) rest)) ≡ Old
    old (got n rest) = refl
    old (no n) = refl

    go : (r : Reading ℕ) → read_number bs ≡ r
        → Found (next (next r (λ n rest. cond (eqb n mark) (got New rest) (got Old bs))) (λ f rest. head_in f rest)) (head_in Old bs)
    go (no n) e = subst (Found (no n)) (sym (ap first e)) (same (no n) refl)
    go (got n rest) e = second (eqb n mark) (eqb-true n mark)
      where
        second : (t : Bool) → (t ≡ true → n ≡ mark)
            → Found (next (cond t (got New rest) (got Old bs)) (λ f rest. head_in f rest)) (head_in Old bs)
        second true y =
            let eleven : head_in Old bs ≡ no (pos 11) = ap first e ∙ ap (λ (k : ℕ). first (got k rest)) (y refl) in
            subst (Found (head_in New rest)) (sym eleven) (many rest)
        second false y = same (head_in Old bs) (old (read_count bs))

pub as_before : (bs : List ℕ) → (old_reader bs ≡ read_drawing bs) ⊎ (old_reader bs ≡ refused (pos 11))
unfolding read_drawing old_reader
as_before bs = go (found bs)
  where
    go : {r s : Reading Head} → Found r s → (counted s ≡ counted r) ⊎ (counted s ≡ refused (pos 11))
    go (same r d) = inl refl
    go (many rest) = inr refl

pub old-refuses : (bs : List ℕ) → form_of bs ≡ New → old_reader bs ≡ refused (pos 11)
unfolding old_reader form_of
old-refuses bs e = go (found bs) e
  where
    go : {r s : Reading Head} → Found r s → form_in r ≡ New → counted s ≡ refused (pos 11)
    go (same r d) e = absurd (apart (sym d ∙ e))
    go (many rest) e = refl

pub old-accepts : (bs : List ℕ) → (old_reader bs).refusal ≡ pos 0 → (old_reader bs ≡ read_drawing bs) × (form_of bs ≡ Old)
old-accepts bs h = (
  ⊎_elim (λ e. e) (λ e. absurd (eleven e)) (as_before bs),
  form (form_of bs) refl,
)
  where
    eleven : old_reader bs ≡ refused (pos 11) → ⊥
    eleven e = eq_z-false {a = pos 11} {b = pos 0} refl (sym (ap (λ (d : Drawing). d.refusal) e) ∙ h)

    form : (f : Form) → form_of bs ≡ f → form_of bs ≡ Old
    form Old e = e
    form New e = absurd (eleven (old-refuses bs e))

pub old-reads : (bs : List ℕ) → (read_drawing bs).refusal ≡ pos 0 → form_of bs ≡ Old → old_reader bs ≡ read_drawing bs
unfolding read_drawing old_reader form_of
old-reads bs = go (found bs)
  where
    -- behind the mark stands no drawing of the old form
    behind : {rest : List ℕ} {r : Reading ℕ} → Sure (λ n. n ≤ most) rest r
        → let h = next r (λ n rest. got (head_of New n) rest) in
        (counted h).refusal ≡ pos 0 → form_in h ≡ Old → ⊥
    behind (sure.refused m z) h e = eq_z-false (not-nought m z) h
    behind (sure.read n front rest _ _) h e = apart (sym e)

    go : {r s : Reading Head} → Found r s → (counted r).refusal ≡ pos 0 → form_in r ≡ Old → counted s ≡ counted r
    go (same r d) h e = refl
    go (many rest) h e = absurd (behind (sure-count rest) h e)

-- Demand 2 on bytes, for each form, of the contracts (`Post`) of read_drawing, write_drawing and form_of: whatever they answer and leave in what was
-- lent to them. To cite:
--   bytes-come-back     "An accepted stored drawing read and written again has the same bytes": written in the form that form_of tells of them
--   objects-come-back   "a drawing written and read again has the same objects in the same order, first point first", with their tags
--   form-told           and has the form in which it was written
--   untagged-exactly, untagged-written   "demand 2 holds for each form, the old one for tags that are all 0" (document 02): exactly there an accepted
--                       list is not refused by 16 in the old form; and there it is refused for nothing but room
--   new-written         in the new form an accepted list is refused for nothing but room
--   two-forms           no bytes are written in both forms
-- Each holds for every room: the second call is refused for nothing but room, its answer has the length of what comes back, and the lent
-- cells hold it in front of what was there, or, where the room is too short, what was there.
use mathlib.Core.Path.{◌≡◌, refl, sym, ap, ◌∙◌}
use mathlib.Core.Logic.{◌⊎◌, inl, inr, ◌↔◌}
use mathlib.Core.Bool.{Bool, true, false, cond}
use mathlib.Core.List.{List}
use Prim.Native.Nat.{ℕ}
use native.Mathlib.Omega.{arith}
use lib.Dec.{ltb}
use lib.IntN.{ℤ, pos}
use lib.ListN.{length, take}
use contract.Lifetimes.{Lfts}
use denote.Ref.{Bor}
use denote.MutBor.{MutBor}
use Rattle.whole.specs.ChoiceLaws.{or-next}
use Rattle.std.specs.Prelude.{Result, Ok}
use Rattle.sheet.specs.declared.refusal.Refusal.{Refusal}
use Rattle.sheet.specs.declared.refusal.Unfilled.{Unfilled}
use Rattle.sheet.specs.Lent.{room_refusal, other_number, filled}
use Rattle.sheet.specs.LentLaws.{filled-front}
use Rattle.sheet.specs.Lists.{count_of, list_refusal}
use Rattle.number.specs.Number.{Bytes}
use Rattle.store.specs.declared.Form.{Form}
use Rattle.store.specs.declared.Form.TheVariants.{Old, New}
use Rattle.store.specs.declared.Read.{Read}
use Rattle.store.specs.Stored.{Drawing, read_drawing, form_of, write_drawing, tags_refusal, write_refusal, Untagged}
use Rattle.store.specs.Told.{read_told, write_told}
use Rattle.store.specs.Answers.{ReadSays, WriteSays, bytes_answer, read_answer, read_into, write_answer, write_into}
use Rattle.store.specs.AnswersLaws.{has-form, tells-form}
use Rattle.store.proofs.TagsLaws.{Keeps, kept-taken, taken-kept, untagged-kept, kept-untagged, new-keeps, tags-refused}
use Rattle.store.proofs.StoredLaws.{read_taken, written_read, read-written, form-written}
use Rattle.store.proofs.MoveLaws.{one_form}
use Rattle.store.proofs.form_of.Reads as FormOf
use Rattle.store.proofs.read_drawing.Reads as read-drawing
use Rattle.store.proofs.write_drawing.Reads as write-drawing

-- ---- what was read, and what was written, by the calls' own words

-- read_drawing took the bytes, and a list is what it put at the front of the lent one
pub record WasRead (bytes : Bor (List ℕ)) (list : List ℤ) : Type 0 where
  pub κs : Lfts 2
  pub lent : MutBor (List ℤ)
  pub after : MutBor (List ℤ)
  pub answer : Read
  pub met : read-drawing.Post κs (bytes, (lent, tt)) (Ok answer) (bytes, (after, tt))
  pub front : list ≡ take answer.length after.now

-- write_drawing took the list in a form, and bytes are what it put at the front of the lent ones
pub record WasWritten (form : Form) (list : Bor (List ℤ)) (bytes : List ℕ) : Type 0 where
  pub κs : Lfts 2
  pub lent : MutBor (List ℕ)
  pub after : MutBor (List ℕ)
  pub size : ℕ
  pub met : write-drawing.Post κs (form, (list, (lent, tt))) (Ok size) (form, (list, (after, tt)))
  pub front : bytes ≡ take size after.now

-- a call that puts bytes into lent ones is refused for nothing but room
pub record Puts (bytes : List ℕ) (lent : MutBor (List ℕ)) (answer : Result ℕ Unfilled) (after : MutBor (List ℕ)) : Type 0 where
  pub answered : write_told answer ≡ record { refusal = room_refusal (pos 0) (length bytes) (length lent.now); length = length bytes }
  pub left : after.now ≡ filled (pos 0) bytes lent.now

-- ---- by the definitions

was_read : {bytes : Bor (List ℕ)} {list : List ℤ} → WasRead bytes list
    → ((read_drawing bytes.now).refusal ≡ pos 0) × (list ≡ (read_drawing bytes.now).objects)
unfolding read_answer read_into
was_read {bytes} {list} c =
    let d = read_drawing bytes.now in
    let done = filled-front d.refusal d.objects c.lent.now (sym (ap (λ (r : ReadSays). r.refusal) c.met.0)) in
    (done.0, c.front ∙ (λ i. take (c.met.0 i).length (c.met.1 i)) ∙ done.1)

-- bytes were put into lent ones, as they are where the refusal before 10 is 0
pub were-put :
    (n : ℤ) (put lent : List ℕ) {bytes after : List ℕ} {size : ℕ} → write_told (Ok size) ≡ bytes_answer n put lent → after ≡ filled n put lent
    → bytes ≡ take size after → (n ≡ pos 0) × (bytes ≡ put)
were-put n put lent p q front =
    let done = filled-front n put lent (sym (ap (λ (r : WriteSays). r.refusal) p)) in
    (done.0, front ∙ (λ i. take (p i).length (q i)) ∙ done.1)

was-written : {form : Form} {list : Bor (List ℤ)} {bytes : List ℕ} → WasWritten form list bytes
    → (write_refusal form list.now ≡ pos 0) × (bytes ≡ write_drawing form list.now)
unfolding write_answer write_into
was-written {form} {list} c = were-put (write_refusal form list.now) (write_drawing form list.now) c.lent.now c.met.0 c.met.1 c.front

pub puts :
    {n : ℤ} {put bytes : List ℕ} {lent after : MutBor (List ℕ)} {answer : Result ℕ Unfilled} → n ≡ pos 0 → put ≡ bytes → write_told answer ≡ bytes_answer n put lent.now
    → after.now ≡ filled n put lent.now → Puts bytes lent answer after
puts {n} {put} {bytes} {lent} z e p q =
    record { answered = p ∙ (λ i. bytes_answer (z i) (e i) lent.now); left = q ∙ (λ i. filled (z i) (e i) lent.now) }

-- 0 or 10 is not 16
pub puts-not-16 : {bytes : List ℕ} {lent after : MutBor (List ℕ)} {answer : Result ℕ Unfilled} → Puts bytes lent answer after
    → (write_told answer).refusal ≡ pos 16 → ⊥
puts-not-16 {bytes} {lent} p e = room (ltb (length lent.now) (length bytes)) (sym (ap (λ (r : WriteSays). r.refusal) p.answered) ∙ e)
  where
    room : (short : Bool) → cond short (pos 10) (pos 0) ≡ pos 16 → ⊥
    room true e = let z : ◌≡◌ {A = ℕ} 10 16 = cc in omega arith
    room false e = let z : ◌≡◌ {A = ℕ} 0 16 = cc in omega arith

-- ---- there and back

pub bytes-come-back :
    (κ : Lfts 1) (bytes : Bor (List ℕ)) (form : Form) (list : Bor (List ℤ)) → Bytes bytes.now → FormOf.Post κ (bytes, tt) (Ok form) (bytes, tt)
    → WasRead bytes list.now
    → (κs : Lfts 2) (lent after : MutBor (List ℕ)) (answer : Result ℕ Unfilled)
    → write-drawing.Post κs (form, (list, (lent, tt))) answer (form, (list, (after, tt))) → Puts bytes.now lent answer after
unfolding write_answer write_into
bytes-come-back κ bytes form list b told c κs lent after answer met =
    let was = was_read c in
    let is = (has-form bytes.now form told).1 in
    puts ((λ i. write_refusal (sym is i) (was.1 i)) ∙ read_taken bytes.now was.0)
    ((λ i. write_drawing (sym is i) (was.1 i)) ∙ written_read bytes.now b was.0) met.0 met.1

pub objects-come-back :
    (form : Form) (list : Bor (List ℤ)) (bytes : Bor (List ℕ)) → WasWritten form list bytes.now
    → (κs : Lfts 2) (lent after : MutBor (List ℤ)) (answer : Result Read Unfilled) → read-drawing.Post κs (bytes, (lent, tt)) answer (bytes, (after, tt))
    → let refusal = room_refusal (pos 0) (length list.now) (length lent.now) in
    (read_told answer ≡ record { refusal = refusal; count = other_number refusal (count_of list.now); length = length list.now })
    × (after.now ≡ filled (pos 0) list.now lent.now)
unfolding read_answer read_into
objects-come-back form list bytes c κs lent after answer met =
    let was = was-written c in
    let back = ap read_drawing was.1 ∙ read-written form list.now was.0 in (
      met.0 ∙ ap (λ (d : Drawing). read_answer d lent.now) back,
      met.1 ∙ ap (λ (d : Drawing). read_into d lent.now) back,
    )

pub form-told :
    (form : Form) (list : Bor (List ℤ)) (bytes : Bor (List ℕ)) → WasWritten form list bytes.now
    → (κ : Lfts 1) (answer : Result Form Refusal) → FormOf.Post κ (bytes, tt) answer (bytes, tt) → answer ≡ Ok form
form-told form list bytes c κ answer met =
    let was = was-written c in
    tells-form bytes.now (ap (λ (d : Drawing). d.refusal) (ap read_drawing was.1 ∙ read-written form list.now was.0))
    (ap form_of was.1 ∙ form-written form list.now (taken-kept list.now form was.0).0) met

pub two-forms : (list other : Bor (List ℤ)) (bytes : List ℕ) → WasWritten Old list bytes → WasWritten New other bytes → ⊥
two-forms list other bytes c d =
    let old = was-written c in
    let new = was-written d in
    one_form list.now other.now (taken-kept list.now Old old.0).0 (taken-kept other.now New new.0).0 (sym old.1 ∙ new.1)

-- ---- what can be written

module _ (list : Bor (List ℤ)) (fine : list_refusal list.now ≡ pos 0) (κs : Lfts 2) (lent after : MutBor (List ℕ)) (answer : Result ℕ Unfilled) where
  kept-written :
      (form : Form) → Keeps form list.now → write-drawing.Post κs (form, (list, (lent, tt))) answer (form, (list, (after, tt)))
      → Puts (write_drawing form list.now) lent answer after
  unfolding write_answer write_into
  kept-written form a met = puts (kept-taken list.now form fine a) refl met.0 met.1

  pub untagged-written :
      Untagged list.now → write-drawing.Post κs (Old, (list, (lent, tt))) answer (Old, (list, (after, tt))) → Puts (write_drawing Old list.now) lent answer after
  untagged-written a = kept-written Old (untagged-kept list.now a)

  pub new-written :
      write-drawing.Post κs (New, (list, (lent, tt))) answer (New, (list, (after, tt))) → Puts (write_drawing New list.now) lent answer after
  new-written = kept-written New (new-keeps list.now)

  pub untagged-exactly :
      write-drawing.Post κs (Old, (list, (lent, tt))) answer (Old, (list, (after, tt))) → ((write_told answer).refusal ≡ pos 16 → ⊥) ↔ Untagged list.now
  unfolding write_answer write_refusal
  untagged-exactly met = (λ d. there d (tags-refused list.now Old), λ a. puts-not-16 (untagged-written a met))
    where
      given : tags_refusal Old list.now ≡ pos 16 → (write_told answer).refusal ≡ pos 16
      given h =
          ap (λ (r : WriteSays). r.refusal) met.0
          ∙ ap (λ (n : ℤ). room_refusal n (length (write_drawing Old list.now)) (length lent.now)) (or-next _ fine ∙ h)

      there : ((write_told answer).refusal ≡ pos 16 → ⊥) → (tags_refusal Old list.now ≡ pos 0) ⊎ (tags_refusal Old list.now ≡ pos 16) → Untagged list.now
      there d (inl h) = kept-untagged list.now (taken-kept list.now Old (or-next _ fine ∙ h)).1
      there d (inr h) = absurd (d (given h))

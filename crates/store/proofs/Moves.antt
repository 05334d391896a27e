-- R-3 of document 02, of the contracts (`Post`) of move_drawing, form_of and check_drawing: whatever they answer and leave in what was lent to them.
-- To cite:
--   goes-new            "Given room, an accepted old drawing always goes to new": an accepted drawing is refused for nothing but room
--   goes-old, old-exactly   "and an accepted new one goes to old exactly when all tags are 0": there it is refused for nothing but room, and
--                       exactly there it is not refused by 16
--   keeps-bytes         "A drawing moved to the form it already has keeps its bytes"
--   comes_back          "There and back gives the same bytes", both ways round
--   moved_told, moved-read   what was moved has the form that was asked for, and is read as the same objects with the same tags
--   old-meets           "so an old reader refuses with 11"
--   old-told, read-as-before   what an old reader accepts is exactly what is told to have the old form, so no bytes are accepted in both; and it is
--                       read as the old reader reads it
-- Each holds for every room, as in RoundTrip.
use mathlib.Core.Path.{◌≡◌, refl, sym, ap, subst, ◌∙◌}
use mathlib.Core.Logic.{◌⊎◌, inl, inr, ◌↔◌}
use mathlib.Core.List.{List}
use Prim.Native.Nat.{ℕ}
use lib.IntN.{ℤ, pos}
use lib.ListN.{length, take}
use contract.Lifetimes.{Lfts}
use denote.Ref.{Bor}
use denote.MutBor.{MutBor}
use Rattle.std.specs.Prelude.{Result, Ok}
use Rattle.sheet.specs.declared.refusal.Refusal.{Refusal}
use Rattle.sheet.specs.declared.refusal.Unfilled.{Unfilled}
use Rattle.sheet.specs.Lent.{room_refusal}
use Rattle.number.specs.Number.{Bytes}
use Rattle.store.specs.declared.Form.{Form}
use Rattle.store.specs.declared.Form.TheVariants.{Old, New}
use Rattle.store.specs.declared.Read.{Read}
use Rattle.store.specs.Stored.{Drawing, Untagged, refused, read_drawing, old_reader, form_of, move_refusal, moved}
use Rattle.store.specs.Told.{read_told, write_told}
use Rattle.store.specs.ToldLaws.{read-told-one}
use Rattle.store.specs.Answers.{WriteSays, read_answer, read_into, move_answer, move_into}
use Rattle.store.specs.AnswersLaws.{has-form, tells-form}
use Rattle.store.proofs.MoveLaws.{move_new, move-old, move-refused, moved-accepted, own-taken, own-kept, moved-form, moved-objects, back-taken, back-same, old-refuses, old-accepts, old-reads}
use Rattle.store.proofs.RoundTrip.{Puts, puts, puts-not-16, were-put}
use Rattle.store.proofs.check_drawing.Reads as check-drawing
use Rattle.store.proofs.form_of.Reads as FormOf
use Rattle.store.proofs.read_drawing.Reads as read-drawing
use Rattle.store.proofs.move_drawing.Reads as move-drawing

-- a call of move_drawing: the bytes, the form that is asked for, the lent bytes before and after, and the answer
abbrev Moves : Lfts 2 → Bor (List ℕ) → Form → MutBor (List ℕ) → Result ℕ Unfilled → MutBor (List ℕ) → Type 0
Moves κs bytes form lent answer after = move-drawing.Post κs (bytes, (form, (lent, tt))) answer (bytes, (form, (after, tt)))

-- move_drawing took the bytes to a form, and `put` is what it put at the front of the lent ones
pub record WasMoved (bytes : Bor (List ℕ)) (form : Form) (put : List ℕ) : Type 0 where
  pub κs : Lfts 2
  pub lent : MutBor (List ℕ)
  pub after : MutBor (List ℕ)
  pub size : ℕ
  pub met : Moves κs bytes form lent (Ok size) after
  pub front : put ≡ take size after.now

was-moved : {bytes : Bor (List ℕ)} {form : Form} {put : List ℕ} → WasMoved bytes form put
    → (move_refusal form bytes.now ≡ pos 0) × (put ≡ moved form bytes.now)
unfolding move_answer move_into
was-moved {bytes} {form} c = were-put (move_refusal form bytes.now) (moved form bytes.now) c.lent.now c.met.0 c.met.1 c.front

module _ (κ : Lfts 1) (bytes : Bor (List ℕ)) (accepted : check-drawing.Post κ (bytes, tt) (Ok tt) (bytes, tt)) where
  fine : (read_drawing bytes.now).refusal ≡ pos 0
  fine = sym accepted

  module _ (κs : Lfts 2) (lent after : MutBor (List ℕ)) (answer : Result ℕ Unfilled) where
    pub goes-new : Moves κs bytes New lent answer after → Puts (moved New bytes.now) lent answer after
    unfolding move_answer move_into
    goes-new met = puts (move_new bytes.now fine) refl met.0 met.1

    pub goes-old : Untagged (read_drawing bytes.now).objects → Moves κs bytes Old lent answer after → Puts (moved Old bytes.now) lent answer after
    unfolding move_answer move_into
    goes-old a met = puts ((move-old bytes.now fine).1 a) refl met.0 met.1

    pub old-exactly : Moves κs bytes Old lent answer after → ((write_told answer).refusal ≡ pos 16 → ⊥) ↔ Untagged (read_drawing bytes.now).objects
    unfolding move_answer
    old-exactly met = (λ d. there d (move-refused bytes.now fine Old), λ a. puts-not-16 (goes-old a met))
      where
        there : ((write_told answer).refusal ≡ pos 16 → ⊥) → (move_refusal Old bytes.now ≡ pos 0) ⊎ (move_refusal Old bytes.now ≡ pos 16)
            → Untagged (read_drawing bytes.now).objects
        there d (inl h) = (move-old bytes.now fine).0 h
        there d (inr h) =
            absurd (d (ap (λ (r : WriteSays). r.refusal) met.0 ∙ ap (λ (n : ℤ). room_refusal n (length (moved Old bytes.now)) (length lent.now)) h))

-- the bytes have a form, by what form_of tells
module _ (κ : Lfts 1) (bytes : Bor (List ℕ)) (own : Form) (told : FormOf.Post κ (bytes, tt) (Ok own) (bytes, tt)) where
  taken : ((read_drawing bytes.now).refusal ≡ pos 0) × (form_of bytes.now ≡ own)
  taken = has-form bytes.now own told

  pub keeps-bytes :
      Bytes bytes.now → (κs : Lfts 2) (lent after : MutBor (List ℕ)) (answer : Result ℕ Unfilled) → Moves κs bytes own lent answer after
      → Puts bytes.now lent answer after
  unfolding move_answer move_into
  keeps-bytes b κs lent after answer met =
      puts (ap (λ (f : Form). move_refusal f bytes.now) (sym taken.1) ∙ own-taken bytes.now taken.0)
      (ap (λ (f : Form). moved f bytes.now) (sym taken.1) ∙ own-kept bytes.now taken.0 b) met.0 met.1

  pub comes_back :
      Bytes bytes.now → (form : Form) (between : Bor (List ℕ)) → WasMoved bytes form between.now
      → (κs : Lfts 2) (lent after : MutBor (List ℕ)) (answer : Result ℕ Unfilled) → Moves κs between own lent answer after → Puts bytes.now lent answer after
  unfolding move_answer move_into
  comes_back b form between c κs lent after answer met =
      let was = was-moved c in
      puts ((λ i. move_refusal (sym taken.1 i) (was.1 i)) ∙ back-taken bytes.now taken.0 form was.0)
      ((λ i. moved (sym taken.1 i) (was.1 i)) ∙ back-same bytes.now taken.0 form was.0 b) met.0 met.1

-- what was moved
module _ (bytes between : Bor (List ℕ)) (form : Form) (c : WasMoved bytes form between.now) where
  -- and nothing but a drawing is
  drawing : (read_drawing bytes.now).refusal ≡ pos 0
  drawing = moved-accepted bytes.now form (was-moved c).0

  same : read_drawing between.now ≡ read_drawing bytes.now
  same = let was = was-moved c in ap read_drawing was.1 ∙ moved-objects bytes.now drawing form was.0

  pub moved_told : (κ : Lfts 1) (answer : Result Form Refusal) → FormOf.Post κ (between, tt) answer (between, tt) → answer ≡ Ok form
  moved_told κ answer met =
      let was = was-moved c in
      tells-form between.now (ap (λ (d : Drawing). d.refusal) same ∙ drawing) (ap form_of was.1 ∙ moved-form bytes.now drawing form was.0) met

  pub moved-read :
      (κs κs' : Lfts 2) (lent after after' : MutBor (List ℤ)) (answer answer' : Result Read Unfilled) → read-drawing.Post κs (bytes, (lent, tt)) answer (bytes, (after, tt))
      → read-drawing.Post κs' (between, (lent, tt)) answer' (between, (after', tt)) → (answer' ≡ answer) × (after'.now ≡ after.now)
  moved-read κs κs' lent after after' answer answer' met met' = (
    read-told-one answer' answer (met'.0 ∙ ap (λ (d : Drawing). read_answer d lent.now) same ∙ sym met.0),
    met'.1 ∙ ap (λ (d : Drawing). read_into d lent.now) same ∙ sym met.1,
  )

pub old-meets : (κ : Lfts 1) (bytes : Bor (List ℕ)) → FormOf.Post κ (bytes, tt) (Ok New) (bytes, tt) → old_reader bytes.now ≡ refused (pos 11)
old-meets κ bytes told = old-refuses bytes.now (has-form bytes.now New told).1

pub old-told :
    (κ : Lfts 1) (bytes : Bor (List ℕ)) (answer : Result Form Refusal) → FormOf.Post κ (bytes, tt) answer (bytes, tt)
    → ((old_reader bytes.now).refusal ≡ pos 0) ↔ (answer ≡ Ok Old)
old-told κ bytes answer met = (
  λ h. let is = old-accepts bs h in tells-form bs (ap refusal (sym is.0) ∙ h) is.1 met,
  λ e. let is = has-form bs Old (subst (λ (a : Result Form Refusal). FormOf.Post κ (bytes, tt) a (bytes, tt)) e met) in ap refusal (old-reads bs is.0 is.1) ∙ is.0,
)
  where
    bs : List ℕ
    bs = bytes.now

    refusal : Drawing → ℤ
    refusal d = d.refusal

pub read-as-before :
    (κs : Lfts 2) (bytes : Bor (List ℕ)) (lent after : MutBor (List ℤ)) (answer : Result Read Unfilled) → (old_reader bytes.now).refusal ≡ pos 0
    → read-drawing.Post κs (bytes, (lent, tt)) answer (bytes, (after, tt))
    → (read_told answer ≡ read_answer (old_reader bytes.now) lent.now) × (after.now ≡ read_into (old_reader bytes.now) lent.now)
read-as-before κs bytes lent after answer h met =
    let is = sym (old-accepts bytes.now h).0 in
    (met.0 ∙ ap (λ (d : Drawing). read_answer d lent.now) is, met.1 ∙ ap (λ (d : Drawing). read_into d lent.now) is)

-- What reading stored bytes gives: accepted objects, and one of the refusals of stored bytes or none. To cite:
--   bytes-refusal   the refusal of stored bytes is 0 or one of the table's that they can meet
--   item-accepted   every object of a drawing is accepted
--   good            an accepted drawing has whole objects, at most 512, each accepted
--   bytes-within    the refusal is a small number
-- Assumes nothing.
use Rattle.std.specs.Prelude.{◌≡◌, refl, ◌⊎◌, Bool, true, ◌&&◌, List, [], ◌∷◌, ◌++◌, ℕ, zero, suc, ◌*◌, ◌<◌, ◌≤◌, leb, ltb, ℤ, pos, length}
use Rattle.std.proofs.Common.{sym, subst, inl, inr, true≢false, arith, leb-true, ltb-true}
use Rattle.whole.specs.Within.{Within}
use Rattle.whole.specs.Bound.{w-is}
use Rattle.whole.specs.Flag.{eq_z}
use Rattle.whole.specs.Tests.{cond-by}
use Rattle.sheet.specs.declared.Object.{Object}
use Rattle.sheet.specs.Limits.{most}
use Rattle.sheet.specs.Refusal.{Accepted}
use Rattle.sheet.specs.RefusalTable.{OneOf}
use Rattle.sheet.specs.Flags.{both}
use Rattle.sheet.proofs.RefusalTableLaws.{one_of, one_more, split}
use Rattle.sheet.specs.Answers.{object_numbers}
use Rattle.sheet.specs.Lists.{width, object_at}
use Rattle.sheet.specs.Listable.{Listable}
use Rattle.sheet.specs.ListsLaws.{listable, object-next}
use Rattle.store.specs.declared.Form.{Form}
use Rattle.store.specs.Reader.{Item, One, End, Refused}
use Rattle.store.specs.Stored.{Drawing, before, and_then, counted}
use Rattle.store.specs.declared.reading.Head.{Head}
use Rattle.number.specs.Number.{Reading}
use Rattle.store.specs.Stored.{read_objects, read_drawing}
use Rattle.store.specs.Reader.{item_of}
use Rattle.store.specs.Refusals.{of_bytes}
use Rattle.store.proofs.SureLaws.{Sure, sure-object, sure-head}
use Rattle.store.proofs.SureLaws as sure
use Rattle.store.proofs.StoredLaws.{read-list}

-- the refusal is 0 or one of stored bytes, and every object is accepted
record Sound (d : Drawing) : Type 0 where
  of : OneOf (0 ∷ of_bytes) d.refusal
  each : (k : ℕ) → k * width < length d.objects → Accepted (object_at d.objects k)

sound_none : {z : ℤ} → OneOf (0 ∷ of_bytes) z → Sound (record { objects = []; refusal = z })
sound_none o = record { of = o; each = λ k h. absurd (omega arith) }

sound-before : (o : Object) (d : Drawing) → Accepted o → Sound d → Sound (before o d)
sound-before o d p s = record { of = s.of; each = each }
  where
    each : (k : ℕ) → k * width < length (object_numbers o ++ d.objects) → Accepted (object_at (object_numbers o ++ d.objects) k)
    each zero h = p
    each (suc k) h = subst Accepted (object-next (object_numbers o ++ d.objects) k) (s.each k (omega arith))

sound-objects : (f : Form) (n : ℕ) (bs : List ℕ) → Sound (read_objects f n bs)
unfolding read_objects
sound-objects f zero [] = sound_none (one_of 0 refl)
sound-objects f zero (b ∷ bs) = sound_none (one_of 9 refl)
sound-objects f (suc n) bs = go (sure-object f bs) (sound-objects f n)
  where
    go : {r : Reading Object} → Sure Accepted bs r → ((rest : List ℕ) → Sound (read_objects f n rest)) → Sound (and_then r (λ rest. read_objects f n rest))
    go (sure.read o front rest _ e) h = sound-before o (read_objects f n rest) e (h rest)
    go (sure.refused n e) h = sound_none (one_more (one_of n e))

sound : (bs : List ℕ) → Sound (read_drawing bs)
unfolding read_drawing
sound bs = go (sure-head bs)
  where
    go : {r : Reading Head} → Sure (λ h. h.count ≤ most) bs r → Sound (counted r)
    go (sure.read h front rest _ e) = sound-objects h.form h.count rest
    go (sure.refused n e) = sound_none (one_more (one_of n e))

pub bytes-refusal : (bs : List ℕ) → OneOf (0 ∷ of_bytes) (read_drawing bs).refusal
bytes-refusal bs = (sound bs).of

abbrev Fine : Item → Type 0
Fine (One o) = Accepted o
Fine End = Unit {0}
Fine (Refused n) = Unit {0}

pub item-accepted : (bs : List ℕ) (k : ℕ) (o : Object) → item_of (read_drawing bs) k ≡ One o → Accepted o
unfolding item_of
item-accepted bs k o e =
    let d = read_drawing bs in
    let last = cond-by Fine (eq_z d.refusal (pos 0)) (λ t. tt) (λ t. tt) in
    subst Fine e
    (cond-by Fine (ltb (k * width) (length d.objects)) (λ t. (sound bs).each k (ltb-true (k * width) (length d.objects) t)) (λ t. last))

-- an accepted drawing is a list that is not refused
pub good : (bs : List ℕ) → (read_drawing bs).refusal ≡ pos 0 → Listable (read_drawing bs).objects
good bs e = listable (read_drawing bs).objects (read-list bs e)

-- ---- numbers of refusals

abbrev upto : ℕ → List ℕ → Bool
upto k [] = true
upto k (m ∷ ms) = leb m k && upto k ms

one-upto : (k : ℕ) (ms : List ℕ) {z : ℤ} → upto k ms ≡ true → OneOf ms z → Within k z
one-upto k [] h o = absurd (true≢false (sym o.one))
one-upto k (m ∷ ms) {z} h o = let b = (both (leb m k) (upto k ms)).0 h in go b.0 (one-upto k ms b.1) (split o)
  where
    go : leb m k ≡ true → (OneOf ms z → Within k z) → (z ≡ pos m) ⊎ OneOf ms z → Within k z
    go l u (inl e) = w-is e (record { within = leb-true m k l })
    go l u (inr p) = u p

pub bytes-within : (bs : List ℕ) → Within 15 (read_drawing bs).refusal
bytes-within bs = one-upto 15 (0 ∷ of_bytes) refl (bytes-refusal bs)

-- Which lists of objects a form takes: the old one those whose tags are all 0, the new one every one that is accepted. To cite:
--   Keeps                    every tag of a list is one that the form keeps
--   kept-taken, taken-kept   an accepted list whose tags the form keeps is not refused for writing, and only such a list is not
--   untagged-kept, kept-untagged, new-keeps   the old form keeps tags that are all 0 and no others; the new form keeps every tag
--   tags-refused             what the form refuses an accepted list by: nothing, or 16
-- Assumes nothing.
use Rattle.std.specs.Prelude.{◌≡◌, ◌⊎◌, Bool, List, ℕ, ◌<◌, ℤ}
use Rattle.std.proofs.Math.Path.{refl}
use Rattle.std.proofs.Common.{◌∙◌, arith}
use Rattle.std.proofs.Math.Logic.{inl, inr}
use Rattle.std.proofs.Math.Bool.{true, ◌&&◌}
use Rattle.std.proofs.Math.IntN.{pos}
use Rattle.whole.specs.Flag.{eq_z}
use Rattle.whole.specs.Tests.{cond-by, eq_z-true, eq-eq_z}
use Rattle.whole.specs.InTurnLaws.{turn-all, turn-each}
use Rattle.whole.specs.ChoiceLaws.{or-zero, or-next}
use Rattle.sheet.specs.AcceptsLaws.{passed}
use Rattle.sheet.specs.Flags.{both}
use Rattle.sheet.specs.Lists.{count_of, object_at, list_refusal}
use Rattle.store.specs.declared.Form.{Form}
use Rattle.store.specs.declared.Form.TheVariants.{Old, New}
use Rattle.store.specs.Forms.{untagged}
use Rattle.store.specs.Stored.{all_untagged, Untagged, tags_refusal, write_refusal}
use Rattle.store.proofs.SureLaws.{Kept, kept_old, kept_new}

pub record Keeps (f : Form) (l : List ℤ) : Type 0 where
  pub each : (i : ℕ) → i < count_of l → Kept f (object_at l i).tag

module _ (l : List ℤ) where
  pub untagged-kept : Untagged l → Keeps Old l
  untagged-kept a = record { each = λ i h. kept_old (a.each i h) }

  pub kept-untagged : Keeps Old l → Untagged l
  kept-untagged a = record { each = λ i h. is (a.each i h) }
    where
      is : {t : ℤ} → Kept Old t → t ≡ untagged
      is (kept_old e) = e

  pub new-keeps : Keeps New l
  new-keeps = record { each = λ i h. kept_new }

  -- whether object i has no tag
  abbrev of : ℕ → Bool
  of i = eq_z (object_at l i).tag untagged

  pub kept-tags : (f : Form) → Keeps f l → tags_refusal f l ≡ pos 0
  unfolding tags_refusal
  kept-tags Old a =
      let all = turn-all (λ t. t ≡ true) ◌&&◌ true of refl (λ s t p q. (both s t).1 (p, q)) (count_of l)
      (λ i h. eq-eq_z ((kept-untagged a).each i h)) in
      simp all
  kept-tags New a = refl

  pub tags-kept : (f : Form) → tags_refusal f l ≡ pos 0 → Keeps f l
  unfolding tags_refusal
  tags-kept Old e =
      let all = passed (all_untagged l (count_of l)) {n = 16} (λ e. omega arith) e in
      let each = turn-each (λ t. t ≡ true) ◌&&◌ true of (λ s t. (both s t).0) (count_of l) all in
      untagged-kept (record { each = λ i h. eq_z-true (each i h) })
  tags-kept New e = new-keeps

  pub kept-taken : (f : Form) → list_refusal l ≡ pos 0 → Keeps f l → write_refusal f l ≡ pos 0
  unfolding write_refusal
  kept-taken f e a = or-next _ e ∙ kept-tags f a

  pub taken-kept : (f : Form) → write_refusal f l ≡ pos 0 → (list_refusal l ≡ pos 0) × Keeps f l
  unfolding write_refusal
  taken-kept f e = let g = or-zero (list_refusal l) (tags_refusal f l) e in (g.0, tags-kept f g.1)

  pub tags-refused : (f : Form) → (tags_refusal f l ≡ pos 0) ⊎ (tags_refusal f l ≡ pos 16)
  unfolding tags_refusal
  tags-refused Old =
      cond-by (λ (n : ℤ). (n ≡ pos 0) ⊎ (n ≡ pos 16)) (all_untagged l (count_of l)) (λ _. inl refl) (λ _. inr refl)
  tags-refused New = inl refl

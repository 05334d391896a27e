-- Extents, and lists of marks. To cite:
--   extent-turned, extent-straight       the extent of two ends, by the code's test
--   ends-are, ends-taken         of an accepted object the kernel's answer is its two ends, and no refusal
--   ends-extent, ends-sound      its extent, from these
--   held_none, held_more         a list holds no mark; and one more, put behind those that it holds
--   left-marked, right-marked    a list that holds the marks of a list's left ends, or right ends, has marks of ends
-- Assumes nothing.
use Rattle.std.specs.Prelude.{◌≡◌, refl, true, false, List, ◌++◌, ℕ, ◌+◌, ◌<◌, ℤ, length, set, Result, Ok, IsOk, is_ok}
use Rattle.std.proofs.Common.{sym, ap, subst, ◌∙◌, arith, length-set, get_or-set_same, get_or-set_other}
use Rattle.sheet.specs.declared.Object.{Object}
use Rattle.sheet.specs.declared.Point.{Point}
use Rattle.sheet.specs.declared.Ends.{Ends}
use Rattle.sheet.specs.declared.refusal.Refusal.{Refusal}
use Rattle.sheet.specs.Refusal.{object_refusal, Accepted}
use Rattle.sheet.specs.Points.{numbers}
use Rattle.sheet.specs.Ends.{first_end, last_end}
use Rattle.sheet.proofs.EndsLaws.{first-end-fine, last-end-fine}
use Rattle.sheet.specs.Extent.{left_end, right_end}
use Rattle.sheet.specs.Answers.{answer, ends_say}
use Rattle.sheet.specs.AnswersLaws.{accepted, ends-one}
use Rattle.sheet.specs.Lists.{count_of}
use Rattle.sheet.specs.Listable.{Listable}
use Rattle.cut.proofs.LeftLaws.{left-end-fine, right-end-fine}
use Rattle.listing.specs.declared.extents.Mark.{Mark}
use Rattle.listing.specs.declared.extents.Extent.{Extent}
use Rattle.listing.specs.Marks.{mark_of, OfEnd, Sound, is_left_mark, extent_by, extent_of, mark_at, left_mark, right_mark, Held, Marked}
use Rattle.listing.specs.MarksLaws.{left-mark, of_end, end-sound}
use Rattle.listing.specs.BlocksLaws.{before_more}

-- ---- the extent of two ends

module _ (e f : Point) where
  pub extent-turned : is_left_mark (mark_of f) (mark_of e) ≡ true → ◌≡◌ {A = Extent} (record { left = mark_of f; right = mark_of e }) (extent_by e f)
  extent-turned t = simp (sym (left-mark f e) ∙ t)

  pub extent-straight : is_left_mark (mark_of f) (mark_of e) ≡ false → ◌≡◌ {A = Extent} (record { left = mark_of e; right = mark_of f }) (extent_by e f)
  extent-straight t = simp (sym (left-mark f e) ∙ t)

extent-is : (o : Object) → extent_by (first_end o) (last_end o) ≡ extent_of o
unfolding left_end right_end
extent-is o = refl

abbrev both : Object → Ends
both o = record { first = first_end o; last = last_end o }

module _ {o : Object} (a : Accepted o) (r : Result Ends Refusal) (e : ends_say r ≡ answer (object_refusal o) (numbers (first_end o) ++ numbers (last_end o))) where
  pub ends-are : r ≡ Ok (both o)
  ends-are = ends-one r (Ok (both o)) (e ∙ accepted _ a.accepted)

  pub ends-taken : IsOk r
  ends-taken = ap is_ok ends-are

  module _ {ends : Ends} (f : r ≡ Ok ends) where
    are : ends ≡ both o
    are = let g : Ok ends ≡ Ok (both o) = sym f ∙ ends-are in let h : ends ≡ both o = cc in h

    pub ends-extent : extent_by ends.first ends.last ≡ extent_of o
    ends-extent = (λ i. extent_by (are i).first (are i).last) ∙ extent-is o

    pub ends-sound : Sound (mark_of ends.first) × Sound (mark_of ends.last)
    ends-sound = (
      subst (λ (e : Ends). Sound (mark_of e.first)) (sym are) (end-sound (of_end (first-end-fine a))),
      subst (λ (e : Ends). Sound (mark_of e.last)) (sym are) (end-sound (of_end (last-end-fine a))),
    )

-- ---- lists of marks

module _ {f : ℕ → Mark} {m : List Mark} where
  pub held_none : Held f m 0
  held_none = record { long = omega arith; holds = λ i h. absurd (omega arith) }

  pub held_more : {n : ℕ} → n < length m → Held f m n → Held f (set m n (f n)) (n + 1)
  held_more {n} room h = record { long = omega (arith, length-set m n (f n)); holds = holds }
    where
      holds : (i : ℕ) → i < n + 1 → mark_at (set m n (f n)) i ≡ f i
      holds = before_more (λ i. mark_at (set m n (f n)) i ≡ f i)
          (λ i k. get_or-set_other m n i (f n) _ (λ e. absurd (omega arith)) ∙ h.holds i k)
          (get_or-set_same m n (f n) _ room)

marked : {f : ℕ → Mark} {m : List Mark} {n : ℕ} → ((i : ℕ) → i < n → OfEnd (f i)) → Held f m n → Marked m n
marked s h = record { long = h.long; ends = λ i k. subst OfEnd (sym (h.holds i k)) (s i k) }

pub left-marked : {l : List ℤ} {m : List Mark} → Listable l → Held (left_mark l) m (count_of l) → Marked m (count_of l)
left-marked L = marked (λ i k. of_end (left-end-fine (L.each i k)))

pub right-marked : {l : List ℤ} {m : List Mark} → Listable l → Held (right_mark l) m (count_of l) → Marked m (count_of l)
right-marked L = marked (λ i k. of_end (right-end-fine (L.each i k)))

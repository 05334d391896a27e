-- The laws of spans: the two numbers of each object, and that they tell what stands apart. To cite:
--   lows-none, lows-more, lows-kept, highs-none, highs-more   the numbers, as they are written in an order of the objects
--   spans-found    lists of marks, an order and the ranks in it give the spans of a list
--   numbers-tell   an object ends before another one begins exactly where the second number of it is below the first number of the other
--   spans-near     so two objects are near each other exactly where their spans are
-- Assumes nothing.
use Rattle.std.specs.Prelude.{◌≡◌, ◌⊎◌, Bool, cond, not, ◌||◌, ◌&&◌, List, ℤ, length, set}
use Rattle.std.proofs.Math.Path.{refl, sym, ap}
use Rattle.std.proofs.Common.{subst, ◌∙◌, inl, inr, arith, eq-or-lt_of_le, lt_of_not-le, get_or-set_same, get_or-set_other}
use Rattle.std.proofs.Math.Bool.{true, false}
use Prim.Native.Nat.{ℕ, ◌+◌, ◌<◌, ◌≤◌}
use Rattle.std.proofs.Math.Decide.{ℕ_discrete, dec_le}
use Rattle.std.proofs.lemmas.List.{set_past}
use Rattle.std.proofs.Math.Dec.{ltb}
use borrow.Author.Tests.{lt-ltb, le-ltb}
use Rattle.whole.specs.InTurnLaws.{turn-same, sum-most, sum_less}
use Rattle.sheet.specs.declared.Point.{Point}
use Rattle.sheet.specs.PointFacts.{APoint}
use Rattle.sheet.specs.Extent.{is_left, left_end, right_end, ends_before, near}
use Rattle.sheet.specs.Lists.{count_of, object_at}
use Rattle.sheet.specs.Listable.{Listable}
use Rattle.cut.proofs.LeftLaws.{left-self, left_not, most-trans, most-less-trans, left-end-fine, right-end-fine}
use Rattle.listing.specs.declared.extents.Mark.{Mark}
use Rattle.listing.specs.Near.{near_of, not_right, low_of, high_of}
use Rattle.listing.specs.Marks.{mark_of, mark_at, is_left_mark, left_mark, right_mark, Held}
use Rattle.listing.specs.MarksLaws.{left-mark}
use Rattle.listing.specs.declared.spans.Span.{Span}
use Rattle.listing.specs.Order.{at, EachOnce, Ranked, span_at, Lows, Highs}
use Rattle.listing.specs.OrderLaws.{Stands, stands, ranked-count}
use Rattle.listing.specs.Spans.{Spans, near_span}
use Rattle.listing.specs.BlocksLaws.{before_more}

-- ---- the numbers of spans, as they are written

module _ {lefts : List Mark} {o : List ℕ} {n : ℕ} {spans : List Span} where
  pub lows-none : Lows lefts o n spans n
  lows-none = record { ranked = λ s h g. absurd (omega arith) }

  -- what is said of the later ones stays: another span is written, or one and the same object stands twice
  pub lows-more : {t r : ℕ} (v : Span) → v.low ≡ r → at o t < length spans → Lows lefts o n spans (t + 1)
      → Ranked lefts o n (mark_at lefts (at o t)) r → Lows lefts o n (set spans (at o t) v) t
  lows-more {t} {r} v low room L R = record { ranked = λ s a b. go s a b (ℕ_discrete (at o s) (at o t)) }
    where
      after : List Span
      after = set spans (at o t) v

      go : (s : ℕ) → t ≤ s → s < n → Dec (at o s ≡ at o t) → Ranked lefts o n (mark_at lefts (at o s)) (span_at after (at o s)).low
      go s a b (yes e) =
          subst (λ (j : ℕ). Ranked lefts o n (mark_at lefts j) (span_at after j).low) (sym e)
          (subst (Ranked lefts o n (mark_at lefts (at o t))) (sym (ap (λ (v : Span). v.low) (get_or-set_same spans (at o t) v _ room) ∙ low)) R)
      go s a b (no d) =
          subst (Ranked lefts o n (mark_at lefts (at o s))) (sym (ap (λ (v : Span). v.low) (get_or-set_other spans (at o t) (at o s) v _ d)))
          (L.ranked s (later (eq-or-lt_of_le a)) b)
        where
          later : (t ≡ s) ⊎ (t < s) → t + 1 ≤ s
          later (inl e) = absurd (d (ap (at o) (sym e)))
          later (inr m) = omega arith

  -- a second number is written
  pub lows-kept : {t : ℕ} (i : ℕ) (v : Span) → v.low ≡ (span_at spans i).low → Lows lefts o n spans t → Lows lefts o n (set spans i v) t
  lows-kept i v e L = record {
    ranked = λ s a b. subst (Ranked lefts o n (mark_at lefts (at o s))) (sym (low (at o s))) (L.ranked s a b);
  }
    where
      low : (j : ℕ) → (span_at (set spans i v) j).low ≡ (span_at spans j).low
      low j = go (ℕ_discrete j i) (dec_le (length spans) i)
        where
          go : Dec (j ≡ i) → Dec (length spans ≤ i) → (span_at (set spans i v) j).low ≡ (span_at spans j).low
          go _ (yes past) = ap (λ (s : List Span). (span_at s j).low) (set_past spans i v past)
          go (yes same) (no inside) = let room = lt_of_not-le inside in ap (λ (v : Span). v.low) (ap (span_at (set spans i v)) same ∙ get_or-set_same spans i v _ room) ∙ e ∙ sym (ap (λ (j : ℕ). (span_at spans j).low) same)
          go (no other) _ = ap (λ (v : Span). v.low) (get_or-set_other spans i j v _ other)

  module _ {rights : List Mark} where
    pub highs-none : Highs lefts rights o n spans 0
    highs-none = record { ranked = λ i h. absurd (omega arith) }

    pub highs-more : {i r : ℕ} (v : Span) → v.high ≡ r → i < length spans → Highs lefts rights o n spans i → Ranked lefts o n (mark_at rights i) r
        → Highs lefts rights o n (set spans i v) (i + 1)
    highs-more {i} {r} v high room H R = record {
      ranked = before_more (λ j. Ranked lefts o n (mark_at rights j) (span_at (set spans i v) j).high)
          (λ j h. subst (Ranked lefts o n (mark_at rights j)) (sym (ap (λ (v : Span). v.high) (get_or-set_other spans i j v _ (λ e. absurd (omega arith))))) (H.ranked j h))
          (subst (Ranked lefts o n (mark_at rights i)) (sym (ap (λ (v : Span). v.high) (get_or-set_same spans i v _ room) ∙ high)) R);
    }

-- ---- from marks to the list

-- what is counted
abbrev flag : Bool → ℕ
flag t = cond t 0 1

module _ (l : List ℤ) {lefts : List Mark} {o : List ℕ} (HL : Held (left_mark l) lefts (count_of l)) (E : EachOnce o (count_of l)) where
  -- a rank among the marks
  rank_is : {v : Mark} {r : ℕ} (p : Point) → v ≡ mark_of p → Ranked lefts o (count_of l) v r → r ≡ not_right l p
  unfolding not_right
  rank_is {v} p e R =
      ranked-count E R
      ∙ turn-same ◌+◌ 0 (count_of l) (λ j h. ap flag ((λ i. is_left_mark (e i) (HL.holds j h i)) ∙ left-mark p (left_end (object_at l j))))

  pub spans-found : {rights : List Mark} {spans : List Span} → Held (right_mark l) rights (count_of l) → Lows lefts o (count_of l) spans 0
      → Highs lefts rights o (count_of l) spans (count_of l) → count_of l ≤ length spans → Spans l spans
  spans-found {rights} {spans} HR L H long = record {
    long = long;
    low_is = λ i h. rank_is (left_end (object_at l i)) (HL.holds i h) (low i (stands E i h));
    high_is = λ i h. rank_is (right_end (object_at l i)) (HR.holds i h) (H.ranked i h);
  }
    where
      low : (i : ℕ) → Stands o (count_of l) i → Ranked lefts o (count_of l) (mark_at lefts i) (span_at spans i).low
      low i s =
          subst (λ (j : ℕ). Ranked lefts o (count_of l) (mark_at lefts j) (span_at spans j).low) s.there (L.ranked s.place (omega arith) s.inside)

-- ---- what the numbers tell

-- what is counted for one is counted for the other
flag-most : (a b : Bool) → (a ≡ false → b ≡ false) → flag a ≤ flag b
flag-most true b h = omega arith
flag-most false b h = simp (h refl) (omega arith)

flag-less : {a b : Bool} → a ≡ true → b ≡ false → flag a < flag b
flag-less e f = simp (e, f) (omega arith)

module _ {l : List ℤ} (L : Listable l) (i j : ℕ) (hi : i < count_of l) (hj : j < count_of l) where
  abbrev ends : Point
  ends = right_end (object_at l i)

  abbrev begins : ℕ → Point
  begins k = left_end (object_at l k)

  ends-point : APoint ends
  ends-point = (right-end-fine (L.each i hi)).point

  begins-point : (k : ℕ) → k < count_of l → APoint (begins k)
  begins-point k h = (left-end-fine (L.each k h)).point

  -- what begins not right of where i ends begins left of j; and j itself is counted for its own beginning alone
  apart-less : is_left ends (begins j) ≡ true → high_of l i < low_of l j
  unfolding not_right
  apart-less e =
      sum_less (λ k. flag (is_left ends (begins k))) (λ k. flag (is_left (begins j) (begins k))) (count_of l)
      (λ k h. flag-most _ _
      (λ f. let b = begins-point k h in left_not b (begins-point j hj) (most-less-trans b ends-point (begins-point j hj) f e)))
      j hj (flag-less e (left-self (begins-point j hj)))

  meet-most : is_left ends (begins j) ≡ false → low_of l j ≤ high_of l i
  unfolding not_right
  meet-most e =
      sum-most (λ k. flag (is_left (begins j) (begins k))) (λ k. flag (is_left ends (begins k))) (count_of l)
      (λ k h. flag-most _ _ (λ f. most-trans (begins-point k h) (begins-point j hj) ends-point f e))

  pub numbers-tell : ltb (high_of l i) (low_of l j) ≡ ends_before (object_at l i) (object_at l j)
  unfolding ends_before
  numbers-tell = go (is_left ends (begins j)) refl
    where
      go : (t : Bool) → is_left ends (begins j) ≡ t → ltb (high_of l i) (low_of l j) ≡ is_left ends (begins j)
      go true e = lt-ltb (high_of l i) (low_of l j) (apart-less e) ∙ sym e
      go false e = le-ltb (high_of l i) (low_of l j) (meet-most e) ∙ sym e

neither : (a b : Bool) → not a && not b ≡ not (a || b)
neither true b = refl
neither false b = refl

pub spans-near : {l : List ℤ} {s : List Span} → Listable l → Spans l s → (i j : ℕ) → i < count_of l → j < count_of l
    → near_span (span_at s i) (span_at s j) ≡ near_of l i j
unfolding near
spans-near {l} {s} L S i j hi hj =
    (λ k. not (ltb (S.high_is i hi k) (S.low_is j hj k)) && not (ltb (S.high_is j hj k) (S.low_is i hi k)))
    ∙ (λ k. not (numbers-tell L i j hi hj k) && not (numbers-tell L j i hj hi k))
    ∙ neither (ends_before (object_at l i) (object_at l j)) (ends_before (object_at l j) (object_at l i))

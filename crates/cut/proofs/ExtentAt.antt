-- The extent of an object is that of its cut piece, and what stands apart shares nothing. To cite:
--   extent-at      for every R of 1,000,000,000,000,000 or more: the piece goes from its left end to its right end
--   ends-left      so too: where one ends left of where another begins, every place of it is left of every place of the other
--   apart_none     two objects that are not near share nothing
--   near-swap      near does not depend on the order of the two
use Rattle.std.specs.Prelude.{◌≡◌, refl, Bool, true, false, cond, not, ◌⊎◌, [], ◌∷◌, ℤ, pos, neg_ℤ, ◌*ℤ◌, ◌≤ℤ◌, ◌<ℤ◌}
use Rattle.std.proofs.Common.{ap, inl, inr, ⊎_elim}
use Rattle.std.proofs.Math.Bool.{or_comm}
use Rattle.std.specs.Int.Signed.{≤ℤ_refl, lt_z_yes, le_z_yes, clash_ℤ}
use Rattle.whole.specs.Reify.{reify, reading, solve, val_pos}
use Rattle.whole.specs.Order.{le-nn, nn-add, nn-mul, le-or-lt, <-≤, <-≤-trans}
use Rattle.whole.specs.Cert.{nn-eq, le-by}
use Rattle.whole.specs.Fraction.{Fraction, Equal, AtMost, Less}
use Rattle.whole.specs.FractionLaws.{at-most-equal, at-most-trans, at-most-or-less}
use Rattle.sheet.specs.declared.Object.{Object}
use Rattle.sheet.specs.Figure.{Vec, figure}
use Rattle.sheet.specs.Refusal.{Accepted}
use Rattle.sheet.proofs.RefusalLaws.{accepted-drawn}
use Rattle.sheet.specs.Ends.{first_end, last_end}
use Rattle.sheet.proofs.EndsLaws.{first-end-fine, last-end-fine}
use Rattle.sheet.specs.Flags.{either, isnt-not}
use Rattle.sheet.specs.Crossing.{none, crossing_of}
use Rattle.sheet.specs.Extent.{is_left, left_end, right_end, ends_before, near}
use Rattle.cut.specs.Bounds.{order_need}
use Rattle.cut.specs.Place.{Place, Spot, put, spot, place_of}
use Rattle.cut.specs.Cut.{OnLine, Upto, Lies, Shared}
use Rattle.cut.specs.Ordinary.{way}
use Rattle.cut.specs.Claims.{EndsHold}
use Rattle.cut.specs.Extents.{Extends}
use Rattle.cut.proofs.Line.{size²}
use Rattle.cut.proofs.Demand.{from-small}
use Rattle.cut.proofs.AtTheBounds.{at-the-small-bound}
use Rattle.cut.proofs.JointAt.{on-its-line, way-length}
use Rattle.cut.proofs.LeftLaws.{left_less, not-left-most, left-end-fine, right-end-fine}

-- ---- what is farther along a line is farther in x, one way or the other

module _ {p d : Vec} {S T : Spot} (len : pos 0 <ℤ size² d) (s : OnLine p d S) (t : OnLine p d T) (u : Upto d S T) where
  rises : pos 0 ≤ℤ d.x → AtMost (place_of S).across (place_of T).across
  rises h = record {
    at_most =
        le-by (size² d) len _
        (nn-add (nn-mul h (le-nn u.upto)) (nn-add (nn-eq (neg_ℤ (d.y *ℤ S.W)) t.online) (nn-eq (d.y *ℤ T.W) s.online)))
        (reify (d.x ∷ d.y ∷ p.x ∷ p.y ∷ S.X ∷ S.Y ∷ S.W ∷ T.X ∷ T.Y ∷ T.W ∷ [])
        (λ ρ v. simp (reading, v 0, v 1, v 2, v 3, v 4, v 5, v 6, v 7, v 8, v 9) (solve _ _ _ tt)));
  }

  falls : d.x ≤ℤ pos 0 → AtMost (place_of T).across (place_of S).across
  falls h = record {
    at_most =
        le-by (size² d) len _
        (nn-add (nn-mul (le-nn h) (le-nn u.upto)) (nn-add (nn-eq (d.y *ℤ S.W) t.online) (nn-eq (neg_ℤ (d.y *ℤ T.W)) s.online)))
        (reify (d.x ∷ d.y ∷ p.x ∷ p.y ∷ S.X ∷ S.Y ∷ S.W ∷ T.X ∷ T.Y ∷ T.W ∷ [])
        (λ ρ v. simp (reading, v 0, v 1, v 2, v 3, v 4, v 5, v 6, v 7, v 8, v 9, val_pos ρ) (solve _ _ _ tt)));
  }

-- the x of a place over one denominator is its x
spot-x : (P : Place) → Equal (place_of (spot P)).across P.across
spot-x P = record {
  equal = reify (P.across.num ∷ P.across.den ∷ P.up.den ∷ []) (λ ρ v. simp (reading, v 0, v 1, v 2) (solve _ _ _ tt));
}

-- of two places of a piece, Q not before P, by the x of the piece's direction
module _ {R : ℤ} {o : Object} (a : Accepted o) (P Q : Place) (p : Lies R o P) (q : Lies R o Q) (u : Upto (way (figure o)) (spot P) (spot Q)) where
  goes-right : pos 0 ≤ℤ (way (figure o)).x → AtMost P.across Q.across
  goes-right h =
      at-most-equal (spot-x P) (spot-x Q)
      (rises (way-length (accepted-drawn a)) (on-its-line p.lies) (on-its-line q.lies) u h)

  goes_left : (way (figure o)).x ≤ℤ pos 0 → AtMost Q.across P.across
  goes_left h =
      at-most-equal (spot-x Q) (spot-x P)
      (falls (way-length (accepted-drawn a)) (on-its-line p.lies) (on-its-line q.lies) u h)

-- ---- between the two ends, in x

-- S is not left of one of the two, and not right of one of them
record Amid (E F S : Fraction) : Type 0 where
  over : AtMost E S ⊎ AtMost F S
  under : AtMost S E ⊎ AtMost S F

module _ {R : ℤ} {o : Object} (a : Accepted o) (e : EndsHold R o) where
  abbrev E : Place
  E = put R (first_end o) e.first_above

  abbrev F : Place
  F = put R (last_end o) e.last_above

  amid : (P : Place) → Lies R o P → Amid E.across F.across P.across
  amid P p = go (le-or-lt (pos 0) (way (figure o)).x)
    where
      go : (pos 0 ≤ℤ (way (figure o)).x) ⊎ ((way (figure o)).x <ℤ pos 0) → Amid E.across F.across P.across
      go (inl h) = record {
        over = inl (goes-right a E P e.first_on p (e.not-before P p) h);
        under = inr (goes-right a P F p e.last_on (e.not_beyond P p) h);
      }
      go (inr h) = record {
        over = inr (goes_left a P F p e.last_on (e.not_beyond P p) (<-≤ h));
        under = inl (goes_left a E P e.first_on p (e.not-before P p) (<-≤ h));
      }

-- ---- the law: the left one of the two ends is at most each, the right one at least

pub extent-at : {R : ℤ} → pos 1000000000000000 ≤ℤ R → {o : Object} → Accepted o → Extends R o (left_end o) (right_end o)
unfolding left_end right_end
extent-at {R} h_r {o} a = go (is_left (last_end o) (first_end o)) refl
  where
    e : EndsHold R o
    e = (from-small R h_r).ends o a

    need : pos order_need <ℤ R
    need = <-≤-trans (lt_z_yes tt) h_r

    go : (t : Bool) → is_left (last_end o) (first_end o) ≡ t → Extends R o (cond t (last_end o) (first_end o)) (cond t (first_end o) (last_end o))
    go true q =
        let l = (left_less need (last-end-fine a).point (first-end-fine a).point e.last_above e.first_above).0 q in
        let m : AtMost (F a e).across (E a e).across = record { at_most = <-≤ l.less } in
        record {
          left_above = e.last_above;
          right_above = e.first_above;
          left_on = e.last_on;
          right_on = e.first_on;
          none_left = λ P p. ⊎_elim (λ u. at-most-trans m u) (λ u. u) (amid a e P p).over;
          none_right = λ P p. ⊎_elim (λ u. u) (λ u. at-most-trans u m) (amid a e P p).under;
        }
    go false q =
        let m = (not-left-most need (last-end-fine a).point (first-end-fine a).point e.last_above e.first_above).0 q in
        record {
          left_above = e.first_above;
          right_above = e.last_above;
          left_on = e.first_on;
          right_on = e.last_on;
          none_left = λ P p. ⊎_elim (λ u. u) (λ u. at-most-trans m u) (amid a e P p).over;
          none_right = λ P p. ⊎_elim (λ u. at-most-trans u m) (λ u. u) (amid a e P p).under;
        }

-- ---- what stands apart

module _ {R : ℤ} (h_r : pos 1000000000000000 ≤ℤ R) {a b : Object} (s : Accepted a) (t : Accepted b) where
  pub ends-left : ends_before a b ≡ true → (P Q : Place) → Lies R a P → Lies R b Q → Less P.across Q.across
  unfolding ends_before
  ends-left h P Q p q = go (at-most-or-less Q.across P.across)
    where
      -- from the left end of b to Q, on to P, and to the right end of a
      go : AtMost Q.across P.across ⊎ Less P.across Q.across → Less P.across Q.across
      go (inr l) = l
      go (inl m) =
          let x = extent-at h_r s in
          let y = extent-at h_r t in
          let l = (left_less (<-≤-trans (lt_z_yes tt) h_r) (right-end-fine s).point (left-end-fine t).point x.right_above y.left_above).0 h in
          clash_ℤ l.less (at-most-trans (y.none_left Q q) (at-most-trans m (x.none_right P p))).at_most

-- a place of both would be left of itself
pub apart_none : {a b : Object} → Accepted a → Accepted b → near a b ≡ false → crossing_of a b ≡ none
unfolding near
apart_none {a} {b} s t h =
    (at-the-small-bound.crossings a b s t).none_exactly.1 (record { nothing = λ P u. go P u ((either _ _).0 ((isnt-not _).0 h)) })
  where
    go : (P : Place) → Shared (pos 1000000000000000) a b P → (ends_before a b ≡ true) ⊎ (ends_before b a ≡ true) → ⊥
    go P u (inl e) = clash_ℤ (ends-left (le_z_yes tt) s t e P P u.on_first u.on_second).less (≤ℤ_refl _)
    go P u (inr e) = clash_ℤ (ends-left (le_z_yes tt) t s e P P u.on_second u.on_first).less (≤ℤ_refl _)

pub near-swap : (a b : Object) → near a b ≡ near b a
unfolding near
near-swap a b = ap not (or_comm (ends_before a b) (ends_before b a))

-- The laws of marks: what is left is the order of the points they are of. To cite:
--   left-mark               one mark is left of another exactly where its point is left of the other's
--   of_end, end-sound       the mark of an end is one; its numbers are such as the code may reckon with
-- and of marks of ends:
--   left_not, left-self     a < b is not b < a; a < a never is
--   most-trans              a ≤ b ≤ c gives a ≤ c, where a ≤ b is that b is not left of a
--   less-trans, most-less   a < b ≤ c and a ≤ b < c give a < c
-- Assumes nothing.
use Rattle.std.specs.Prelude.{◌≡◌, refl, Bool, true, false, cond, ℤ, pos, ◌-ℤ◌, ◌*ℤ◌}
use Rattle.std.proofs.Common.{sym, ◌∙◌, ap, subst}
use Rattle.std.proofs.Math.IntN.{ℤ_discrete}
use Rattle.std.specs.Int.Signed.{lt_z}
use Rattle.whole.specs.Sign.{sgn}
use Rattle.whole.specs.SignLaws.{sgn-zero}
use Rattle.whole.specs.Flag.{eq_z}
use Rattle.whole.specs.Tests.{eq-eq_z, ne-eq_z}
use Rattle.whole.specs.Choice.{or_else}
use Rattle.whole.specs.ChoiceLaws.{or-next, or-ne}
use Rattle.sheet.specs.declared.Point.{Point}
use Rattle.sheet.specs.PointsLaws.{point-sizes}
use Rattle.sheet.proofs.EndsLaws.{Fine}
use Rattle.sheet.specs.Expansions.{order-in-x}
use Rattle.sheet.specs.Extent.{is_left}
use Rattle.cut.proofs.LeftLaws as points
use Rattle.listing.specs.declared.extents.Mark.{Mark}
use Rattle.listing.specs.Marks.{mark_of, OfEnd, Sound, is_left_mark}

-- ---- the test is that of points

abbrev below : ℤ → Bool
below z = lt_z z (pos 0)

one-sign : (x y : ℤ) → cond (eq_z x (pos 0)) (below y) (below x) ≡ below (or_else (sgn x) (sgn y))
one-sign x y = go (ℤ_discrete x (pos 0))
  where
    go : Dec (x ≡ pos 0) → cond (eq_z x (pos 0)) (below y) (below x) ≡ below (or_else (sgn x) (sgn y))
    go (yes z) =
        let e : cond (eq_z x (pos 0)) (below y) (below x) ≡ below y = simp (eq-eq_z z) in
        e ∙ sym (ap below (or-next (sgn y) (ap sgn z ∙ sgn-zero)) ∙ points.sign_below y)
    go (no d) =
        let e : cond (eq_z x (pos 0)) (below y) (below x) ≡ below x = simp (ne-eq_z d) in
        e ∙ sym (ap below (or-ne x (sgn y) d) ∙ points.sign_below x)

pub left-mark : (p q : Point) → is_left_mark (mark_of p) (mark_of q) ≡ is_left p q
unfolding is_left is_left_mark
left-mark p q = one-sign (p.mx *ℤ q.w -ℤ q.mx *ℤ p.w) (p.nx *ℤ q.w -ℤ q.nx *ℤ p.w) ∙ sym (ap below (order-in-x p q))

-- ---- marks of ends

pub of_end : {p : Point} → Fine p → OfEnd (mark_of p)
of_end {p} f = record { point = p; fine = f; is = refl }

pub end-sound : {a : Mark} → OfEnd a → Sound a
end-sound s =
    let f = s.fine in
    subst Sound (sym s.is) (record {
      in_m = (point-sizes f.point).in_mx;
      in_n = f.slim.in_nx;
      in-w = f.slim.in-w.at_most;
    })

-- ---- their order, from that of the points

by-points : {a b : Mark} (s : OfEnd a) (t : OfEnd b) → is_left_mark a b ≡ is_left s.point t.point
by-points s t = (λ i. is_left_mark (s.is i) (t.is i)) ∙ left-mark s.point t.point

pub left-self : {a : Mark} → OfEnd a → is_left_mark a a ≡ false
left-self s = by-points s s ∙ points.left-self s.fine.point

module _ {a b : Mark} (s : OfEnd a) (t : OfEnd b) where
  as-points : {u : Bool} → is_left_mark a b ≡ u → is_left s.point t.point ≡ u
  as-points e = sym (by-points s t) ∙ e

  pub left_not : is_left_mark a b ≡ true → is_left_mark b a ≡ false
  left_not e = by-points t s ∙ points.left_not s.fine.point t.fine.point (as-points e)

module _ {a b c : Mark} (s : OfEnd a) (t : OfEnd b) (u : OfEnd c) where
  pub most-trans : is_left_mark b a ≡ false → is_left_mark c b ≡ false → is_left_mark c a ≡ false
  most-trans e f = by-points u s ∙ points.most-trans s.fine.point t.fine.point u.fine.point (as-points t s e) (as-points u t f)

  pub less-trans : is_left_mark a b ≡ true → is_left_mark c b ≡ false → is_left_mark a c ≡ true
  less-trans e f = by-points s u ∙ points.less-most-trans s.fine.point t.fine.point u.fine.point (as-points s t e) (as-points u t f)

  pub most-less : is_left_mark b a ≡ false → is_left_mark b c ≡ true → is_left_mark a c ≡ true
  most-less e f = by-points s u ∙ points.most-less-trans s.fine.point t.fine.point u.fine.point (as-points t s e) (as-points t u f)

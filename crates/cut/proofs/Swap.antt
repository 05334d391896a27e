-- What follows for crossing itself, and for joints, by looking at one R. To cite:
--   crossing-swap, joint-swap, kept-swap          the two objects changed over
--   turned-lies                                   a segment or a line with p and q changed over is the same piece
--   crossing-turned, joint-turned, kept-turned    so with its arrow turned round it shares the same; of the second object too, by the laws above
--   crossing-self                                 an object with itself
use Rattle.std.specs.Prelude.{◌≡◌, refl, Bool, ◌⊎◌, ◌↔◌, [], ◌∷◌, ℤ, pos, negsuc, ◌*ℤ◌, ◌<ℤ◌}
use Rattle.std.proofs.Common.{sym, ◌∙◌, ap, subst, inl, inr}
use Rattle.std.specs.Int.Signed.{lt_z_yes, le_z_yes}
use Rattle.whole.specs.Laws.{mul-one}
use Rattle.whole.specs.Reify.{reify, reading, solve, val-negsuc}
use Rattle.whole.specs.Order.{le-nn, le-cert}
use Rattle.whole.specs.Cert.{z-eq, eq-cert}
use Rattle.sheet.specs.declared.Object.{Object}
use Rattle.sheet.specs.declared.Point.{Point}
use Rattle.sheet.specs.Figure.{Vec, ◌⇀◌, Figure, segment, line, first, second, figure}
use Rattle.sheet.specs.Refusal.{Accepted}
use Rattle.sheet.proofs.RefusalLaws.{WithinBoth, Proper, kind-segment, kind-line, Drawn, draw_segment, draw_ray, draw_line, draw_side, accepted-drawn}
use Rattle.sheet.specs.PointFacts.{APoint}
use Rattle.sheet.specs.PointsLaws.{point-is}
use Rattle.sheet.specs.Crossing.{Meeting, point, many, crossing_of}
use Rattle.sheet.specs.Joint.{joint, kept}
use Rattle.sheet.proofs.JointLaws.{joint-as, kept-as, joint-over, kept-over}
use Rattle.sheet.proofs.ReversedLaws.{reversed, reversed-accepted, reversed_end}
use Rattle.cut.specs.Place.{Place, put, Spot, spot, fixed}
use Rattle.cut.specs.Cut.{OnLine, Upto, InSquare, On, on_segment, on_ray, on_line, Lies, Shared}
use Rattle.cut.specs.Claims.{PointGiven}
use Rattle.cut.proofs.Line.{upto-refl, online-p, online-q, upto-pq}
use Rattle.cut.proofs.Square.{near, segment-p, segment-q}
use Rattle.cut.proofs.Same.{of_segment, of_line}
use Rattle.cut.proofs.Means.{Both, Means, means_many}
use Rattle.cut.proofs.SidesMeet.{same-says}
use Rattle.cut.proofs.SameNumbers.{same-numbers-at}
use Rattle.cut.proofs.CrossingAt.{Shares, shares_none, shares_point, shares_many, shares-by, crossing-shares, point_said, none-when, many-when, point_when}

-- the frame to look at: any that is large enough would do
abbrev frame : ℤ
frame = pos 1000000000000000

-- ---- two pairs whose pieces have the same places in common

module _ {a b c d : Object} (sa : Accepted a) (sb : Accepted b) (sc : Accepted c) (sd : Accepted d) where
  crossing-same : ((P : Place) → Shared frame a b P ↔ Shared frame c d P) → crossing_of a b ≡ crossing_of c d
  crossing-same both = go (crossing-shares (le_z_yes tt) sa sb)
    where
      there : (P : Place) → Shared frame a b P → Shared frame c d P
      there P = (both P).0

      back : (P : Place) → Shared frame c d P → Shared frame a b P
      back P = (both P).1

      other : Shares frame c d (crossing_of c d)
      other = crossing-shares (le_z_yes tt) sc sd

      is : {e : Point} → APoint e → (h : pos 0 <ℤ e.w) → PointGiven frame (crossing_of c d) (put frame e h) → point e ≡ crossing_of c d
      is {e} i h r =
          let j = (point-is r.e).0 (point_said other r.e r.is_said).is-point in
          ap point (same-numbers-at {R = frame} (lt_z_yes tt) i j h r.above r.there) ∙ sym r.is_said

      go : {m : Meeting} → Shares frame a b m → m ≡ crossing_of c d
      go (shares_none n) = sym (none-when other (record { nothing = λ P r. n.nothing P (back P r) }))
      go (shares_point {e = e} h i o) =
          is i h (point_when other (put frame e h) (record {
            is_shared = there (put frame e h) o.is_shared;
            no_other = λ Q r. o.no_other Q (back Q r);
          }))
      go (shares_many w) = sym (many-when other (record {
        one = w.one;
        other = w.other;
        one_shared = there w.one w.one_shared;
        other_shared = there w.other w.other_shared;
        differ = w.differ;
      }))

-- ---- changed over

shared-swap : {R : ℤ} {a b : Object} (P : Place) → Shared R a b P → Shared R b a P
shared-swap P s = record { on_first = s.on_second; on_second = s.on_first }

module _ {a b : Object} (s : Accepted a) (t : Accepted b) where
  pub crossing-swap : crossing_of a b ≡ crossing_of b a
  crossing-swap = crossing-same s t t s (λ P. (shared-swap P, shared-swap P))

  pub joint-swap : joint a b ≡ joint b a
  joint-swap = joint-over a b crossing-swap

  pub kept-swap : (joints : Bool) → kept joints a b ≡ kept joints b a
  kept-swap = kept-over a b crossing-swap

-- ---- with its arrow turned round: p and q changed over

module _ (p q : Vec) where
  turned-online : {S : Spot} → OnLine p (p ⇀ q) S → OnLine q (q ⇀ p) S
  turned-online {S} h = record {
    online =
        eq-cert _ (z-eq (negsuc 0) h.online)
        (reify (p.x ∷ p.y ∷ q.x ∷ q.y ∷ S.X ∷ S.Y ∷ S.W ∷ [])
        (λ ρ v. simp (reading, v 0, v 1, v 2, v 3, v 4, v 5, v 6, val-negsuc ρ) (solve _ _ _ tt)));
  }

  turned-upto : {S T : Spot} → Upto (p ⇀ q) S T → Upto (q ⇀ p) T S
  turned-upto {S} {T} h = record {
    upto =
        le-cert _ (le-nn h.upto)
        (reify (p.x ∷ p.y ∷ q.x ∷ q.y ∷ S.X ∷ S.Y ∷ S.W ∷ T.X ∷ T.Y ∷ T.W ∷ [])
        (λ ρ v. simp (reading, v 0, v 1, v 2, v 3, v 4, v 5, v 6, v 7, v 8, v 9) (solve _ _ _ tt)));
  }

  turned-segment : {R : ℤ} {S : Spot} → On R (segment p q) S → On R (segment q p) S
  turned-segment s =
      let t = of_segment s in
      on_segment (record { on = turned-online t.on; not_before_p = turned-upto t.not_beyond_q; not_beyond_q = turned-upto t.not_before_p })

  turned-line : {R : ℤ} {S : Spot} → On R (line p q) S → On R (line q p) S
  turned-line s = let t = of_line s in on_line (record { on = turned-online t.on; cut = t.cut })

-- the same piece at every R
pub turned-lies : {R : ℤ} (o : Object) → (o.kind ≡ pos 1) ⊎ (o.kind ≡ pos 3) → (P : Place) → Lies R o P ↔ Lies R (reversed o) P
turned-lies {R} o k P = go k
  where
    by : {f g : Figure} → figure o ≡ f → figure (reversed o) ≡ g
        → (On R f (spot P) → On R g (spot P)) → (On R g (spot P) → On R f (spot P)) → Lies R o P ↔ Lies R (reversed o) P
    by f g to from = (
      λ l. record { lies = subst (λ (h : Figure). On R h (spot P)) (sym g) (to (subst (λ (h : Figure). On R h (spot P)) f l.lies)) },
      λ l. record { lies = subst (λ (h : Figure). On R h (spot P)) (sym f) (from (subst (λ (h : Figure). On R h (spot P)) g l.lies)) },
    )

    go : (o.kind ≡ pos 1) ⊎ (o.kind ≡ pos 3) → Lies R o P ↔ Lies R (reversed o) P
    go (inl e) =
        by (kind-segment o.px o.py o.qx o.qy e) (kind-segment o.qx o.qy o.px o.py e)
        (turned-segment (first o) (second o)) (turned-segment (second o) (first o))
    go (inr e) =
        by (kind-line o.px o.py o.qx o.qy e) (kind-line o.qx o.qy o.px o.py e)
        (turned-line (first o) (second o)) (turned-line (second o) (first o))

module _ {a b : Object} (k : (a.kind ≡ pos 1) ⊎ (a.kind ≡ pos 3)) (s : Accepted a) (t : Accepted b) where
  pub crossing-turned : crossing_of (reversed a) b ≡ crossing_of a b
  crossing-turned =
      crossing-same (reversed-accepted k s) t s t (λ P. (
        λ r. record { on_first = (turned-lies a k P).1 r.on_first; on_second = r.on_second },
        λ r. record { on_first = (turned-lies a k P).0 r.on_first; on_second = r.on_second },
      ))

  pub joint-turned : joint (reversed a) b ≡ joint a b
  joint-turned = joint-as (reversed a) b a b crossing-turned (reversed_end a k) (λ e. refl)

  pub kept-turned : (joints : Bool) → kept joints (reversed a) b ≡ kept joints a b
  kept-turned = kept-as (reversed a) b a b crossing-turned (reversed_end a k) (λ e. refl)

-- ---- with itself: p and q are two places of it, or the corners

two : {f : Figure} {p q : Vec} → Proper p q → On frame f (fixed p) → On frame f (fixed q)
    → Means frame (Both (On frame f) (On frame f)) many
two {p = p} {q = q} a f g =
    means_many (fixed p) (fixed q) (record { first = f; second = f }) (record { first = g; second = g })
    (λ e. a.differ (whole e.same_x) (whole e.same_y))
  where
    whole : {x y : ℤ} → x *ℤ pos 1 ≡ y *ℤ pos 1 → x ≡ y
    whole {x} {y} e = sym (mul-one x) ∙ e ∙ mul-one y

inside : {a : Vec} → WithinBoth 2000 a → InSquare frame (fixed a)
inside s = near s.in_x s.in_y (le_z_yes tt)

self_says : {f : Figure} → Drawn f → Means frame (Both (On frame f) (On frame f)) many
self_says (draw_side {n = n}) = same-says (lt_z_yes tt) n
self_says (draw_segment {p = p} {q = q} a) = two a (on_segment (segment-p p q)) (on_segment (segment-q p q))
self_says (draw_line {p = p} {q = q} a) =
    two a (on_line (record { on = online-p p (p ⇀ q); cut = inside a.small_p }))
    (on_line (record { on = online-q p q; cut = inside a.small_q }))
self_says (draw_ray {p = p} {q = q} a) =
    two a
    (on_ray (record { of_line = record { on = online-p p (p ⇀ q); cut = inside a.small_p }; from_p = upto-refl (p ⇀ q) (fixed p) }))
    (on_ray (record { of_line = record { on = online-q p q; cut = inside a.small_q }; from_p = upto-pq p q }))

pub crossing-self : {a : Object} → Accepted a → crossing_of a a ≡ many
crossing-self {a} s = go (shares-by (self_says (accepted-drawn s)))
  where
    go : Shares frame a a many → crossing_of a a ≡ many
    go (shares_many w) = many-when (crossing-shares (le_z_yes tt) s s) w

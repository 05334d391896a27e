-- A joint is one of the cut pieces. To cite:
--   joint-at        at an R of which demand 3 holds: `joint a b` exactly when the pieces are joined
--   joint-exactly   so for every R of 1,000,000,000,000,000 or more, and so for every R of demand 3
--   base, on-its-line, way-length   every piece is on a line through its base, in its own direction, which has a length
use Rattle.std.specs.Prelude.{◌≡◌, true, ◌⊎◌, ◌↔◌, [], ◌∷◌, ℤ, pos, negsuc, ◌+ℤ◌, ◌*ℤ◌, ◌≤ℤ◌, ◌<ℤ◌}
use Rattle.std.proofs.Common.{sym, ap, ap₂, inl, inr}
use Rattle.whole.specs.Reify.{reify, reading, solve, val-negsuc}
use Rattle.whole.specs.Order.{pp-pos}
use Rattle.whole.specs.Cert.{z-eq, z-add, eq-cert}
use Rattle.sheet.specs.declared.Object.{Object}
use Rattle.sheet.specs.declared.Point.{Point}
use Rattle.sheet.specs.Figure.{Vec, Side, left, bottom, right, top, out_x, out_y, Figure, segment, ray, line, side, vec, figure}
use Rattle.sheet.specs.Refusal.{Accepted}
use Rattle.sheet.proofs.RefusalLaws.{Drawn, draw_segment, draw_ray, draw_line, draw_side, accepted-drawn}
use Rattle.sheet.specs.Points.{is_point}
use Rattle.sheet.specs.Ends.{first_end, last_end}
use Rattle.sheet.proofs.EndsLaws.{first-end-is-point, last-end-is-point}
use Rattle.sheet.specs.Joint.{joint}
use Rattle.sheet.proofs.JointLaws.{Joint, joint-is}
use Rattle.cut.specs.Place.{Place, SamePlace, put, Spot, spot}
use Rattle.cut.specs.Cut.{OnLine, Upto, OnSide, On, on_segment, on_ray, on_line, on-side, Lies}
use Rattle.cut.specs.Ordinary.{way}
use Rattle.cut.specs.Claims.{EndsHold, CrossingHolds, Holds}
use Rattle.cut.specs.Joined.{EndPlace, is_first, is_last, Joined}
use Rattle.cut.proofs.Line.{size²}
use Rattle.cut.proofs.Square.{length-pq, unit}
use Rattle.cut.proofs.Same.{same-sym, same_place, same_spot, on_same, upto-same, same-upto-left, same-upto}
use Rattle.cut.proofs.Demand.{from-small}

-- ---- every piece is on a line, in its own direction

-- a place of that line: of a side the middle
abbrev pub base : ℤ → Figure → Vec
base R (segment p q) = p
base R (ray p q) = p
base R (line p q) = p
base R (side n) = vec (out_x n *ℤ R) (out_y n *ℤ R)

side-line : {R : ℤ} {n : Side} {S : Spot} → OnSide R n S → OnLine (base R (side n)) (way (side n)) S
side-line {R} {n} {S} h = record {
  online =
      eq-cert _ (z-add (z-eq (negsuc 0) h.edge) (z-eq (R *ℤ S.W) (unit n)))
      (reify (R ∷ out_x n ∷ out_y n ∷ S.X ∷ S.Y ∷ S.W ∷ [])
      (λ ρ v. simp (reading, v 0, v 1, v 2, v 3, v 4, v 5, val-negsuc ρ) (solve _ _ _ tt)));
}

pub on-its-line : {R : ℤ} {f : Figure} {S : Spot} → On R f S → OnLine (base R f) (way f) S
on-its-line (on_segment s) = s.on
on-its-line (on_ray s) = s.of_line.on
on-its-line (on_line s) = s.on
on-its-line (on-side s) = side-line s

side-length : (n : Side) → pos 0 <ℤ size² (way (side n))
side-length left = pp-pos 0
side-length bottom = pp-pos 0
side-length right = pp-pos 0
side-length top = pp-pos 0

pub way-length : {f : Figure} → Drawn f → pos 0 <ℤ size² (way f)
way-length (draw_segment a) = length-pq a
way-length (draw_ray a) = length-pq a
way-length (draw_line a) = length-pq a
way-length (draw_side {n}) = side-length n

-- of two places of one piece, neither before the other: the same
one_place : {R : ℤ} {o : Object} → Accepted o → (P Q : Place) → Lies R o P → Lies R o Q
    → Upto (way (figure o)) (spot P) (spot Q) → Upto (way (figure o)) (spot Q) (spot P) → SamePlace P Q
one_place a P Q p q u v = same_place P Q (same-upto (way-length (accepted-drawn a)) (on-its-line p.lies) (on-its-line q.lies) u v)

-- ---- the ends of a piece

back-again : (P Q : Place) → SamePlace P Q → SamePlace Q P
back-again P Q e = same_place Q P (same-sym (same_spot P Q e))

-- an end that is written in another way
end_moved : {R : ℤ} {o : Object} {P Q : Place} → SamePlace P Q → EndPlace R o P → EndPlace R o Q
end_moved {P = P} {Q = Q} e (is_first p f) =
    let s = same_spot P Q e in is_first (record { lies = on_same s p.lies }) (λ T t. same-upto-left s (f T t))
end_moved {P = P} {Q = Q} e (is_last p f) =
    let s = same_spot P Q e in is_last (record { lies = on_same s p.lies }) (λ T t. upto-same s (f T t))

module _ {R : ℤ} {o : Object} (a : Accepted o) (h : EndsHold R o) where
  abbrev first_place : Place
  first_place = put R (first_end o) h.first_above

  abbrev last_place : Place
  last_place = put R (last_end o) h.last_above

  -- the ends of a piece are the places of its two ends
  end-place : (P : Place) → EndPlace R o P ↔ (SamePlace P first_place ⊎ SamePlace P last_place)
  end-place P = (there, back)
    where
      there : EndPlace R o P → SamePlace P first_place ⊎ SamePlace P last_place
      there (is_first p f) = inl (one_place a P first_place p h.first_on (f first_place h.first_on) (h.not-before P p))
      there (is_last p f) = inr (one_place a P last_place p h.last_on (h.not_beyond P p) (f last_place h.last_on))

      back : SamePlace P first_place ⊎ SamePlace P last_place → EndPlace R o P
      back (inl e) = end_moved (back-again P first_place e) (is_first h.first_on h.not-before)
      back (inr e) = end_moved (back-again P last_place e) (is_last h.last_on h.not_beyond)

-- ---- joints

-- equal numbers are at one place
equal-places : (R : ℤ) {e f : Point} (k : pos 0 <ℤ e.w) (l : pos 0 <ℤ f.w) → e ≡ f → SamePlace (put R e k) (put R f l)
equal-places R k l q = record {
  same_across = record { equal = ap₂ ◌*ℤ◌ (ap (λ (z : Point). z.mx *ℤ R +ℤ z.nx) q) (sym (ap (λ (z : Point). z.w) q)) };
  same_up = record { equal = ap₂ ◌*ℤ◌ (ap (λ (z : Point). z.my *ℤ R +ℤ z.ny) q) (sym (ap (λ (z : Point). z.w) q)) };
}

module _ {R : ℤ} (d : Holds R) where
  -- a point is an end by its five numbers just where its place is one
  end-numbers : {o : Object} → Accepted o → {e : Point} → is_point e ≡ true → (k : pos 0 <ℤ e.w)
      → EndPlace R o (put R e k) ↔ ((e ≡ first_end o) ⊎ (e ≡ last_end o))
  end-numbers {o} a {e} i k = (λ h. there ((end-place a n (put R e k)).0 h), λ h. (end-place a n (put R e k)).1 (back h))
    where
      n : EndsHold R o
      n = d.ends o a

      there : SamePlace (put R e k) (first_place a n) ⊎ SamePlace (put R e k) (last_place a n) → (e ≡ first_end o) ⊎ (e ≡ last_end o)
      there (inl q) = inl (d.same_numbers e (first_end o) i (first-end-is-point a).0 k n.first_above q)
      there (inr q) = inr (d.same_numbers e (last_end o) i (last-end-is-point a).0 k n.last_above q)

      back : (e ≡ first_end o) ⊎ (e ≡ last_end o) → SamePlace (put R e k) (first_place a n) ⊎ SamePlace (put R e k) (last_place a n)
      back (inl q) = inl (equal-places R k n.first_above q)
      back (inr q) = inr (equal-places R k n.last_above q)

  pub joint-at : {a b : Object} → Accepted a → Accepted b → (joint a b ≡ true) ↔ Joined R a b
  joint-at {a} {b} s t = (λ h. there ((joint-is a b).0 h), λ j. (joint-is a b).1 (back j))
    where
      c : CrossingHolds R a b
      c = d.crossings a b s t

      there : Joint a b → Joined R a b
      there j =
          let p = c.point_said j.e j.shared in
          record {
            place = put R j.e p.above;
            only = p.only;
            end_of_first = (end-numbers s p.is-point p.above).1 j.end_of_first;
            end_of_second = (end-numbers t p.is-point p.above).1 j.end_of_second;
          }

      back : Joined R a b → Joint a b
      back j =
          let r = c.point_when j.place j.only in
          let p = c.point_said r.e r.is_said in
          record {
            e = r.e;
            shared = r.is_said;
            end_of_first = (end-numbers s p.is-point r.above).0 (end_moved r.there j.end_of_first);
            end_of_second = (end-numbers t p.is-point r.above).0 (end_moved r.there j.end_of_second);
          }

-- "for every R of demand 3", and from 1,000,000,000,000,000 on
pub joint-exactly : (R : ℤ) → pos 1000000000000000 ≤ℤ R → {a b : Object} → Accepted a → Accepted b → (joint a b ≡ true) ↔ Joined R a b
joint-exactly R h_r = joint-at (from-small R h_r)

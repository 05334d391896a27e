-- Places in the square. To cite:
--   square-by, near          in the square, by coordinates; both of them m at most is inside a square of m or more
--   Inner, inner-small       a given place strictly inside
--   larger-square, off-side  in a smaller square: in the larger one too, and on no side of it
--   segment-small, segment-p, segment-q   a segment is as far inside as its ends, and they are on it
--   length-pq                the direction of a proper pair
--   unit, out_within, Turned, turned   the sides' ways out; m follows n; the next side does
use Rattle.std.specs.Prelude.{◌≡◌, refl, List, [], ◌∷◌, ℕ, ℤ, pos, negsuc, neg_ℤ, ◌+ℤ◌, ◌-ℤ◌, ◌*ℤ◌, ◌≤ℤ◌, ◌<ℤ◌}
use Rattle.std.proofs.Common.{subst}
use Rattle.std.proofs.Math.IntN.{ℤ_discrete}
use Rattle.std.specs.Int.Signed.{≤ℤ_refl, clash_ℤ}
use Rattle.whole.specs.Ring.{Expr, var, con, ◌⊕◌, ◌⊖◌, ◌⊗◌, ring}
use Rattle.whole.specs.Reify.{reify, reading, solve, val_pos, val-negsuc}
use Rattle.whole.specs.Order.{le-cert, lt-cert, le-nn, lt-pp, nn-add, nn-mul, nn-pos, nn-sq, pp-add, pp-mul, pp-nn, ≤_trans, ≤-<-trans}
use Rattle.whole.specs.SignLaws.{Signs, signs, minus, nought, plus, neg-pp}
use Rattle.whole.specs.Linear.{lt-one}
use Rattle.whole.specs.Within.{Within}
use Rattle.whole.specs.Bound.{w-pos, w-negsuc, w-lit, w-upper, w-lower}
use Rattle.whole.specs.Cert.{nn-eq, le-by}
use Rattle.sheet.specs.Figure.{Vec, ◌⇀◌, Side, left, bottom, right, top, out_x, out_y, segment}
use Rattle.sheet.specs.Ends.{next_side}
use Rattle.sheet.proofs.RefusalLaws.{WithinBoth, Proper}
use Rattle.sheet.proofs.EndsLaws.{proper-way}
use Rattle.cut.specs.Place.{Spot, fixed}
use Rattle.cut.specs.Cut.{OnLine, Upto, out, InSquare, OfSegment, OnSide, On, on_segment}
use Rattle.cut.proofs.Line.{size², upto-refl, online-p, online-q, upto-pq}

-- ---- by coordinates

pub square-by : {R : ℤ} {S : Spot} → S.X ≤ℤ (R *ℤ S.W) → pos 0 ≤ℤ (R *ℤ S.W +ℤ S.X) → S.Y ≤ℤ (R *ℤ S.W) → pos 0 ≤ℤ (R *ℤ S.W +ℤ S.Y)
    → InSquare R S
square-by {R} {S} xu xl yu yl = record { inside = go }
  where
    ρ : List ℤ
    ρ = R ∷ S.X ∷ S.Y ∷ S.W ∷ []

    by : Expr → Expr → Expr
    by a b = var 0 ⊗ var 3 ⊖ (a ⊗ var 1 ⊕ b ⊗ var 2)

    go : (n : Side) → out n S ≤ℤ (R *ℤ S.W)
    go left = le-cert _ xl (ring ρ (by (con (negsuc 0)) (con (pos 0))) (var 0 ⊗ var 3 ⊕ var 1) tt)
    go bottom = le-cert _ yl (ring ρ (by (con (pos 0)) (con (negsuc 0))) (var 0 ⊗ var 3 ⊕ var 2) tt)
    go right = le-cert _ (le-nn xu) (ring ρ (by (con (pos 1)) (con (pos 0))) (var 0 ⊗ var 3 ⊖ var 1) tt)
    go top = le-cert _ (le-nn yu) (ring ρ (by (con (pos 0)) (con (pos 1))) (var 0 ⊗ var 3 ⊖ var 2) tt)

-- numbers of c at most, c at most R
module _ (R w z c : ℤ) (hw : pos 0 <ℤ w) (R0 : pos 0 ≤ℤ R) (h_r : c ≤ℤ R) where
  below-edge : z ≤ℤ c → z ≤ℤ (R *ℤ w)
  below-edge h =
      le-cert _ (nn-add (nn-add (le-nn h_r) (le-nn h)) (nn-mul R0 (lt-one hw)))
      (reify (R ∷ w ∷ z ∷ c ∷ []) (λ ρ v. simp (reading, v 0, v 1, v 2, v 3, val_pos ρ, val-negsuc ρ) (solve _ _ _ tt)))

  above-edge : neg_ℤ c ≤ℤ z → pos 0 ≤ℤ (R *ℤ w +ℤ z)
  above-edge h =
      le-cert _ (nn-add (nn-add (le-nn h_r) (le-nn h)) (nn-mul R0 (lt-one hw)))
      (reify (R ∷ w ∷ z ∷ c ∷ []) (λ ρ v. simp (reading, v 0, v 1, v 2, v 3, val_pos ρ, val-negsuc ρ) (solve _ _ _ tt)))

pub near : {R : ℤ} {S : Spot} {m : ℕ} → Within m S.X → Within m S.Y → pos m ≤ℤ R → InSquare R S
near {R} {S} {m} hx hy h_r =
    let R0 = ≤_trans (nn-pos m) h_r in
    square-by
    (below-edge R S.W S.X (pos m) S.above R0 h_r (w-upper hx)) (above-edge R S.W S.X (pos m) S.above R0 h_r (w-lower hx))
    (below-edge R S.W S.Y (pos m) S.above R0 h_r (w-upper hy)) (above-edge R S.W S.Y (pos m) S.above R0 h_r (w-lower hy))

pub larger-square : {c R : ℤ} {S : Spot} → c ≤ℤ R → InSquare c S → InSquare R S
larger-square {c} {R} {S} h i = record {
  inside = λ n.
      le-cert _ (nn-add (le-nn (i.inside n)) (nn-mul (le-nn h) (pp-nn S.above)))
      (reify (S.X ∷ S.Y ∷ S.W ∷ out_x n ∷ out_y n ∷ c ∷ R ∷ []) (λ ρ v. simp (reading, v 0, v 1, v 2, v 3, v 4, v 5, v 6) (solve _ _ _ tt)));
}

pub off-side : {c R : ℤ} {S : Spot} {n : Side} → c <ℤ R → InSquare c S → OnSide R n S → ⊥
off-side {c} {R} {S} {n} h i o =
    clash_ℤ
    (lt-cert {a = out n S} {b = R *ℤ S.W} _ (pp-add (pp-mul (lt-pp h) S.above) (le-nn (i.inside n)))
    (reify (S.X ∷ S.Y ∷ S.W ∷ out_x n ∷ out_y n ∷ c ∷ R ∷ []) (λ ρ v. simp (reading, v 0, v 1, v 2, v 3, v 4, v 5, v 6) (solve _ _ _ tt))))
    (subst (λ (z : ℤ). z ≤ℤ out n S) o.edge (≤ℤ_refl (out n S)))

-- ---- strictly inside

pub record Inner (R : ℤ) (p : Vec) : Type 0 where
  pub inner : (n : Side) → out n (fixed p) <ℤ R

pub inner-small : {R : ℤ} {p : Vec} → WithinBoth 2000 p → pos 2000 <ℤ R → Inner R p
inner-small {R} {p} s h = record {
  inner = λ n. ≤-<-trans ((near {R = pos 2000} {S = fixed p} s.in_x s.in_y (≤ℤ_refl (pos 2000))).inside n) h;
}

-- ---- the direction of a proper pair

pp-sq : (a : ℤ) → (a ≡ pos 0 → ⊥) → pos 0 <ℤ (a *ℤ a)
pp-sq a n = go (signs a)
  where
    go : Signs a → pos 0 <ℤ (a *ℤ a)
    go (plus h e) = pp-mul h h
    go (nought z e) = absurd (n z)
    go (minus h e) = lt-cert _ (pp-mul (neg-pp h) (neg-pp h)) (reify (a ∷ []) (λ ρ v. simp (reading, v 0, val_pos ρ) (solve _ _ _ tt)))

length² : (d : Vec) → (d.x ≡ pos 0 → d.y ≡ pos 0 → ⊥) → pos 0 <ℤ size² d
length² d n = go (ℤ_discrete d.x (pos 0))
  where
    go : Dec (d.x ≡ pos 0) → pos 0 <ℤ size² d
    go (yes e) =
        lt-cert _ (pp-add (pp-sq d.y (n e)) (nn-sq d.x))
        (reify (d.x ∷ d.y ∷ []) (λ ρ v. simp (reading, v 0, v 1, val_pos ρ) (solve _ _ _ tt)))
    go (no h) = pp-add (pp-sq d.x h) (nn-sq d.y)

pub length-pq : {p q : Vec} → Proper p q → pos 0 <ℤ size² (p ⇀ q)
length-pq {p} {q} a = length² (p ⇀ q) (proper-way a).moves

-- ---- a segment is as far inside as its ends

segment-in : {c : ℤ} {p q : Vec} {S : Spot} → pos 0 <ℤ size² (p ⇀ q) → InSquare c (fixed p) → InSquare c (fixed q)
    → OnLine p (p ⇀ q) S → Upto (p ⇀ q) (fixed p) S → Upto (p ⇀ q) S (fixed q) → InSquare c S
segment-in {c} {p} {q} {S} len ip iq o u v = record {
  inside = λ n.
      le-by (size² (p ⇀ q)) len _
      (nn-add (nn-add (nn-mul (le-nn v.upto) (le-nn (ip.inside n))) (nn-mul (le-nn u.upto) (le-nn (iq.inside n))))
      (nn-eq (out_x n *ℤ (q.y -ℤ p.y) -ℤ out_y n *ℤ (q.x -ℤ p.x)) o.online))
      (reify (p.x ∷ p.y ∷ q.x ∷ q.y ∷ S.X ∷ S.Y ∷ S.W ∷ out_x n ∷ out_y n ∷ c ∷ [])
      (λ ρ v. simp (reading, v 0, v 1, v 2, v 3, v 4, v 5, v 6, v 7, v 8, v 9, val_pos ρ) (solve _ _ _ tt)));
}

pub segment-small : {R : ℤ} {p q : Vec} {S : Spot} → Proper p q → On R (segment p q) S → InSquare (pos 2000) S
segment-small {R} {p} {q} {S} a (on_segment s) =
    segment-in (length-pq a) (near a.small_p.in_x a.small_p.in_y (≤ℤ_refl (pos 2000)))
    (near a.small_q.in_x a.small_q.in_y (≤ℤ_refl (pos 2000))) s.on s.not_before_p s.not_beyond_q

pub segment-p : (p q : Vec) → OfSegment p q (fixed p)
segment-p p q = record { on = online-p p (p ⇀ q); not_before_p = upto-refl (p ⇀ q) (fixed p); not_beyond_q = upto-pq p q }

pub segment-q : (p q : Vec) → OfSegment p q (fixed q)
segment-q p q = record { on = online-q p q; not_before_p = upto-pq p q; not_beyond_q = upto-refl (p ⇀ q) (fixed q) }

-- ---- the sides' ways out

pub unit : (n : Side) → out_x n *ℤ out_x n +ℤ out_y n *ℤ out_y n ≡ pos 1
unit left = refl
unit bottom = refl
unit right = refl
unit top = refl

pub out_within : (n : Side) → Within 1 (out_x n) × Within 1 (out_y n)
out_within left = (w-negsuc 0, w-lit (w-pos 0) tt)
out_within bottom = (w-lit (w-pos 0) tt, w-negsuc 0)
out_within right = (w-pos 1, w-lit (w-pos 0) tt)
out_within top = (w-lit (w-pos 0) tt, w-pos 1)

-- m follows n
pub record Turned (n m : Side) : Type 0 where
  pub turn_x : out_x m ≡ neg_ℤ (out_y n)
  pub turn_y : out_y m ≡ out_x n

pub turned : (n : Side) → Turned n (next_side n)
turned left = record { turn_x = refl; turn_y = refl }
turned bottom = record { turn_x = refl; turn_y = refl }
turned right = record { turn_x = refl; turn_y = refl }
turned top = record { turn_x = refl; turn_y = refl }

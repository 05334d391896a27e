-- Places along a line. To cite:
--   size²                                  the square of a direction's length
--   upto-refl, upto-trans                  order along a direction
--   online-p, online-q, upto-pq            the given places
--   upto-given, given-upto                 the same order of given places by inner products
--   reverse_twice, length-reverse, online-turn, online-back, upto_turn, upto-back   the reversed direction
--   online-over, upto-over, other_way, par-sym, par-reverse, dot-comm               a parallel direction
-- Assumes nothing of R.
use Rattle.std.specs.Prelude.{◌≡◌, [], ◌∷◌, ℤ, pos, negsuc, neg_ℤ, ◌+ℤ◌, ◌-ℤ◌, ◌*ℤ◌, ◌≤ℤ◌, ◌<ℤ◌}
use Rattle.std.proofs.Common.{subst}
use Rattle.std.proofs.Math.IntN.{neg_ℤ-neg_ℤ}
use Rattle.std.specs.Int.Signed.{≤ℤ_refl}
use Rattle.whole.specs.Reify.{reify, reading, solve, val_pos, val-negsuc}
use Rattle.whole.specs.Order.{le-cert, lt-cert, le-nn, nn-add, nn-mul, nn-sq, pp-add, pp-mul, pp-nn}
use Rattle.whole.specs.Cert.{z-eq, z-add, nn-eq, pp-cancel, le-by, eq-by, eq-cert}
use Rattle.sheet.specs.Figure.{Vec, ◌⇀◌}
use Rattle.sheet.specs.Ends.{reverse}
use Rattle.sheet.specs.Crossing.{dot}
use Rattle.cut.specs.Place.{Spot, fixed}
use Rattle.cut.specs.Cut.{OnLine, along, Upto}

abbrev pub size² : Vec → ℤ
size² d = dot d d

pub upto-refl : (d : Vec) (S : Spot) → Upto d S S
upto-refl d S = record { upto = ≤ℤ_refl (along d S *ℤ S.W) }

pub upto-trans : {d : Vec} {P Q T : Spot} → Upto d P Q → Upto d Q T → Upto d P T
upto-trans {d} {P} {Q} {T} h k = record {
  upto =
      le-by Q.W Q.above _
      (nn-add (nn-mul (pp-nn P.above) (le-nn k.upto)) (nn-mul (pp-nn T.above) (le-nn h.upto)))
      (reify (d.x ∷ d.y ∷ P.X ∷ P.Y ∷ P.W ∷ Q.X ∷ Q.Y ∷ Q.W ∷ T.X ∷ T.Y ∷ T.W ∷ [])
      (λ ρ v. simp (reading, v 0, v 1, v 2, v 3, v 4, v 5, v 6, v 7, v 8, v 9, v 10) (solve _ _ _ tt)));
}

-- ---- the given places

pub online-p : (p d : Vec) → OnLine p d (fixed p)
online-p p d = record {
  online = reify (d.x ∷ d.y ∷ p.x ∷ p.y ∷ []) (λ ρ v. simp (reading, v 0, v 1, v 2, v 3, val_pos ρ) (solve _ _ _ tt));
}

pub online-q : (p q : Vec) → OnLine p (p ⇀ q) (fixed q)
online-q p q = record {
  online = reify (q.x ∷ q.y ∷ p.x ∷ p.y ∷ []) (λ ρ v. simp (reading, v 0, v 1, v 2, v 3, val_pos ρ) (solve _ _ _ tt));
}

pub upto-pq : (p q : Vec) → Upto (p ⇀ q) (fixed p) (fixed q)
upto-pq p q = record {
  upto =
      le-cert _ (nn-add (nn-sq (q.x -ℤ p.x)) (nn-sq (q.y -ℤ p.y)))
      (reify (q.x ∷ q.y ∷ p.x ∷ p.y ∷ []) (λ ρ v. simp (reading, v 0, v 1, v 2, v 3, val_pos ρ) (solve _ _ _ tt)));
}

-- two given places, by inner products
module _ {d a b : Vec} where
  pub upto-given : dot d a ≤ℤ dot d b → Upto d (fixed a) (fixed b)
  upto-given h = record {
    upto =
        le-cert _ (le-nn h)
        (reify (d.x ∷ d.y ∷ a.x ∷ a.y ∷ b.x ∷ b.y ∷ [])
        (λ ρ v. simp (reading, v 0, v 1, v 2, v 3, v 4, v 5, val_pos ρ) (solve _ _ _ tt)));
  }

  pub given-upto : Upto d (fixed a) (fixed b) → dot d a ≤ℤ dot d b
  given-upto h =
      le-cert _ (le-nn h.upto)
      (reify (d.x ∷ d.y ∷ a.x ∷ a.y ∷ b.x ∷ b.y ∷ [])
      (λ ρ v. simp (reading, v 0, v 1, v 2, v 3, v 4, v 5, val_pos ρ) (solve _ _ _ tt)))

-- ---- the reversed direction

pub reverse_twice : (d : Vec) → reverse (reverse d) ≡ d
reverse_twice d = λ i. record { x = neg_ℤ-neg_ℤ d.x i; y = neg_ℤ-neg_ℤ d.y i }

pub online-turn : {p d : Vec} {S : Spot} → OnLine p d S → OnLine p (reverse d) S
online-turn {p} {d} {S} h = record {
  online =
      eq-cert _ (z-eq (negsuc 0) h.online)
      (reify (d.x ∷ d.y ∷ p.x ∷ p.y ∷ S.X ∷ S.Y ∷ S.W ∷ [])
      (λ ρ v. simp (reading, v 0, v 1, v 2, v 3, v 4, v 5, v 6, val-negsuc ρ) (solve _ _ _ tt)));
}

pub upto_turn : {d : Vec} {P Q : Spot} → Upto d P Q → Upto (reverse d) Q P
upto_turn {d} {P} {Q} h = record {
  upto =
      le-cert _ (le-nn h.upto)
      (reify (d.x ∷ d.y ∷ P.X ∷ P.Y ∷ P.W ∷ Q.X ∷ Q.Y ∷ Q.W ∷ [])
      (λ ρ v. simp (reading, v 0, v 1, v 2, v 3, v 4, v 5, v 6, v 7) (solve _ _ _ tt)));
}

pub online-back : {p d : Vec} {S : Spot} → OnLine p (reverse d) S → OnLine p d S
online-back {p} {d} {S} h = subst (λ (c : Vec). OnLine p c S) (reverse_twice d) (online-turn h)

pub upto-back : {d : Vec} {P Q : Spot} → Upto (reverse d) P Q → Upto d Q P
upto-back {d} {P} {Q} h = subst (λ (c : Vec). Upto c Q P) (reverse_twice d) (upto_turn h)

pub length-reverse : (d : Vec) → pos 0 <ℤ size² d → pos 0 <ℤ size² (reverse d)
length-reverse d h = lt-cert _ h (reify (d.x ∷ d.y ∷ []) (λ ρ v. simp (reading, v 0, v 1, val_pos ρ) (solve _ _ _ tt)))

-- ---- parallel directions

module _ (c d : Vec) (par : c.x *ℤ d.y ≡ c.y *ℤ d.x) (len : pos 0 <ℤ size² c) where
  pub online-over : {p r : Vec} → OnLine p c (fixed r) → {S : Spot} → OnLine p c S → OnLine r d S
  online-over {p} {r} h {S} k = record {
    online =
        eq-by (size² c) len _
        (z-add (z-add (z-eq (dot c d) k.online) (z-eq (neg_ℤ (dot c d *ℤ S.W)) h.online))
        (z-eq (neg_ℤ (c.y *ℤ (S.Y -ℤ r.y *ℤ S.W) +ℤ c.x *ℤ (S.X -ℤ r.x *ℤ S.W))) par))
        (reify (c.x ∷ c.y ∷ d.x ∷ d.y ∷ p.x ∷ p.y ∷ r.x ∷ r.y ∷ S.X ∷ S.Y ∷ S.W ∷ [])
        (λ ρ v. simp (reading, v 0, v 1, v 2, v 3, v 4, v 5, v 6, v 7, v 8, v 9, v 10, val_pos ρ) (solve _ _ _ tt)));
  }

  -- the same way
  pub upto-over : pos 0 <ℤ dot c d → {P Q : Spot} → Upto c P Q → Upto d P Q
  upto-over h {P} {Q} k = record {
    upto =
        le-by (size² c) len _
        (nn-add (nn-mul (pp-nn h) (le-nn k.upto))
        (nn-eq ((c.x *ℤ Q.Y -ℤ c.y *ℤ Q.X) *ℤ P.W -ℤ (c.x *ℤ P.Y -ℤ c.y *ℤ P.X) *ℤ Q.W) par))
        (reify (c.x ∷ c.y ∷ d.x ∷ d.y ∷ P.X ∷ P.Y ∷ P.W ∷ Q.X ∷ Q.Y ∷ Q.W ∷ [])
        (λ ρ v. simp (reading, v 0, v 1, v 2, v 3, v 4, v 5, v 6, v 7, v 8, v 9) (solve _ _ _ tt)));
  }

  -- not the same way: the other
  pub other_way : pos 0 <ℤ size² d → dot c d ≤ℤ pos 0 → pos 0 <ℤ dot c (reverse d)
  other_way m h =
      pp-cancel {m = neg_ℤ (dot c d)}
      (le-cert _ (le-nn h) (reify (c.x ∷ c.y ∷ d.x ∷ d.y ∷ []) (λ ρ v. simp (reading, v 0, v 1, v 2, v 3, val_pos ρ) (solve _ _ _ tt))))
      (lt-cert _ (pp-add (pp-mul len m) (nn-eq (neg_ℤ (c.x *ℤ d.y -ℤ c.y *ℤ d.x)) par))
      (reify (c.x ∷ c.y ∷ d.x ∷ d.y ∷ []) (λ ρ v. simp (reading, v 0, v 1, v 2, v 3, val_pos ρ) (solve _ _ _ tt))))

module _ (c d : Vec) where
  pub par-sym : c.x *ℤ d.y ≡ c.y *ℤ d.x → d.x *ℤ c.y ≡ d.y *ℤ c.x
  par-sym e =
      eq-cert _ (z-eq (negsuc 0) e)
      (reify (c.x ∷ c.y ∷ d.x ∷ d.y ∷ []) (λ ρ v. simp (reading, v 0, v 1, v 2, v 3, val-negsuc ρ) (solve _ _ _ tt)))

  pub par-reverse : c.x *ℤ d.y ≡ c.y *ℤ d.x → c.x *ℤ (reverse d).y ≡ c.y *ℤ (reverse d).x
  par-reverse e =
      eq-cert _ (z-eq (negsuc 0) e)
      (reify (c.x ∷ c.y ∷ d.x ∷ d.y ∷ []) (λ ρ v. simp (reading, v 0, v 1, v 2, v 3, val-negsuc ρ) (solve _ _ _ tt)))

  pub dot-comm : dot c d ≡ dot d c
  dot-comm = reify (c.x ∷ c.y ∷ d.x ∷ d.y ∷ []) (λ ρ v. simp (reading, v 0, v 1, v 2, v 3) (solve _ _ _ tt))

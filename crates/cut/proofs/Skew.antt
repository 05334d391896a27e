-- Two stretches of any lines: what `stretches` says of the places that they share in the square. To cite:
--   stretches-mean   for every R of 64,000,000,000 or more
use Rattle.std.specs.Prelude.{◌≡◌, refl, ◌↔◌, List, [], ◌∷◌, Bool, true, ◌&&◌, ℤ, pos, negsuc, neg_ℤ, ◌+ℤ◌, ◌-ℤ◌, ◌*ℤ◌, ◌≤ℤ◌, ◌<ℤ◌}
use Rattle.std.proofs.Common.{sym, ◌∙◌}
use Rattle.std.proofs.Math.Bool.{true≢false}
use Rattle.std.specs.Int.Signed.{le_z_yes}
use Rattle.whole.specs.Reify.{reify, reading, solve, val_pos, val-negsuc}
use Rattle.whole.specs.Laws.{eq-of-sub}
use Rattle.whole.specs.Order.{le-cert, le-nn, nn-add, nn-mul, pp-nn, ≤_trans}
use Rattle.whole.specs.Sign.{sgn}
use Rattle.whole.specs.SignLaws.{sgn-mul-self, size_above}
use Rattle.whole.specs.Flag.{eq_z}
use Rattle.whole.specs.Tests.{cond-by, eq_z-true, eq_z-false, le_z-true, le-le_z}
use Rattle.whole.specs.Cert.{z-eq, z-add, nn-eq, le-by, eq-by, eq-cert}
use Rattle.sheet.specs.Figure.{Vec, ◌⇀◌}
use Rattle.sheet.specs.Points.{size, divided}
use Rattle.sheet.specs.PointFacts.{Standard, APoint, a_standard}
use Rattle.sheet.specs.PointsLaws.{standard-divided, divided-above, divided-one}
use Rattle.sheet.specs.Ends.{moment}
use Rattle.sheet.specs.Flags.{both}
use Rattle.sheet.specs.Crossing.{Limit, Stretch, cross, dot, meeting_point, not_before, not_beyond, reaches, skew, stretches}
use Rattle.sheet.proofs.CrossingLaws.{meeting-standard}
use Rattle.cut.specs.Bounds.{crossing_need}
use Rattle.cut.specs.Place.{Spot}
use Rattle.cut.specs.Cut.{OnLine, along, InSquare}
use Rattle.cut.proofs.Same.{Same, same-trans, spot_at, standing, divided-spot}
use Rattle.cut.proofs.Line.{size², online-p, online-over, par-sym}
use Rattle.cut.proofs.Square.{near}
use Rattle.cut.proofs.Stretches.{After, after_free, after_till, Before, before_free, before_till, Between, Part, of-after, of-before, between-same, part_same, Marks, marks_free, marks_till, Sound}
use Rattle.cut.proofs.Means.{Both, Means, means_none, means_point}
use Rattle.cut.proofs.OneLine.{together-means}

-- ---- a place p + (g / W) d: on the line, and within the limits just where the tests of g say so

record Reached (p d : Vec) (g : ℤ) (M : Spot) : Type 0 where
  by_x : M.X ≡ p.x *ℤ M.W +ℤ g *ℤ d.x
  by_y : M.Y ≡ p.y *ℤ M.W +ℤ g *ℤ d.y

module _ (p d : Vec) (g : ℤ) (M : Spot) (m : Reached p d g M) where
  reached-on : OnLine p d M
  reached-on = record {
    online =
        eq-cert _ (z-add (z-eq d.x m.by_y) (z-eq (neg_ℤ d.y) m.by_x))
        (reify (d.x ∷ d.y ∷ p.x ∷ p.y ∷ M.X ∷ M.Y ∷ M.W ∷ g ∷ [])
        (λ ρ v. simp (reading, v 0, v 1, v 2, v 3, v 4, v 5, v 6, v 7) (solve _ _ _ tt)));
  }

  along-is : along d M ≡ dot d p *ℤ M.W +ℤ size² d *ℤ g
  along-is =
      eq-cert _ (z-add (z-eq d.x m.by_x) (z-eq d.y m.by_y))
      (reify (d.x ∷ d.y ∷ p.x ∷ p.y ∷ M.X ∷ M.Y ∷ M.W ∷ g ∷ [])
      (λ ρ v. simp (reading, v 0, v 1, v 2, v 3, v 4, v 5, v 6, v 7) (solve _ _ _ tt)))

-- what is v W + N g along, N the square of d, is not before v where g is 0 or more, and not beyond v + N where g is W at most
module _ (d : Vec) (v g : ℤ) (M : Spot) (len : pos 0 <ℤ size² d) (here : along d M ≡ v *ℤ M.W +ℤ size² d *ℤ g) where
  start_test : {l : Limit} → Marks d v l → (not_before l g ≡ true) ↔ After d l M
  start_test marks_free = ((λ t. after_free), (λ h. refl))
  start_test (marks_till {a = a} e) = (
    (λ t. after_till {a = a} {S = M} (record {
      upto =
          le-cert _
          (nn-add (nn-mul (pp-nn len) (le-nn (le_z-true {a = pos 0} {b = g} t))) (nn-add (nn-eq (pos 1) here) (nn-eq (neg_ℤ M.W) e)))
          (reify (d.x ∷ d.y ∷ a.x ∷ a.y ∷ M.X ∷ M.Y ∷ M.W ∷ v ∷ g ∷ [])
          (λ ρ v. simp (reading, v 0, v 1, v 2, v 3, v 4, v 5, v 6, v 7, v 8, val_pos ρ) (solve _ _ _ tt)));
    })),
    (λ h. le-le_z (le-by {a = pos 0} {b = g} (size² d) len _
        (nn-add (le-nn (of-after h).upto) (nn-add (nn-eq (negsuc 0) here) (nn-eq M.W e)))
        (reify (d.x ∷ d.y ∷ a.x ∷ a.y ∷ M.X ∷ M.Y ∷ M.W ∷ v ∷ g ∷ [])
        (λ ρ v. simp (reading, v 0, v 1, v 2, v 3, v 4, v 5, v 6, v 7, v 8, val_pos ρ, val-negsuc ρ) (solve _ _ _ tt))))),
  )

  stop-test : {l : Limit} → Marks d (v +ℤ size² d) l → (not_beyond l g M.W ≡ true) ↔ Before d l M
  stop-test marks_free = ((λ t. before_free), (λ h. refl))
  stop-test (marks_till {a = a} e) = (
    (λ t. before_till {b = a} {S = M} (record {
      upto =
          le-cert _
          (nn-add (nn-mul (pp-nn len) (le-nn (le_z-true {a = g} {b = M.W} t))) (nn-add (nn-eq (negsuc 0) here) (nn-eq M.W e)))
          (reify (d.x ∷ d.y ∷ a.x ∷ a.y ∷ M.X ∷ M.Y ∷ M.W ∷ v ∷ g ∷ [])
          (λ ρ v. simp (reading, v 0, v 1, v 2, v 3, v 4, v 5, v 6, v 7, v 8, val_pos ρ, val-negsuc ρ) (solve _ _ _ tt)));
    })),
    (λ h. le-le_z (le-by {a = g} {b = M.W} (size² d) len _
        (nn-add (le-nn (of-before h).upto) (nn-add (nn-eq (pos 1) here) (nn-eq (neg_ℤ M.W) e)))
        (reify (d.x ∷ d.y ∷ a.x ∷ a.y ∷ M.X ∷ M.Y ∷ M.W ∷ v ∷ g ∷ [])
        (λ ρ v. simp (reading, v 0, v 1, v 2, v 3, v 4, v 5, v 6, v 7, v 8, val_pos ρ) (solve _ _ _ tt))))),
  )

reaches-test : (A : Stretch) → Sound A → (g : ℤ) (M : Spot) → Reached A.p A.d g M
    → (reaches A g M.W ≡ true) ↔ Between A.d A.start A.stop M
reaches-test A f g M m =
    let e = along-is A.p A.d g M m in
    let b = both (not_before A.start g) (not_beyond A.stop g M.W) in
    let s = start_test A.d (dot A.d A.p) g M f.len e f.at_p in
    let t = stop-test A.d (dot A.d A.p) g M f.len e f.at_q in
    ((λ h. let c = b.0 h in record { after = s.0 c.0; before = t.0 c.1 }), (λ c. b.1 (s.1 c.after, t.1 c.before)))

-- ---- not parallel: Cramer's rule

-- the numerators
abbrev meet_x : Stretch → Stretch → ℤ
meet_x A B = moment A.p A.d *ℤ B.d.x -ℤ moment B.p B.d *ℤ A.d.x

abbrev meet_y : Stretch → Stretch → ℤ
meet_y A B = moment A.p A.d *ℤ B.d.y -ℤ moment B.p B.d *ℤ A.d.y

-- with s the sign of the determinant, and w its size
module _ (A B : Stretch) (s w : ℤ) (e : s *ℤ cross A.d B.d ≡ w) (hw : pos 0 <ℤ w) where
  meet : Spot
  meet = record { X = s *ℤ meet_x A B; Y = s *ℤ meet_y A B; W = w; above = hw }

  abbrev ten : List ℤ
  ten = A.d.x ∷ A.d.y ∷ A.p.x ∷ A.p.y ∷ B.d.x ∷ B.d.y ∷ B.p.x ∷ B.p.y ∷ s ∷ w ∷ []

  reached-A : Reached A.p A.d (s *ℤ cross (A.p ⇀ B.p) B.d) meet
  unfolding meet
  reached-A = record {
    by_x = eq-cert _ (z-eq A.p.x e) (reify ten (λ ρ v. simp (reading, v 0, v 1, v 2, v 3, v 4, v 5, v 6, v 7, v 8, v 9) (solve _ _ _ tt)));
    by_y = eq-cert _ (z-eq A.p.y e) (reify ten (λ ρ v. simp (reading, v 0, v 1, v 2, v 3, v 4, v 5, v 6, v 7, v 8, v 9) (solve _ _ _ tt)));
  }

  reached-B : Reached B.p B.d (s *ℤ cross (A.p ⇀ B.p) A.d) meet
  unfolding meet
  reached-B = record {
    by_x = eq-cert _ (z-eq B.p.x e) (reify ten (λ ρ v. simp (reading, v 0, v 1, v 2, v 3, v 4, v 5, v 6, v 7, v 8, v 9) (solve _ _ _ tt)));
    by_y = eq-cert _ (z-eq B.p.y e) (reify ten (λ ρ v. simp (reading, v 0, v 1, v 2, v 3, v 4, v 5, v 6, v 7, v 8, v 9) (solve _ _ _ tt)));
  }

  -- there is no other
  meet-only : (S : Spot) → OnLine A.p A.d S → OnLine B.p B.d S → Same S meet
  unfolding meet
  meet-only S f g = record {
    same_x =
        eq-cert _ (z-add (z-add (z-eq (s *ℤ B.d.x) f.online) (z-eq (neg_ℤ (s *ℤ A.d.x)) g.online)) (z-eq (neg_ℤ S.X) e))
        (reify (S.X ∷ S.Y ∷ S.W ∷ ten)
        (λ ρ v. simp (reading, v 0, v 1, v 2, v 3, v 4, v 5, v 6, v 7, v 8, v 9, v 10, v 11, v 12) (solve _ _ _ tt)));
    same_y =
        eq-cert _ (z-add (z-add (z-eq (s *ℤ B.d.y) f.online) (z-eq (neg_ℤ (s *ℤ A.d.y)) g.online)) (z-eq (neg_ℤ S.Y) e))
        (reify (S.X ∷ S.Y ∷ S.W ∷ ten)
        (λ ρ v. simp (reading, v 0, v 1, v 2, v 3, v 4, v 5, v 6, v 7, v 8, v 9, v 10, v 11, v 12) (solve _ _ _ tt)));
  }

module _ {R : ℤ} (h_r : pos crossing_need ≤ℤ R) (A B : Stretch) (f_a : Sound A) (f_b : Sound B) (n : cross A.d B.d ≡ pos 0 → ⊥) where
  abbrev D : ℤ
  D = cross A.d B.d

  -- the place is p + (h / w) d on each
  abbrev h_a : ℤ
  h_a = sgn D *ℤ cross (A.p ⇀ B.p) B.d

  abbrev h_b : ℤ
  h_b = sgn D *ℤ cross (A.p ⇀ B.p) A.d

  apart : pos 0 <ℤ size D
  apart = size_above n

  M : Spot
  M = meet A B (sgn D) (size D) (sgn-mul-self D) apart

  on-A : Reached A.p A.d h_a M
  unfolding M
  on-A = reached-A A B (sgn D) (size D) (sgn-mul-self D) apart

  on-B : Reached B.p B.d h_b M
  unfolding M
  on-B = reached-B A B (sgn D) (size D) (sgn-mul-self D) apart

  standard : Standard (meeting_point A B)
  standard = meeting-standard A B f_a.way f_b.way n

  M-in : InSquare R M
  unfolding M meet
  M-in = near standard.in_nx standard.in_ny h_r

  M-at : Same M (spot_at R (divided (meeting_point A B)) (divided-above (meeting_point A B) apart))
  unfolding M meet
  M-at =
      same-trans (standing R (sgn D *ℤ meet_x A B) (sgn D *ℤ meet_y A B) (size D) apart) (divided-spot (meeting_point A B) apart R)

  meeting-point : APoint (divided (meeting_point A B))
  meeting-point = a_standard (standard-divided standard) (divided-one (meeting_point A B) apart)

  M-only : (S : Spot) → Both (Part R A) (Part R B) S → Same S M
  unfolding M
  M-only S s = meet-only A B (sgn D) (size D) (sgn-mul-self D) apart S s.first.on s.second.on

  test : Bool
  test = reaches A h_a (size D) && reaches B h_b (size D)

  test-is : (test ≡ true) ↔ (Between A.d A.start A.stop M × Between B.d B.start B.stop M)
  unfolding test M meet
  test-is =
      let b = both (reaches A h_a (size D)) (reaches B h_b (size D)) in
      let f = reaches-test A f_a h_a M on-A in
      let g = reaches-test B f_b h_b M on-B in
      ((λ t. let c = b.0 t in (f.0 c.0, g.0 c.1)), (λ c. b.1 (f.1 c.0, g.1 c.1)))

  skew-means : Means R (Both (Part R A) (Part R B)) (skew A B)
  unfolding test
  skew-means =
      cond-by (Means R (Both (Part R A) (Part R B))) test
      (λ t. let c = test-is.0 t in
      means_point (divided-above (meeting_point A B) apart) meeting-point
      (record {
        first = part_same M-at (record { on = reached-on A.p A.d _ M on-A; between = c.0; in-square = M-in });
        second = part_same M-at (record { on = reached-on B.p B.d _ M on-B; between = c.1; in-square = M-in });
      })
      (λ S s. same-trans (M-only S s) M-at))
      (λ f. means_none (λ S s.
      true≢false (sym (test-is.1 (between-same (M-only S s) s.first.between, between-same (M-only S s) s.second.between)) ∙ f)))

-- ---- parallel, and not on one line

on_one : (A B : Stretch) → Sound B → A.d.x *ℤ B.d.y ≡ A.d.y *ℤ B.d.x → (S : Spot) → OnLine A.p A.d S → OnLine B.p B.d S
    → cross A.d (A.p ⇀ B.p) ≡ pos 0
on_one A B f_b par S f g =
    let k = online-over B.d A.d (par-sym A.d B.d par) f_b.len (online-p B.p B.d) g in
    eq-by S.W S.above _ (z-add (z-eq (pos 1) f.online) (z-eq (negsuc 0) k.online))
    (reify (A.d.x ∷ A.d.y ∷ A.p.x ∷ A.p.y ∷ B.p.x ∷ B.p.y ∷ S.X ∷ S.Y ∷ S.W ∷ [])
    (λ ρ v. simp (reading, v 0, v 1, v 2, v 3, v 4, v 5, v 6, v 7, v 8, val_pos ρ, val-negsuc ρ) (solve _ _ _ tt)))

-- ---- all

pub stretches-mean : {R : ℤ} → pos crossing_need ≤ℤ R → (A B : Stretch) → Sound A → Sound B → Means R (Both (Part R A) (Part R B)) (stretches A B)
unfolding stretches
stretches-mean {R} h_r A B f_a f_b =
    cond-by (Means R (Both (Part R A) (Part R B))) (eq_z (cross A.d B.d) (pos 0))
    (λ t. let par = eq-of-sub (A.d.x *ℤ B.d.y) (A.d.y *ℤ B.d.x) (eq_z-true t) in
    cond-by (Means R (Both (Part R A) (Part R B))) (eq_z (cross A.d (A.p ⇀ B.p)) (pos 0))
    (λ u. let off : cross A.d (A.p ⇀ B.p) ≡ pos 0 = eq_z-true u in
    together-means (≤_trans (le_z_yes tt) h_r) A B f_a f_b par (record {
      online =
          eq-cert _ off
          (reify (A.d.x ∷ A.d.y ∷ A.p.x ∷ A.p.y ∷ B.p.x ∷ B.p.y ∷ [])
          (λ ρ v. simp (reading, v 0, v 1, v 2, v 3, v 4, v 5, val_pos ρ) (solve _ _ _ tt)));
    }))
    (λ u. means_none (λ S s. eq_z-false u (on_one A B f_b par S s.first.on s.second.on))))
    (λ t. skew-means h_r A B f_a f_b (eq_z-false t))

-- Where two lines that are not parallel meet, by how far along each: their place is p + (h / w) (q - p) and r + (g / w) (s - r), and so it is p
-- exactly where h is 0, q exactly where h is w, r exactly where g is 0, and s exactly where g is w. To cite:
--   meets-p, meets-q, meets-r, meets-s
-- Assumes nothing.
use Rattle.std.specs.Prelude.{◌≡◌, refl, Bool, true, false, List, [], ◌∷◌, ℤ, pos, negsuc, neg_ℤ, ◌+ℤ◌, ◌-ℤ◌, ◌*ℤ◌, ◌<ℤ◌}
use Rattle.std.proofs.Common.{sym, ◌∙◌, subst}
use Rattle.std.proofs.Math.IntN.{*ℤ-zero}
use Rattle.whole.specs.Laws.{one-mul, eq-of-sub}
use Rattle.whole.specs.Reify.{reify, reading, solve, val_pos, val-negsuc}
use Rattle.whole.specs.Cert.{z-eq, z-add, eq-by, eq-cert, zero-cancel}
use Rattle.whole.specs.Sign.{sgn}
use Rattle.whole.specs.SignLaws.{sgn-mul-self, size_above}
use Rattle.whole.specs.Flag.{eq_z}
use Rattle.whole.specs.Tests.{eq_z-true, eq_z-false, eq-eq_z}
use Rattle.sheet.specs.declared.Point.{Point}
use Rattle.sheet.specs.Figure.{Vec, ◌⇀◌}
use Rattle.sheet.proofs.RefusalLaws.{WithinBoth, Proper}
use Rattle.sheet.specs.Points.{size, given, divisor, divided}
use Rattle.sheet.specs.PointFacts.{Standard, a_standard}
use Rattle.sheet.specs.PointsLaws.{Times, divided-back, divisor-above, divided-one, standard-divided, in-proportion}
use Rattle.sheet.specs.Ends.{moment}
use Rattle.sheet.proofs.EndsLaws.{proper-way, given-fine}
use Rattle.sheet.specs.Crossing.{line_stretch, cross, meeting_point}
use Rattle.sheet.proofs.CrossingLaws.{meeting-standard}
use Rattle.sheet.specs.Flags.{same_flag}
use Rattle.sheet.specs.Joint.{is_same_point}
use Rattle.sheet.proofs.JointLaws.{same_point}

-- ---- one number: n = w v + (h - c) d, and the divisor m takes it to n = m n', w = m w'

-- where n' is v and w' is 1, (h - c) d is 0
none_left : (m n w v h c d : ℤ) → n ≡ w *ℤ v +ℤ (h -ℤ c) *ℤ d → n ≡ m *ℤ v → w ≡ m *ℤ pos 1 → (h -ℤ c) *ℤ d ≡ pos 0
none_left m n w v h c d e en ew =
    eq-cert _ (z-add (z-add (z-eq (negsuc 0) e) (z-eq (pos 1) en)) (z-eq (neg_ℤ v) ew))
    (reify (m ∷ n ∷ w ∷ v ∷ h ∷ c ∷ d ∷ []) (λ ρ v. simp (reading, v 0, v 1, v 2, v 3, v 4, v 5, v 6, val_pos ρ, val-negsuc ρ) (solve _ _ _ tt)))

-- where h is c, n' is w' v
level : (m n w v h c d n' w' : ℤ) → pos 0 <ℤ m → n ≡ w *ℤ v +ℤ (h -ℤ c) *ℤ d → n ≡ m *ℤ n' → w ≡ m *ℤ w' → h ≡ c
    → pos 1 *ℤ n' ≡ w' *ℤ v
level m n w v h c d n' w' above e en ew eh =
    eq-by m above _ (z-add (z-add (z-eq (pos 1) e) (z-eq (negsuc 0) en)) (z-add (z-eq v ew) (z-eq d eh)))
    (reify (m ∷ n ∷ w ∷ v ∷ h ∷ c ∷ d ∷ n' ∷ w' ∷ [])
    (λ ρ v. simp (reading, v 0, v 1, v 2, v 3, v 4, v 5, v 6, v 7, v 8, val_pos ρ, val-negsuc ρ) (solve _ _ _ tt)))

-- ---- t times what is not 0 is 0: so is t

zero-by : (t z : ℤ) → (z ≡ pos 0 → ⊥) → t *ℤ z ≡ pos 0 → t ≡ pos 0
zero-by t z n e = zero-cancel (size z) (size_above n) (eq-cert _ (z-add (z-eq (sgn z) e) (z-eq (neg_ℤ t) (sgn-mul-self z))) (go (sgn z) (size z)))
  where
    go : (s w : ℤ) → w *ℤ t -ℤ pos 0 ≡ s *ℤ (t *ℤ z -ℤ pos 0) +ℤ neg_ℤ t *ℤ (s *ℤ z -ℤ w)
    go s w = reify (s ∷ w ∷ t ∷ z ∷ []) (λ ρ v. simp (reading, v 0, v 1, v 2, v 3, val_pos ρ) (solve _ _ _ tt))

-- a direction is not 0 in x, or not in y
zero-along : (t : ℤ) (d : Vec) → (d.x ≡ pos 0 → d.y ≡ pos 0 → ⊥) → t *ℤ d.x ≡ pos 0 → t *ℤ d.y ≡ pos 0 → t ≡ pos 0
zero-along t d moves ex ey = go (eq_z d.x (pos 0)) refl
  where
    go : (b : Bool) → eq_z d.x (pos 0) ≡ b → t ≡ pos 0
    go true z = zero-by t d.y (moves (eq_z-true z)) ey
    go false z = zero-by t d.x (eq_z-false z) ex

-- ---- a place v + ((h - c) / w) d is v exactly where h is c

module _ (M : Point) (still : Standard M) (v d : Vec) (near : WithinBoth 2000 v) (moves : d.x ≡ pos 0 → d.y ≡ pos 0 → ⊥) (h c : ℤ)
    (by_x : M.nx ≡ M.w *ℤ v.x +ℤ (h -ℤ c) *ℤ d.x) (by_y : M.ny ≡ M.w *ℤ v.y +ℤ (h -ℤ c) *ℤ d.y) where
  meets : is_same_point (divided M) (given v) ≡ eq_z h c
  meets =
      same_flag (is_same_point (divided M) (given v)) (eq_z h c)
      (λ s. eq-eq_z (there ((same_point (divided M) (given v)).0 s))) (λ e. (same_point (divided M) (given v)).1 (back (eq_z-true e)))
    where
      there : divided M ≡ given v → h ≡ c
      there e =
          let b = subst (Times (pos (divisor M)) M) e (divided-back M) in
          eq-of-sub h c
          (zero-along (h -ℤ c) d moves
          (none_left (pos (divisor M)) M.nx M.w v.x h c d.x by_x b.nx b.w)
          (none_left (pos (divisor M)) M.ny M.w v.y h c d.y by_y b.ny b.w))

      -- in proportion, and both reduced
      back : h ≡ c → divided M ≡ given v
      back e =
          let b = divided-back M in
          let above = divisor-above M still.in-w.above in
          let s = standard-divided still in
          in-proportion (a_standard s (divided-one M still.in-w.above)) (given-fine near).point
          (one-mul (divided M).mx ∙ s.no_mx ∙ sym (*ℤ-zero (divided M).w))
          (level (pos (divisor M)) M.nx M.w v.x h c d.x (divided M).nx (divided M).w above by_x b.nx b.w e)
          (one-mul (divided M).my ∙ s.no_my ∙ sym (*ℤ-zero (divided M).w))
          (level (pos (divisor M)) M.ny M.w v.y h c d.y (divided M).ny (divided M).w above by_y b.ny b.w e)

-- ---- Cramer's rule, with u the sign of the determinant and w its size

module _ (p q r s : Vec) (u w : ℤ) (e : u *ℤ cross (p ⇀ q) (r ⇀ s) ≡ w) where
  abbrev ten : List ℤ
  ten = p.x ∷ p.y ∷ q.x ∷ q.y ∷ r.x ∷ r.y ∷ s.x ∷ s.y ∷ u ∷ w ∷ []

  abbrev nx : ℤ
  nx = u *ℤ (moment p (p ⇀ q) *ℤ (r ⇀ s).x -ℤ moment r (r ⇀ s) *ℤ (p ⇀ q).x)

  abbrev ny : ℤ
  ny = u *ℤ (moment p (p ⇀ q) *ℤ (r ⇀ s).y -ℤ moment r (r ⇀ s) *ℤ (p ⇀ q).y)

  abbrev h' : ℤ
  h' = u *ℤ cross (p ⇀ r) (r ⇀ s)

  abbrev g' : ℤ
  g' = u *ℤ cross (p ⇀ r) (p ⇀ q)

  by-p : (nx ≡ w *ℤ p.x +ℤ (h' -ℤ pos 0) *ℤ (p ⇀ q).x) × (ny ≡ w *ℤ p.y +ℤ (h' -ℤ pos 0) *ℤ (p ⇀ q).y)
  by-p = (
    eq-cert _ (z-eq p.x e) (reify ten (λ ρ v. simp (reading, v 0, v 1, v 2, v 3, v 4, v 5, v 6, v 7, v 8, v 9, val_pos ρ) (solve _ _ _ tt))),
    eq-cert _ (z-eq p.y e) (reify ten (λ ρ v. simp (reading, v 0, v 1, v 2, v 3, v 4, v 5, v 6, v 7, v 8, v 9, val_pos ρ) (solve _ _ _ tt))),
  )

  by-q : (nx ≡ w *ℤ q.x +ℤ (h' -ℤ w) *ℤ (p ⇀ q).x) × (ny ≡ w *ℤ q.y +ℤ (h' -ℤ w) *ℤ (p ⇀ q).y)
  by-q = (
    eq-cert _ (z-eq p.x e) (reify ten (λ ρ v. simp (reading, v 0, v 1, v 2, v 3, v 4, v 5, v 6, v 7, v 8, v 9) (solve _ _ _ tt))),
    eq-cert _ (z-eq p.y e) (reify ten (λ ρ v. simp (reading, v 0, v 1, v 2, v 3, v 4, v 5, v 6, v 7, v 8, v 9) (solve _ _ _ tt))),
  )

  by-r : (nx ≡ w *ℤ r.x +ℤ (g' -ℤ pos 0) *ℤ (r ⇀ s).x) × (ny ≡ w *ℤ r.y +ℤ (g' -ℤ pos 0) *ℤ (r ⇀ s).y)
  by-r = (
    eq-cert _ (z-eq r.x e) (reify ten (λ ρ v. simp (reading, v 0, v 1, v 2, v 3, v 4, v 5, v 6, v 7, v 8, v 9, val_pos ρ) (solve _ _ _ tt))),
    eq-cert _ (z-eq r.y e) (reify ten (λ ρ v. simp (reading, v 0, v 1, v 2, v 3, v 4, v 5, v 6, v 7, v 8, v 9, val_pos ρ) (solve _ _ _ tt))),
  )

  by-s : (nx ≡ w *ℤ s.x +ℤ (g' -ℤ w) *ℤ (r ⇀ s).x) × (ny ≡ w *ℤ s.y +ℤ (g' -ℤ w) *ℤ (r ⇀ s).y)
  by-s = (
    eq-cert _ (z-eq r.x e) (reify ten (λ ρ v. simp (reading, v 0, v 1, v 2, v 3, v 4, v 5, v 6, v 7, v 8, v 9) (solve _ _ _ tt))),
    eq-cert _ (z-eq r.y e) (reify ten (λ ρ v. simp (reading, v 0, v 1, v 2, v 3, v 4, v 5, v 6, v 7, v 8, v 9) (solve _ _ _ tt))),
  )

-- ---- the four

module _ {p q r s : Vec} (a : Proper p q) (b : Proper r s) (apart : cross (p ⇀ q) (r ⇀ s) ≡ pos 0 → ⊥) where
  abbrev D : ℤ
  D = cross (p ⇀ q) (r ⇀ s)

  -- how far along each
  abbrev pub h : ℤ
  h = sgn D *ℤ cross (p ⇀ r) (r ⇀ s)

  abbrev pub g : ℤ
  g = sgn D *ℤ cross (p ⇀ r) (p ⇀ q)

  abbrev M : Point
  M = meeting_point (line_stretch p q) (line_stretch r s)

  standard : Standard M
  standard = meeting-standard (line_stretch p q) (line_stretch r s) (proper-way a) (proper-way b) apart

  pub meets-p : is_same_point (divided M) (given p) ≡ eq_z h (pos 0)
  meets-p =
      let e = by-p p q r s (sgn D) (size D) (sgn-mul-self D) in
      meets M standard p (p ⇀ q) a.small_p (proper-way a).moves h (pos 0) e.0 e.1

  pub meets-q : is_same_point (divided M) (given q) ≡ eq_z h (size D)
  meets-q =
      let e = by-q p q r s (sgn D) (size D) (sgn-mul-self D) in
      meets M standard q (p ⇀ q) a.small_q (proper-way a).moves h (size D) e.0 e.1

  pub meets-r : is_same_point (divided M) (given r) ≡ eq_z g (pos 0)
  meets-r =
      let e = by-r p q r s (sgn D) (size D) (sgn-mul-self D) in
      meets M standard r (r ⇀ s) b.small_p (proper-way b).moves g (pos 0) e.0 e.1

  pub meets-s : is_same_point (divided M) (given s) ≡ eq_z g (size D)
  meets-s =
      let e = by-s p q r s (sgn D) (size D) (sgn-mul-self D) in
      meets M standard s (r ⇀ s) b.small_q (proper-way b).moves g (size D) e.0 e.1

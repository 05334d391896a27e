-- The ends that an answer of `ends_of` gives. Two parallel objects that are not on one line have none in common. To cite:
--   end-narrow         such an end is a narrow point
--   Lined, end-lined   and lies on the line of the object's p and q, where that is no side
--   lined-apart        two parallel objects with different k have no such end in common
-- Assumes nothing.
use Rattle.std.specs.Prelude.{◌≡◌, true, List, [], ◌∷◌, ◌++◌, Result, Ok, Err, ℤ, pos, negsuc, ◌-ℤ◌, ◌*ℤ◌, ◌<ℤ◌}
use Rattle.std.proofs.Common.{sym, ◌∙◌, inl, inr}
use Rattle.std.proofs.Math.Path.{subst}
use Rattle.std.proofs.Math.IntN.{ℤ_discrete}
use Rattle.whole.specs.Laws.{eq-of-sub}
use Rattle.whole.specs.Reify.{reify, reading, solve, val_pos, val-negsuc}
use Rattle.whole.specs.Cert.{z-eq, z-add, eq-cert, zero-cancel}
use Rattle.sheet.specs.declared.Object.{Object}
use Rattle.sheet.specs.declared.Point.{Point}
use Rattle.sheet.specs.declared.Ends.{Ends}
use Rattle.sheet.specs.declared.refusal.Refusal.{Refusal}
use Rattle.sheet.specs.Figure.{Vec, ◌⇀◌, Figure, first, second, figure}
use Rattle.sheet.specs.Refusal.{object_refusal, Accepted}
use Rattle.sheet.specs.Points.{numbers, narrow, is_point}
use Rattle.sheet.specs.Ends.{moment, reverse, first_of, last_of, first_end, last_end}
use Rattle.sheet.specs.Crossing.{cross}
use Rattle.sheet.specs.Answers.{answer, ends_say}
use Rattle.sheet.specs.AnswersLaws.{ends-one, accepted, refused}
use Rattle.sheet.proofs.RefusalLaws.{Proper, Taken, a_segment, a_ray, a_line, a_side, accepted-taken}
use Rattle.sheet.specs.PointsLaws.{point-is, point-sizes}
use Rattle.sheet.proofs.EndsLaws.{proper-way, reverse-way, first-end-is-point, last-end-is-point}
use Rattle.sheet.proofs.OnLine.{OnLine, on-line-given, on-line-back, far-on-line, parallel, cross-self, cross-same, cross-turned}
use Rattle.screen.specs.Shown.{EndIn, Parallel}

-- f, which is not 0, is parallel to d. So the point is on the line through r in the direction d too, and w k is the same for both.
same-k : (p d r f : Vec) {e : Point} → (f.x ≡ pos 0 → f.y ≡ pos 0 → ⊥) → cross d f ≡ pos 0 → pos 0 <ℤ e.w → OnLine p d e → OnLine r f e
    → moment p d ≡ moment r d
same-k p d r f {e} n h above a b =
    let u : Vec = record { x = e.nx -ℤ e.w *ℤ r.x; y = e.ny -ℤ e.w *ℤ r.y } in
    let across : cross f u ≡ pos 0 =
    eq-cert _ (z-eq (pos 1) b.even)
    (reify (f.x ∷ f.y ∷ r.x ∷ r.y ∷ e.nx ∷ e.ny ∷ e.w ∷ [])
    (λ ρ v. simp (reading, val_pos ρ, v 0, v 1, v 2, v 3, v 4, v 5, v 6) (solve _ _ _ tt))) in
    eq-of-sub (moment p d) (moment r d)
    (zero-cancel e.w above
    (eq-cert _ (z-add (z-eq (pos 1) (parallel f d u n (cross-turned d f h) across)) (z-eq (negsuc 0) a.even))
    (reify (d.x ∷ d.y ∷ p.x ∷ p.y ∷ r.x ∷ r.y ∷ e.nx ∷ e.ny ∷ e.w ∷ [])
    (λ ρ v. simp (reading, val_pos ρ, val-negsuc ρ, v 0, v 1, v 2, v 3, v 4, v 5, v 6, v 7, v 8) (solve _ _ _ tt)))))

-- ---- the ends of an object that is no side

-- e is on the line of p and q of o, which differ
pub record Lined (o : Object) (e : Point) : Type 0 where
  pub drawn : Proper (first o) (second o)
  pub on : OnLine (first o) (first o ⇀ second o) e

module _ {o : Object} (a : Accepted o) (n : o.kind ≡ pos 4 → ⊥) where
  abbrev p : Vec
  p = first o

  abbrev d : Vec
  d = first o ⇀ second o

  both-lined : Lined o (first_end o) × Lined o (last_end o)
  unfolding first_end last_end
  both-lined = go (accepted-taken a)
    where
      ends_on : {f : Figure} → figure o ≡ f → Proper p (second o) → OnLine p d (first_of f) → OnLine p d (last_of f)
          → Lined o (first_end o) × Lined o (last_end o)
      ends_on e h x y = (
        record { drawn = h; on = subst (λ (f : Figure). OnLine p d (first_of f)) (sym e) x },
        record { drawn = h; on = subst (λ (f : Figure). OnLine p d (last_of f)) (sym e) y },
      )

      go : Taken o → Lined o (first_end o) × Lined o (last_end o)
      go (a_segment k e h) = ends_on e h (on-line-given (cross-self d p)) (on-line-given (cross-same d))
      go (a_ray k e h) = ends_on e h (on-line-given (cross-self d p)) (far-on-line p d (proper-way h))
      go (a_line k e h) =
          ends_on e h (on-line-back (far-on-line p (reverse d) (reverse-way p d (proper-way h)))) (far-on-line p d (proper-way h))
      go (a_side k s e) = absurd (n k)

-- ---- an end that an answer gives for o

module _ (o : Object) (r : Result Ends Refusal) (said : ends_say r ≡ answer (object_refusal o) (numbers (first_end o) ++ numbers (last_end o)))
    (e : Point) (i : EndIn e r) where
  -- what holds of both ends of o, where o is accepted, holds of it
  end_by : (F : Point → Type 0) → (Accepted o → F (first_end o) × F (last_end o)) → F e
  end_by F both = go r said i
    where
      values : List ℤ
      values = numbers (first_end o) ++ numbers (last_end o)

      of_both : EndIn e (Ok (record { first = first_end o; last = last_end o })) → F (first_end o) × F (last_end o) → F e
      of_both (inl i) h = subst F (sym i) h.0
      of_both (inr i) h = subst F (sym i) h.1

      given : (a : Ends) → ends_say (Ok a) ≡ answer (object_refusal o) values → EndIn e (Ok a) → Dec (object_refusal o ≡ pos 0) → F e
      given a s i (yes z) =
          let both_ends : Ends = record { first = first_end o; last = last_end o } in
          let same = ends-one (Ok a) (Ok both_ends) (s ∙ accepted values z) in
          of_both (subst (EndIn e) same i) (both (record { accepted = z }))
      given a s i (no d) = let h : ends_say (Ok a) ≡ object_refusal o ∷ [] = s ∙ refused values d in let none : ⊥ = cc in absurd none

      go : (r : Result Ends Refusal) → ends_say r ≡ answer (object_refusal o) values → EndIn e r → F e
      go (Ok a) s i = given a s i (ℤ_discrete (object_refusal o) (pos 0))
      go (Err x) s i = absurd i

  pub end-narrow : (is_point e ≡ true) × (narrow e ≡ true)
  end-narrow = end_by (λ (e : Point). (is_point e ≡ true) × (narrow e ≡ true)) (λ a. (first-end-is-point a, last-end-is-point a))

  pub end-lined : (o.kind ≡ pos 4 → ⊥) → Lined o e
  end-lined n = end_by (Lined o) (λ a. both-lined a n)

-- ---- parallel objects

pub lined-apart : {o u : Object} {p q : Point} → Parallel o u → is_point p ≡ true → Lined o p → Lined u q → p ≡ q → ⊥
lined-apart {o} {u} {p} h t a b e =
    h.other_k
    (same-k (first o) (first o ⇀ second o) (first u) (first u ⇀ second u) (proper-way b.drawn).moves h.one_direction
    (point-sizes ((point-is p).0 t)).in-w.above a.on
    (subst (OnLine (first u) (first u ⇀ second u)) (sym e) b.on))

-- "Two frame points then give equal edges exactly when they are equal", and no point has the place of a narrow one but itself. To cite:
--   places-equal   any two answers that meet the contract of `place_of`, the one for a narrow point, are equal exactly when what they are for is
-- Assumes nothing.
use Rattle.std.specs.Prelude.{◌≡◌, refl, ◌↔◌, Bool, true, false, not, cond, length, ℤ, pos, neg_ℤ, ◌*ℤ◌}
use Rattle.std.proofs.Common.{sym, ◌∙◌, ap, subst, arith}
use Rattle.std.proofs.Math.IntN.{*ℤ_comm, *ℤ-zero}
use Rattle.whole.specs.Laws.{mul-neg}
use Rattle.whole.specs.Within.{Within}
use Rattle.whole.specs.Bound.{w-lit}
use Rattle.std.specs.Prelude.{Result}
use Rattle.sheet.specs.declared.Point.{Point}
use Rattle.sheet.specs.declared.refusal.Refusal.{Refusal}
use Rattle.sheet.specs.Figure.{Side, left, bottom, right, top, side_number, side_of}
use Rattle.sheet.proofs.RefusalLaws.{side-of}
use Rattle.sheet.specs.Ends.{next_side}
use Rattle.sheet.specs.Flags.{both, flags}
use Rattle.sheet.specs.Points.{divisor, narrow, is_point, point_refusal}
use Rattle.sheet.specs.PointFacts.{Standard, Narrow, Frame, APoint, a_standard, a_frame}
use Rattle.sheet.specs.PointsLaws.{standard-is, narrow-is, point-is, point-sizes, in-proportion}
use Rattle.screen.specs.declared.OnScreen.{OnScreen}
use Rattle.screen.specs.Quotient.{quotient}
use Rattle.screen.specs.Parts.{Parts}
use Rattle.screen.specs.Values.{Values, float_answer}
use Rattle.screen.specs.ValuesLaws.{as_many, as-many-wholes}
use Rattle.screen.specs.Places.{place_says, is_on, goes_to, side_where, m_along, n_along, position_of, edge_of, place_of}
use Rattle.screen.proofs.PlacesLaws.{place-one, side-where, frame-standard, place-standard, place-frame, along-by, ratios}
use Rattle.screen.proofs.Apart.{one-quotient}

-- ---- on one side

zeros : {n n' : ℤ} (w w' : ℤ) → n ≡ pos 0 → n' ≡ pos 0 → w' *ℤ n ≡ w *ℤ n'
zeros w w' e e' = ap (λ (z : ℤ). w' *ℤ z) e ∙ *ℤ-zero w' ∙ sym (*ℤ-zero w) ∙ sym (ap (λ (z : ℤ). w *ℤ z) e')

-- across the side m is v of w, which is w or -w, and n is 0
across : (v : ℤ → ℤ) → ((w w' : ℤ) → w' *ℤ v w ≡ w *ℤ v w') → {m n m' n' : ℤ} (w w' : ℤ)
    → (m ≡ v w) × (n ≡ pos 0) → (m' ≡ v w') × (n' ≡ pos 0) → (w' *ℤ m ≡ w *ℤ m') × (w' *ℤ n ≡ w *ℤ n')
across v turn w w' h h' =
    (ap (λ (z : ℤ). w' *ℤ z) h.0 ∙ turn w w' ∙ sym (ap (λ (z : ℤ). w *ℤ z) h'.0), zeros w w' h.1 h'.1)

ahead : (w w' : ℤ) → w' *ℤ w ≡ w *ℤ w'
ahead w w' = *ℤ_comm w' w

back : (w w' : ℤ) → w' *ℤ neg_ℤ w ≡ w *ℤ neg_ℤ w'
back w w' = mul-neg w' w ∙ ap neg_ℤ (*ℤ_comm w' w) ∙ sym (mul-neg w w')

module _ {p q : Point} (a : APoint p) (b : APoint q) where
  joined : (s : Side) → is_on s p ≡ true → is_on s q ≡ true → q.w *ℤ m_along s p ≡ p.w *ℤ m_along s q
      → q.w *ℤ n_along s p ≡ p.w *ℤ n_along s q → p ≡ q
  joined left hp hq m n =
      let x = across neg_ℤ back p.w q.w (simp flags at hp) (simp flags at hq) in in-proportion a b x.0 x.1 m n
  joined bottom hp hq m n =
      let y = across neg_ℤ back p.w q.w (simp flags at hp) (simp flags at hq) in in-proportion a b m n y.0 y.1
  joined right hp hq m n =
      let x = across (λ (w : ℤ). w) ahead p.w q.w (simp flags at hp) (simp flags at hq) in in-proportion a b x.0 x.1 m n
  joined top hp hq m n =
      let y = across (λ (w : ℤ). w) ahead p.w q.w (simp flags at hp) (simp flags at hq) in in-proportion a b m n y.0 y.1

-- ---- edges that say the same

is-on : (s : Side) (p : Point) → goes_to s p ≡ true → is_on s p ≡ true
is-on s p e = ((both (is_on s p) (not (is_on (next_side s) p))).0 e).0

module _ {p q : Point} (f : Frame p) (g : Frame q) (dp : divisor p ≡ 1) (dq : divisor q ≡ 1) where
  -- q, by the side of p
  abbrev SameOn : Side → Type 0
  SameOn s =
      (goes_to s q ≡ true)
      × (quotient (m_along (side_where p) p) p.w ≡ quotient (m_along s q) q.w)
      × (quotient (n_along (side_where p) p) p.w ≡ quotient (n_along s q) q.w)

  by-edge : edge_of p ≡ edge_of q → p ≡ q
  by-edge e =
      let wholes = ap (λ (t : Values). t.wholes) e in
      let floats = ap (λ (t : Values). t.floats) e in
      let number : side_number (side_where p) ≡ side_number (side_where q) = cc in
      let slopes : quotient (m_along (side_where p) p) p.w ≡ quotient (m_along (side_where q) q) q.w = cc in
      let offsets : quotient (n_along (side_where p) p) p.w ≡ quotient (n_along (side_where q) q) q.w = cc in
      let s = side_where p in
      let z = point-sizes (a_frame f dp) in
      let n = ratios (a_frame g dq) in
      let h = subst SameOn (sym (side-of (side_where q)) ∙ sym (ap side_of number) ∙ side-of s) (side-where g, slopes, offsets) in
      joined (a_frame f dp) (a_frame g dq) s (is-on s p (side-where f)) (is-on s q h.0)
      (one-quotient (along-by (Within 8000000) s (w-lit z.in_mx tt) (w-lit z.in_my tt)) f.slim.in-w
      (along-by (λ (z : ℤ). Parts z q.w) s n.in_mx n.in_my) h.1)
      (one-quotient (along-by (Within 8000000) s f.slim.in_nx f.slim.in_ny) f.slim.in-w
      (along-by (λ (z : ℤ). Parts z q.w) s n.in_nx n.in_ny) h.2)

-- ---- places that say the same

by-position : {p q : Point} → Standard p → Standard q → divisor p ≡ 1 → divisor q ≡ 1 → Narrow p
    → position_of p ≡ position_of q → p ≡ q
by-position {p} {q} f g dp dq np e =
    let n = ratios (a_standard g dq) in
    let floats = ap (λ (t : Values). t.floats) e in
    let xs : quotient p.nx p.w ≡ quotient q.nx q.w = cc in
    let ys : quotient p.ny p.w ≡ quotient q.ny q.w = cc in
    in-proportion (a_standard f dp) (a_standard g dq)
    (zeros p.w q.w f.no_mx g.no_mx) (one-quotient np.in_nx np.in-w n.in_nx xs)
    (zeros p.w q.w f.no_my g.no_my) (one-quotient np.in_ny np.in-w n.in_ny ys)

by_place : {p q : Point} → APoint p → APoint q → Narrow p → place_of p ≡ place_of q → p ≡ q
by_place {p} {q} (a_standard f dp) (a_standard g dq) np e =
    by-position f g dp dq np (sym (place-standard p ((standard-is p).1 f)) ∙ e ∙ place-standard q ((standard-is q).1 g))
by_place {p} {q} (a_standard f dp) (a_frame g dq) np e =
    let z = as-many-wholes (sym (place-standard p ((standard-is p).1 f)) ∙ e ∙ place-frame q (frame-standard g)) in absurd (omega arith)
by_place {p} {q} (a_frame f dp) (a_standard g dq) np e =
    let z = as-many-wholes (sym (place-frame p (frame-standard f)) ∙ e ∙ place-standard q ((standard-is q).1 g)) in absurd (omega arith)
by_place {p} {q} (a_frame f dp) (a_frame g dq) np e =
    by-edge f g dp dq (sym (place-frame p (frame-standard f)) ∙ e ∙ place-frame q (frame-standard g))

-- ---- of what `place_of` answers

placed : (p : Point) (r : Result OnScreen Refusal) → is_point p ≡ true → place_says r ≡ float_answer (point_refusal p) (place_of p) → place_says r ≡ place_of p
unfolding point_refusal
placed p r h e = e ∙ ap (λ (t : Bool). float_answer (cond t (pos 0) (pos 5)) (place_of p)) h

two_floats : {p : Point} → APoint p → length (place_of p).floats ≡ 2
two_floats {p} (a_standard f d) = as_many (place-standard p ((standard-is p).1 f))
two_floats {p} (a_frame f d) = as_many (place-frame p (frame-standard f))

pub places-equal : (p q : Point) (r s : Result OnScreen Refusal)
    → place_says r ≡ float_answer (point_refusal p) (place_of p) → place_says s ≡ float_answer (point_refusal q) (place_of q)
    → (is_point p ≡ true) × (narrow p ≡ true) → (r ≡ s) ↔ (p ≡ q)
unfolding point_refusal
places-equal p q r s er es h = (λ e. to e (is_point q) refl es, from)
  where
    a : APoint p
    a = (point-is p).0 h.0

    to : r ≡ s → (t : Bool) → is_point q ≡ t → place_says s ≡ float_answer (cond t (pos 0) (pos 5)) (place_of q) → p ≡ q
    to e true t es = by_place a ((point-is q).0 t) ((narrow-is p).0 h.1) (sym (placed p r h.0 er) ∙ ap place_says e ∙ es)
    to e false t es =
        let z = two_floats a in
        let y = as_many (sym (placed p r h.0 er) ∙ ap place_says e ∙ es) in
        absurd (omega arith)

    from : p ≡ q → r ≡ s
    from e = place-one r s (er ∙ ap (λ (t : Point). float_answer (point_refusal t) (place_of t)) e ∙ sym es)

-- What every answer that meets the contract of `place_of` shows of its point, by the answer's cases. To cite:
--   shown   the values are near their fractions, the side is the one that the point goes to, and 5 is said of no point alone
-- Assumes nothing.
use Rattle.std.specs.Prelude.{◌≡◌, refl, Bool, true, false, cond, ℤ, pos, Result}
use Rattle.std.proofs.Common.{sym, ◌∙◌, subst}
use Rattle.sheet.specs.declared.Point.{Point}
use Rattle.sheet.specs.declared.refusal.Refusal.{Refusal}
use Rattle.sheet.specs.Points.{is_point, point_refusal}
use Rattle.sheet.specs.PointFacts.{APoint, a_standard, a_frame}
use Rattle.sheet.specs.PointsLaws.{standard-is, point-is}
use Rattle.screen.specs.declared.OnScreen.{OnScreen}
use Rattle.screen.specs.Parts.{Parts}
use Rattle.screen.proofs.QuotientLaws.{quotient-near}
use Rattle.screen.specs.Values.{float_answer}
use Rattle.screen.specs.Places.{place_says, side_where, place_of}
use Rattle.screen.proofs.PlacesLaws.{place-one, side-where, frame-standard, place-standard, place-frame, ratios, along-by}
use Rattle.screen.specs.Shown.{Shown, a_position, an_edge, no-point}

pub shown : (p : Point) (r : Result OnScreen Refusal) → place_says r ≡ float_answer (point_refusal p) (place_of p) → Shown p r
unfolding point_refusal
shown p r e = go (is_point p) refl e
  where
    is : {q : Result OnScreen Refusal} → Shown p q → place_says r ≡ place_says q → Shown p r
    is {q} h f = subst (Shown p) (sym (place-one r q f)) h

    accepted : APoint p → place_says r ≡ place_of p → Shown p r
    accepted (a_standard s d) e =
        let n = ratios (a_standard s d) in
        is (a_position s (quotient-near n.in_nx) (quotient-near n.in_ny)) (e ∙ place-standard p ((standard-is p).1 s))
    accepted (a_frame f d) e =
        let n = ratios (a_frame f d) in
        let slope = quotient-near (along-by (λ (z : ℤ). Parts z p.w) (side_where p) n.in_mx n.in_my) in
        let offset = quotient-near (along-by (λ (z : ℤ). Parts z p.w) (side_where p) n.in_nx n.in_ny) in
        is (an_edge (side_where p) f (side-where f) slope offset) (e ∙ place-frame p (frame-standard f))

    go : (t : Bool) → is_point p ≡ t → place_says r ≡ float_answer (cond t (pos 0) (pos 5)) (place_of p) → Shown p r
    go true t e = accepted ((point-is p).0 t) e
    go false t e = is (no-point t) e

-- "Ends, signs and crossings don't depend on the tag" (document 02), of the contracts (`Post`) of ends_of, side_of, cross and cross_kept: two objects
-- that differ in their tags alone, both accepted, are answered alike, whatever point or other object comes with them. To cite:
--   ends_same, side_same, cross-same, cross-same-second, kept_same, kept-same-second
use mathlib.Core.Path.{◌≡◌, sym, ◌∙◌}
use mathlib.Core.Bool.{Bool}
use mathlib.Core.List.{[], ◌∷◌, ◌++◌}
use lib.IntN.{ℤ}
use contract.Lifetimes.{Lfts}
use Rattle.std.specs.Prelude.{Result}
use Rattle.whole.specs.Choice.{or_else}
use Rattle.sheet.specs.declared.Object.{Object}
use Rattle.sheet.specs.declared.Point.{Point}
use Rattle.sheet.specs.declared.Ends.{Ends}
use Rattle.sheet.specs.declared.Crossing.{Crossing}
use Rattle.sheet.specs.declared.refusal.Refusal.{Refusal}
use Rattle.sheet.specs.Refusal.{object_refusal, Accepted}
use Rattle.sheet.specs.Points.{numbers, point_refusal}
use Rattle.sheet.specs.Signs.{side_sign_refusal}
use Rattle.sheet.specs.Crossing.{crossing_refusal}
use Rattle.sheet.specs.Answers.{answer, meeting_numbers}
use Rattle.sheet.specs.AnswersLaws.{ends-one, signed-one, crossing-one}
use Rattle.sheet.specs.Tags.{tagged}
use Rattle.sheet.specs.TagLaws.{ends-tag, side-tag, crossing-tag, crossing-tag-second}
use Rattle.sheet.proofs.JointLaws.{kept-tag, kept-tag-second}
use Rattle.kernel.proofs.ends.ends_of.Reads as ends_of
use Rattle.kernel.proofs.signs.side_of.Reads as side-of
use Rattle.kernel.proofs.crossing.cross.Reads as cross
use Rattle.kernel.proofs.crossing.cross_kept.Reads as cross-kept

module _ (κs : Lfts 0) (t : ℤ) (o : Object) (a : Accepted o) (b : Accepted (tagged t o)) where
  refusal-same : object_refusal (tagged t o) ≡ object_refusal o
  refusal-same = b.accepted ∙ sym a.accepted

  pub ends_same : (r s : Result Ends Refusal) → ends_of.Post κs (o, tt) r (o, tt) → ends_of.Post κs (tagged t o, tt) s (tagged t o, tt) → r ≡ s
  ends_same r s p q =
      let e = ends-tag t o in
      ends-one r s (p ∙ sym (q ∙ (λ i. answer (refusal-same i) (numbers (e.0 i) ++ numbers (e.1 i)))))

  pub side_same :
      (x : Point) (r s : Result ℤ Refusal)
      → side-of.Post κs (o, (x, tt)) r (o, (x, tt)) → side-of.Post κs (tagged t o, (x, tt)) s (tagged t o, (x, tt)) → r ≡ s
  unfolding side_sign_refusal
  side_same x r s p q =
      signed-one r s (p ∙ sym (q ∙ (λ i. answer (or_else (refusal-same i) (point_refusal x)) (side-tag t o x i ∷ []))))

  pub cross-same :
      (c : Object) (r s : Result Crossing Refusal)
      → cross.Post κs (o, (c, tt)) r (o, (c, tt)) → cross.Post κs (tagged t o, (c, tt)) s (tagged t o, (c, tt)) → r ≡ s
  unfolding crossing_refusal
  cross-same c r s p q =
      crossing-one r s
      (p ∙ sym (q ∙ (λ i. answer (or_else (refusal-same i) (object_refusal c)) (meeting_numbers (crossing-tag t o c i)))))

  pub cross-same-second :
      (c : Object) (r s : Result Crossing Refusal)
      → cross.Post κs (c, (o, tt)) r (c, (o, tt)) → cross.Post κs (c, (tagged t o, tt)) s (c, (tagged t o, tt)) → r ≡ s
  unfolding crossing_refusal
  cross-same-second c r s p q =
      crossing-one r s
      (p ∙ sym (q ∙ (λ i. answer (or_else (object_refusal c) (refusal-same i)) (meeting_numbers (crossing-tag-second t c o i)))))

  module _ (joints : Bool) (c : Object) (r s : Result Crossing Refusal) where
    pub kept_same :
        cross-kept.Post κs (o, (c, (joints, tt))) r (o, (c, (joints, tt)))
        → cross-kept.Post κs (tagged t o, (c, (joints, tt))) s (tagged t o, (c, (joints, tt))) → r ≡ s
    unfolding crossing_refusal
    kept_same p q =
        crossing-one r s
        (p ∙ sym (q ∙ (λ i. answer (or_else (refusal-same i) (object_refusal c)) (meeting_numbers (kept-tag t o c joints i)))))

    pub kept-same-second :
        cross-kept.Post κs (c, (o, (joints, tt))) r (c, (o, (joints, tt)))
        → cross-kept.Post κs (c, (tagged t o, (joints, tt))) s (c, (tagged t o, (joints, tt))) → r ≡ s
    unfolding crossing_refusal
    kept-same-second p q =
        crossing-one r s
        (p ∙ sym (q ∙ (λ i. answer (or_else (object_refusal c) (refusal-same i)) (meeting_numbers (kept-tag-second t c o joints i)))))

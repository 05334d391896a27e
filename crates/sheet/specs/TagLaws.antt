-- Nothing depends on the tag but whether it is out of range. To cite:
--   ends-tag, side-tag, crossing-tag, crossing-tag-second   the ends, the side of a point and what two objects share
--   tag-accepted                                            an accepted object is accepted with every tag in range
-- Assumes nothing.
use Rattle.std.specs.Prelude.{◌≡◌, false, ℤ, pos}
use Rattle.std.proofs.Math.Path.{refl}
use Rattle.whole.specs.ChoiceLaws.{or-zero}
use Rattle.sheet.specs.declared.Object.{Object}
use Rattle.sheet.specs.declared.Point.{Point}
use Rattle.sheet.specs.Limits.{last_tag}
use Rattle.sheet.specs.Refusal.{outside, refusal_of, tag_refusal, object_refusal, Accepted}
use Rattle.sheet.specs.Ends.{first_end, last_end}
use Rattle.sheet.specs.Signs.{side_sign}
use Rattle.sheet.specs.Crossing.{crossing_of}
use Rattle.sheet.specs.Tags.{tagged}

module _ (t : ℤ) where
  pub ends-tag : (o : Object) → (first_end (tagged t o) ≡ first_end o) × (last_end (tagged t o) ≡ last_end o)
  unfolding first_end last_end
  ends-tag o = (refl, refl)

  pub side-tag : (o : Object) (s : Point) → side_sign (tagged t o) s ≡ side_sign o s
  unfolding side_sign first_end last_end
  side-tag o s = refl

  pub crossing-tag : (a b : Object) → crossing_of (tagged t a) b ≡ crossing_of a b
  unfolding crossing_of
  crossing-tag a b = refl

  pub crossing-tag-second : (a b : Object) → crossing_of a (tagged t b) ≡ crossing_of a b
  unfolding crossing_of
  crossing-tag-second a b = refl

  pub tag-accepted : (o : Object) → outside (pos 0) last_tag t ≡ false → Accepted o → Accepted (tagged t o)
  unfolding object_refusal
  tag-accepted o e a =
      let shape = (or-zero (refusal_of o.kind o.px o.py o.qx o.qy) (tag_refusal o.tag) a.accepted).0 in
      record { accepted = simp (shape, e) }

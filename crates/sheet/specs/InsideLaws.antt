-- "The inside of the frame is left of every side." To cite:
--   inside-is-left   every standard point is left of every side
-- Assumes nothing.
use Rattle.std.specs.Prelude.{◌≡◌, true, [], ◌∷◌, ℤ, pos, neg_ℤ, ◌+ℤ◌, ◌-ℤ◌, ◌*ℤ◌}
use Rattle.std.proofs.Common.{ap, ◌∙◌}
use Rattle.whole.specs.Reify.{reify, reading, solve, val_pos}
use Rattle.whole.specs.Cert.{z-eq, z-add, eq-cert}
use Rattle.whole.specs.Sign.{sgn}
use Rattle.whole.specs.SignLaws.{sgn-pos}
use Rattle.whole.specs.Choice.{or_else}
use Rattle.sheet.specs.declared.Point.{Point}
use Rattle.sheet.specs.Figure.{Side, out_x, out_y, side}
use Rattle.sheet.specs.Points.{standard}
use Rattle.sheet.specs.PointFacts.{Standard}
use Rattle.sheet.specs.PointsLaws.{standard-is}
use Rattle.sheet.specs.Signs.{side_of_figure}
use Rattle.sheet.specs.Expansions.{frame-side-is}

-- the way out over the side has no R in it, so the leading coefficient is w, which is above 0
pub inside-is-left : (n : Side) (p : Point) → standard p ≡ true → side_of_figure (side n) p ≡ pos 1
inside-is-left n p h =
    frame-side-is p n ∙ ap (λ (t : ℤ). or_else t (sgn (neg_ℤ (out_x n *ℤ p.nx +ℤ out_y n *ℤ p.ny)))) (ap sgn no-R ∙ sgn-pos s.in-w.above)
  where
    s : Standard p
    s = (standard-is p).0 h

    no-R : p.w -ℤ (out_x n *ℤ p.mx +ℤ out_y n *ℤ p.my) ≡ p.w
    no-R =
        eq-cert _ (z-add (z-eq (neg_ℤ (out_x n)) s.no_mx) (z-eq (neg_ℤ (out_y n)) s.no_my))
        (reify (p.w ∷ out_x n ∷ out_y n ∷ p.mx ∷ p.my ∷ []) (λ ρ v. simp (reading, v 0, v 1, v 2, v 3, v 4, val_pos ρ) (solve _ _ _ tt)))

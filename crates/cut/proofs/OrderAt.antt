-- Order at R is the ordinary order of the places, for every R above 256,000,008,000,000. To cite:
--   order-at      order of two points: x first, then y, of their places
--   order-apart   the same by the signs of their differences
use Rattle.std.specs.Prelude.{◌≡◌, refl, ℤ, pos, ◌*ℤ◌, ◌<ℤ◌}
use Rattle.std.proofs.Common.{sym, ◌∙◌, ap₂, subst}
use Rattle.whole.specs.Laws.{eq-of-sub}
use Rattle.whole.specs.Order.{lt-cert}
use Rattle.whole.specs.Sign.{sgn}
use Rattle.whole.specs.SignLaws.{Signs, signs, minus, nought, plus}
use Rattle.whole.specs.Fraction.{Fraction, Equal, Less}
use Rattle.whole.specs.FractionLaws.{apart, less-apart}
use Rattle.whole.specs.Choice.{or_else}
use Rattle.sheet.specs.declared.Point.{Point}
use Rattle.sheet.specs.PointFacts.{APoint}
use Rattle.sheet.specs.Signs.{order}
use Rattle.sheet.specs.Expansions.{order_is}
use Rattle.cut.specs.Bounds.{order_need}
use Rattle.cut.specs.Place.{Place, put}
use Rattle.cut.specs.Ordinary.{Ordered, x_less, x_more, y_less, y_more, same}
use Rattle.cut.proofs.Coordinate.{x-of, y_of, coordinate-at}

-- ---- two fractions by the sign of their difference

module _ (a b : Fraction) where
  more : pos 0 <ℤ apart a b → Less b a
  more h = record { less = lt-cert _ h refl }

  equal : apart a b ≡ pos 0 → Equal a b
  equal e = record { equal = eq-of-sub (a.num *ℤ b.den) (b.num *ℤ a.den) e }

-- any two places are ordered by the signs of their differences
ordered : (P Q : Place) → Ordered P Q (or_else (sgn (apart P.across Q.across)) (sgn (apart P.up Q.up)))
ordered P Q = go (signs (apart P.across Q.across)) (signs (apart P.up Q.up))
  where
    -- x decides, or y does
    by_x : {s : ℤ} → sgn (apart P.across Q.across) ≡ s → Ordered P Q (or_else s (sgn (apart P.up Q.up)))
        → Ordered P Q (or_else (sgn (apart P.across Q.across)) (sgn (apart P.up Q.up)))
    by_x e = subst (λ (s : ℤ). Ordered P Q (or_else s (sgn (apart P.up Q.up)))) (sym e)

    by_y : {t : ℤ} → sgn (apart P.across Q.across) ≡ pos 0 → sgn (apart P.up Q.up) ≡ t → Ordered P Q t
        → Ordered P Q (or_else (sgn (apart P.across Q.across)) (sgn (apart P.up Q.up)))
    by_y e f o = by_x e (subst (Ordered P Q) (sym f) o)

    go : Signs (apart P.across Q.across) → Signs (apart P.up Q.up)
        → Ordered P Q (or_else (sgn (apart P.across Q.across)) (sgn (apart P.up Q.up)))
    go (minus h e) u = by_x e (x_less ((less-apart P.across Q.across).1 h))
    go (plus h e) u = by_x e (x_more (more P.across Q.across h))
    go (nought z e) (minus h f) = by_y e f (y_less (equal P.across Q.across z) ((less-apart P.up Q.up).1 h))
    go (nought z e) (plus h f) = by_y e f (y_more (equal P.across Q.across z) (more P.up Q.up h))
    go (nought z e) (nought y f) =
        by_y e f (same (record { same_across = equal P.across Q.across z; same_up = equal P.up Q.up y }))

-- ---- the law

pub order-apart : {R : ℤ} → pos order_need <ℤ R → {p q : Point} → APoint p → APoint q → (h : pos 0 <ℤ p.w) (k : pos 0 <ℤ q.w)
    → or_else (sgn (apart (put R p h).across (put R q k).across)) (sgn (apart (put R p h).up (put R q k).up)) ≡ order p q
order-apart h_r {p} {q} a b h k =
    ap₂ or_else
    (coordinate-at h_r p.mx p.nx p.w q.mx q.nx q.w (x-of a) (x-of b))
    (coordinate-at h_r p.my p.ny p.w q.my q.ny q.w (y_of a) (y_of b))
    ∙ sym (order_is p q)

pub order-at : {R : ℤ} → pos order_need <ℤ R → {p q : Point} → APoint p → APoint q → (h : pos 0 <ℤ p.w) (k : pos 0 <ℤ q.w)
    → Ordered (put R p h) (put R q k) (order p q)
order-at {R} h_r {p} {q} a b h k = subst (Ordered (put R p h) (put R q k)) (order-apart h_r a b h k) (ordered (put R p h) (put R q k))

-- Two points that are one place at some R above 256,000,008,000,000 have the same five numbers. To cite:
--   same-numbers-at
use Rattle.std.specs.Prelude.{◌≡◌, ℤ, pos, ◌-ℤ◌, ◌*ℤ◌, ◌<ℤ◌}
use Rattle.std.proofs.Common.{sym, ◌∙◌, ap, ap₂}
use Rattle.whole.specs.Laws.{sub_self}
use Rattle.whole.specs.Sign.{sgn}
use Rattle.whole.specs.SignLaws.{sgn-zero}
use Rattle.whole.specs.Fraction.{Fraction, Equal}
use Rattle.whole.specs.FractionLaws.{apart}
use Rattle.whole.specs.Choice.{or_else}
use Rattle.sheet.specs.declared.Point.{Point}
use Rattle.sheet.specs.PointFacts.{APoint}
use Rattle.sheet.specs.PointsLaws.{point-is}
use Rattle.sheet.proofs.SignsLaws.{order-zero}
use Rattle.cut.specs.Bounds.{order_need}
use Rattle.cut.specs.Place.{SamePlace, put}
use Rattle.cut.proofs.OrderAt.{order-apart}

not-apart : {a b : Fraction} → Equal a b → sgn (apart a b) ≡ pos 0
not-apart {a} {b} e = ap sgn (ap (λ (x : ℤ). x -ℤ b.num *ℤ a.den) e.equal ∙ sub_self (b.num *ℤ a.den)) ∙ sgn-zero

-- for their order is 0
pub same-numbers-at : {R : ℤ} → pos order_need <ℤ R → {p q : Point} → APoint p → APoint q → (h : pos 0 <ℤ p.w) (k : pos 0 <ℤ q.w)
    → SamePlace (put R p h) (put R q k) → p ≡ q
same-numbers-at h_r {p} {q} a b h k e =
    (order-zero p q ((point-is p).1 a) ((point-is q).1 b)).0
    (sym (order-apart h_r a b h k) ∙ ap₂ or_else (not-apart e.same_across) (not-apart e.same_up))

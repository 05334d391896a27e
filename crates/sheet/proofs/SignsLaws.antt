-- Order, turn and side as signs. To cite:
--   order-swap, order-zero                        order is antisymmetric, and 0 exactly at equal points
--   key, order_value                              order of two points compares key/w of them, one whole number over another
--   order_trans, order-less-trans, order-trans-strict   order is transitive
--   point-above                                   w of a point is above 0
--   turn-swap-first, turn-swap-last, turn-swap-ends   changing over two of the three points negates the turn
--   turn-same-first, turn-same-last, turn-same-ends   two equal points give 0
--   order-within, turn-within, side-sign-within       -1, 0 or 1
-- Assumes nothing.
use Rattle.std.specs.Prelude.{◌≡◌, refl, ◌⊎◌, ◌↔◌, true, List, [], ◌∷◌, zero, suc, ℤ, pos, negsuc, ◌-ℤ◌, ◌*ℤ◌, ◌≤ℤ◌, ◌<ℤ◌}
use Rattle.std.proofs.Math.Path.{sym, ap}
use Rattle.std.proofs.Common.{◌∙◌, ap₂, subst, inl, inr}
use Rattle.std.proofs.Math.IntN.{neg_ℤ, neg_ℤ-neg_ℤ, *ℤ_comm, pos-ne-negsuc}
use Rattle.std.specs.Int.Signed.{le_z_yes, lt_z_yes, clash_ℤ}
use Rattle.whole.specs.Laws.{eq-of-sub, sub_self}
use Rattle.whole.specs.Reify.{reify, reading, solve, val_pos}
use Rattle.whole.specs.Order.{pp-pos, le-or-lt}
use Rattle.whole.specs.Sign.{sgn}
use Rattle.whole.specs.SignLaws.{Signs, signs, minus, nought, plus, sgn-pos, sgn-neg, sgn-neg-eq, sgn-zero, zero-of-sgn, neg-of-sgn}
use Rattle.whole.specs.Fraction.{Fraction, AtMost}
use Rattle.whole.specs.FractionLaws.{at-most-apart, less-apart, at-most-trans, less-at-most-trans}
use Rattle.whole.specs.Poly.{Poly, value, ◌⊟◌, ◌⊠◌, leading}
use Rattle.whole.specs.Flag.{eq_z}
use Rattle.whole.specs.Tests.{cond-by}
use Rattle.whole.specs.Choice.{or_else}
use Rattle.whole.specs.PolyLaws.{leading-opposite}
use Rattle.whole.specs.ChoiceLaws.{or-neg, or-zero, or_assoc}
use Rattle.whole.specs.Within.{Within}
use Rattle.whole.specs.Bound.{w-sub, w-mul, w-pos, w-lit, w-sgn}
use Rattle.whole.specs.Lead.{small, highest, ◌under◌, lead}
use Rattle.sheet.specs.declared.Object.{Object}
use Rattle.sheet.specs.declared.Point.{Point}
use Rattle.sheet.specs.Figure.{Figure, segment, ray, line, side, figure}
use Rattle.sheet.specs.Points.{X, Y, W, is_point, given}
use Rattle.sheet.specs.Ends.{begins, next_side}
use Rattle.sheet.specs.Signs.{order, turn_poly, turn, side_of_figure, side_sign}
use Rattle.sheet.specs.PointFacts.{APoint}
use Rattle.sheet.specs.PointSizes.{PointSizes}
use Rattle.sheet.specs.PointsLaws.{point-is, point-sizes, in-proportion}
use Rattle.sheet.specs.Coefficients.{order_x, order_y, det, turn_a, turn_b, turn_c}
use Rattle.sheet.specs.Expansions.{order_is, turn-poly-is}

-- ---- order

-- the opposite difference has the opposite sign
sgn-swap : (a b : ℤ) → sgn (b -ℤ a) ≡ neg_ℤ (sgn (a -ℤ b))
sgn-swap a b = ap sgn (reify (a ∷ b ∷ []) (λ ρ v. simp (reading, v 0, v 1) (solve _ _ _ tt))) ∙ sgn-neg-eq (a -ℤ b)

axis-swap : (a b c d : ℤ) → or_else (sgn (b -ℤ a)) (sgn (d -ℤ c)) ≡ neg_ℤ (or_else (sgn (a -ℤ b)) (sgn (c -ℤ d)))
axis-swap a b c d = ap₂ or_else (sgn-swap a b) (sgn-swap c d) ∙ or-neg (sgn (a -ℤ b)) (sgn (c -ℤ d))

pub order-swap : (p q : Point) → order q p ≡ neg_ℤ (order p q)
order-swap p q =
    order_is q p
    ∙ ap₂ or_else
    (axis-swap (p.mx *ℤ q.w) (q.mx *ℤ p.w) (p.nx *ℤ q.w) (q.nx *ℤ p.w))
    (axis-swap (p.my *ℤ q.w) (q.my *ℤ p.w) (p.ny *ℤ q.w) (q.ny *ℤ p.w))
    ∙ or-neg (order_x p q) (order_y p q)
    ∙ sym (ap neg_ℤ (order_is p q))

order-self : (p : Point) → order p p ≡ pos 0
order-self p = order_is p p ∙ simp (sub_self, sgn-zero)

-- all four coordinates in proportion, and the divisors 1
same-of-zero : (p q : Point) → APoint p → APoint q → order p q ≡ pos 0 → p ≡ q
same-of-zero p q hp hq e =
    let z = or-zero _ _ (sym (order_is p q) ∙ e) in
    let x = or-zero _ _ z.0 in
    let y = or-zero _ _ z.1 in
    in-proportion hp hq (ratio p.mx q.mx x.0) (ratio p.nx q.nx x.1) (ratio p.my q.my y.0) (ratio p.ny q.ny y.1)
  where
    ratio : (a b : ℤ) → sgn (a *ℤ q.w -ℤ b *ℤ p.w) ≡ pos 0 → q.w *ℤ a ≡ p.w *ℤ b
    ratio a b z = *ℤ_comm q.w a ∙ eq-of-sub (a *ℤ q.w) (b *ℤ p.w) (zero-of-sgn z) ∙ *ℤ_comm b p.w

pub order-zero : (p q : Point) → is_point p ≡ true → is_point q ≡ true → (order p q ≡ pos 0) ↔ (p ≡ q)
order-zero p q hp hq =
    (same-of-zero p q ((point-is p).0 hp) ((point-is q).0 hq), λ e. subst (λ (s : Point). order p s ≡ pos 0) e (order-self p))

-- ---- order as a comparison of fractions: mx, nx, my, ny are the digits of one number

abbrev pub digits : Point → Poly
digits p = p.ny ∷ p.my ∷ p.nx ∷ p.mx ∷ []

-- so large that no digit carries
abbrev base : ℤ
base = pos 1000000000000000000000000000000

pub key : Point → ℤ
key p = value (digits p) base

pub order_value : (p q : Point) → is_point p ≡ true → is_point q ≡ true → order p q ≡ sgn (key p *ℤ q.w -ℤ key q *ℤ p.w)
unfolding key
order_value p q hp hq =
    order_is p q
    ∙ or_assoc (order_x p q) (sgn (p.my *ℤ q.w -ℤ q.my *ℤ p.w)) (sgn (p.ny *ℤ q.w -ℤ q.ny *ℤ p.w))
    ∙ sym (lead base (small cy below under small my below under small cx below under highest))
    ∙ ap sgn (digitwise base p.mx p.nx p.my p.ny p.w q.mx q.nx q.my q.ny q.w)
  where
    a : PointSizes p
    a = point-sizes ((point-is p).0 hp)

    b : PointSizes q
    b = point-sizes ((point-is q).0 hq)

    below : pos 4096000000000000000 <ℤ base
    below = lt_z_yes tt

    cx : Within 4096000000000000000 (p.nx *ℤ q.w -ℤ q.nx *ℤ p.w)
    cx = w-sub (w-mul a.in_nx b.in-w.at_most) (w-mul b.in_nx a.in-w.at_most)

    cy : Within 4096000000000000000 (p.ny *ℤ q.w -ℤ q.ny *ℤ p.w)
    cy = w-sub (w-mul a.in_ny b.in-w.at_most) (w-mul b.in_ny a.in-w.at_most)

    my : Within 4096000000000000000 (p.my *ℤ q.w -ℤ q.my *ℤ p.w)
    my = w-lit (w-sub (w-mul a.in_my b.in-w.at_most) (w-mul b.in_my a.in-w.at_most)) tt

    digitwise : (R mx nx my ny w mx' nx' my' ny' w' : ℤ)
        → value ((ny *ℤ w' -ℤ ny' *ℤ w) ∷ (my *ℤ w' -ℤ my' *ℤ w) ∷ (nx *ℤ w' -ℤ nx' *ℤ w) ∷ (mx *ℤ w' -ℤ mx' *ℤ w) ∷ []) R
        ≡ value (ny ∷ my ∷ nx ∷ mx ∷ []) R *ℤ w' -ℤ value (ny' ∷ my' ∷ nx' ∷ mx' ∷ []) R *ℤ w
    digitwise R mx nx my ny w mx' nx' my' ny' w' =
        reify (R ∷ mx ∷ nx ∷ my ∷ ny ∷ w ∷ mx' ∷ nx' ∷ my' ∷ ny' ∷ w' ∷ [])
        (λ ρ v. simp (reading, v 0, v 1, v 2, v 3, v 4, v 5, v 6, v 7, v 8, v 9, v 10, val_pos ρ) (solve _ _ _ tt))

pub point-above : (p : Point) → is_point p ≡ true → pos 0 <ℤ p.w
point-above p h = (point-sizes ((point-is p).0 h)).in-w.above

le-of-sgn : (z : ℤ) → sgn z ≤ℤ pos 0 → z ≤ℤ pos 0
le-of-sgn z h = go (le-or-lt z (pos 0))
  where
    go : (z ≤ℤ pos 0) ⊎ (pos 0 <ℤ z) → z ≤ℤ pos 0
    go (inl l) = l
    go (inr l) = clash_ℤ (pp-pos 0) (subst (λ (x : ℤ). x ≤ℤ pos 0) (sgn-pos l) h)

sgn-of-le : (z : ℤ) → z ≤ℤ pos 0 → sgn z ≤ℤ pos 0
sgn-of-le z h = go (signs z)
  where
    go : Signs z → sgn z ≤ℤ pos 0
    go (minus l e) = subst (λ (x : ℤ). x ≤ℤ pos 0) (sym e) (le_z_yes tt)
    go (nought l e) = subst (λ (x : ℤ). x ≤ℤ pos 0) (sym e) (le_z_yes tt)
    go (plus l e) = clash_ℤ l h

-- points are ordered as these fractions are
abbrev fraction : (p : Point) → is_point p ≡ true → Fraction
fraction p h = record { num = key p; den = p.w; above = point-above p h }

not_after : (p q : Point) (hp : is_point p ≡ true) (hq : is_point q ≡ true) → order p q ≤ℤ pos 0 → AtMost (fraction p hp) (fraction q hq)
not_after p q hp hq h =
    (at-most-apart (fraction p hp) (fraction q hq)).1 (le-of-sgn _ (subst (λ (x : ℤ). x ≤ℤ pos 0) (order_value p q hp hq) h))

module _ (p q s : Point) (hp : is_point p ≡ true) (hq : is_point q ≡ true) (hs : is_point s ≡ true) where
  pub order_trans : order p q ≤ℤ pos 0 → order q s ≤ℤ pos 0 → order p s ≤ℤ pos 0
  order_trans h k =
      subst (λ (x : ℤ). x ≤ℤ pos 0) (sym (order_value p s hp hs))
      (sgn-of-le _ ((at-most-apart (fraction p hp) (fraction s hs)).0 (at-most-trans (not_after p q hp hq h) (not_after q s hq hs k))))

  pub order-less-trans : order p q ≡ negsuc 0 → order q s ≤ℤ pos 0 → order p s ≡ negsuc 0
  order-less-trans h k =
      let l = (less-apart (fraction p hp) (fraction q hq)).1 (neg-of-sgn (sym (order_value p q hp hq) ∙ h)) in
      order_value p s hp hs ∙ sgn-neg ((less-apart (fraction p hp) (fraction s hs)).0 (less-at-most-trans l (not_after q s hq hs k)))

  pub order-trans-strict : order p q ≡ negsuc 0 → order q s ≡ negsuc 0 → order p s ≡ negsuc 0
  order-trans-strict h k = order-less-trans h (subst (λ (x : ℤ). x ≤ℤ pos 0) (sym k) (le_z_yes tt))

-- ---- turn

det-swap-first : (w1 x1 y1 w2 x2 y2 w3 x3 y3 : ℤ) → det w2 x2 y2 w1 x1 y1 w3 x3 y3 ≡ neg_ℤ (det w1 x1 y1 w2 x2 y2 w3 x3 y3)
det-swap-first w1 x1 y1 w2 x2 y2 w3 x3 y3 =
    reify (w1 ∷ x1 ∷ y1 ∷ w2 ∷ x2 ∷ y2 ∷ w3 ∷ x3 ∷ y3 ∷ [])
    (λ ρ v. simp (reading, v 0, v 1, v 2, v 3, v 4, v 5, v 6, v 7, v 8) (solve _ _ _ tt))

det-swap-last : (w1 x1 y1 w2 x2 y2 w3 x3 y3 : ℤ) → det w1 x1 y1 w3 x3 y3 w2 x2 y2 ≡ neg_ℤ (det w1 x1 y1 w2 x2 y2 w3 x3 y3)
det-swap-last w1 x1 y1 w2 x2 y2 w3 x3 y3 =
    reify (w1 ∷ x1 ∷ y1 ∷ w2 ∷ x2 ∷ y2 ∷ w3 ∷ x3 ∷ y3 ∷ [])
    (λ ρ v. simp (reading, v 0, v 1, v 2, v 3, v 4, v 5, v 6, v 7, v 8) (solve _ _ _ tt))

module _ (p q s : Point) where
  abbrev fifteen : List ℤ
  fifteen =
      p.w ∷ p.mx ∷ p.nx ∷ p.my ∷ p.ny ∷ q.w ∷ q.mx ∷ q.nx ∷ q.my ∷ q.ny ∷ s.w ∷ s.mx ∷ s.nx ∷ s.my ∷ s.ny ∷ []

  -- the three coefficients' opposites
  negated : (a b c : Point) → turn_a a b c ≡ neg_ℤ (turn_a p q s) → turn_b a b c ≡ neg_ℤ (turn_b p q s) → turn_c a b c ≡ neg_ℤ (turn_c p q s)
      → turn a b c ≡ neg_ℤ (turn p q s)
  unfolding turn
  negated a b c e f g =
      ap leading (turn-poly-is a b c ∙ (λ i. g i ∷ f i ∷ e i ∷ []))
      ∙ leading-opposite (turn_c p q s ∷ turn_b p q s ∷ turn_a p q s ∷ [])
      ∙ sym (ap (λ (P : Poly). neg_ℤ (leading P)) (turn-poly-is p q s))

  pub turn-swap-first : turn q p s ≡ neg_ℤ (turn p q s)
  turn-swap-first =
      negated q p s
      (det-swap-first p.w p.mx p.my q.w q.mx q.my s.w s.mx s.my)
      (reify fifteen
      (λ ρ v. simp (reading, v 0, v 1, v 2, v 3, v 4, v 5, v 6, v 7, v 8, v 9, v 10, v 11, v 12, v 13, v 14) (solve _ _ _ tt)))
      (det-swap-first p.w p.nx p.ny q.w q.nx q.ny s.w s.nx s.ny)

  pub turn-swap-last : turn p s q ≡ neg_ℤ (turn p q s)
  turn-swap-last =
      negated p s q
      (det-swap-last p.w p.mx p.my q.w q.mx q.my s.w s.mx s.my)
      (reify fifteen
      (λ ρ v. simp (reading, v 0, v 1, v 2, v 3, v 4, v 5, v 6, v 7, v 8, v 9, v 10, v 11, v 12, v 13, v 14) (solve _ _ _ tt)))
      (det-swap-last p.w p.nx p.ny q.w q.nx q.ny s.w s.nx s.ny)

pub turn-swap-ends : (p q s : Point) → turn s q p ≡ neg_ℤ (turn p q s)
turn-swap-ends p q s =
    turn-swap-first q s p ∙ ap neg_ℤ (turn-swap-last q p s ∙ ap neg_ℤ (turn-swap-first p q s)) ∙ ap neg_ℤ (neg_ℤ-neg_ℤ (turn p q s))

-- "Equal points give 0."
own-opposite : (z : ℤ) → z ≡ neg_ℤ z → z ≡ pos 0
own-opposite (pos zero) e = refl
own-opposite (pos (suc n)) e = absurd (pos-ne-negsuc (suc n) n e)
own-opposite (negsuc n) e = absurd (pos-ne-negsuc (suc n) n (sym e))

module _ (p q : Point) where
  pub turn-same-first : turn p p q ≡ pos 0
  turn-same-first = own-opposite (turn p p q) (turn-swap-first p p q)

  pub turn-same-last : turn p q q ≡ pos 0
  turn-same-last = own-opposite (turn p q q) (turn-swap-last p q q)

  pub turn-same-ends : turn p q p ≡ pos 0
  turn-same-ends = own-opposite (turn p q p) (turn-swap-ends p q p)

-- ---- "Signs are -1, 0 or 1"

or-within : (s t : ℤ) → Within 1 s → Within 1 t → Within 1 (or_else s t)
or-within s t h k = cond-by (Within 1) (eq_z s (pos 0)) (λ _. k) (λ _. h)

pub leading-within : (P : Poly) → Within 1 (leading P)
leading-within [] = w-lit (w-pos 0) tt
leading-within (c ∷ P) = or-within (leading P) (sgn c) (leading-within P) (w-sgn c)

pub order-within : (p q : Point) → Within 1 (order p q)
unfolding order
order-within p q = or-within _ _ (leading-within (X p ⊠ W q ⊟ X q ⊠ W p)) (leading-within (Y p ⊠ W q ⊟ Y q ⊠ W p))

pub turn-within : (p q s : Point) → Within 1 (turn p q s)
unfolding turn
turn-within p q s = leading-within (turn_poly p q s)

pub side-sign-within : (o : Object) (s : Point) → Within 1 (side_sign o s)
unfolding side_sign
side-sign-within o s = go (figure o)
  where
    go : (f : Figure) → Within 1 (side_of_figure f s)
    go (segment p q) = turn-within (given p) (given q) s
    go (ray p q) = turn-within (given p) (given q) s
    go (line p q) = turn-within (given p) (given q) s
    go (side n) = turn-within (begins n) (begins (next_side n)) s

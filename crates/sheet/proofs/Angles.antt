-- The side of circle in numbers that an i64 holds. The determinant of three given points p, q, s and a point u is
--   turn(p, q, s) (q - u)(s - u) - turn(u, q, s) (q - p)(s - p),
-- with inner products for the brackets: that is the sine of the angle under which q and s are seen from p, less that under which they are
-- seen from u, times lengths. A frame point is far: (q - u)(s - u) outweighs all the rest, and turn(p, q, s) decides unless it is 0. To cite:
--   circle_need                       from which R on the sign does not change
--   by-given                         the side of circle of a given u
--   by-frame                         of a frame point
--   circle-settled                   of four points that are not refused, the sign at every R above circle_need is the side of circle
-- Assumes nothing.
use Rattle.std.specs.Prelude.{◌≡◌, refl, ◌⊎◌, [], ◌∷◌, ℕ, suc, ◌+◌, ◌*◌, ◌≤◌, ◌<◌, ℤ, pos, negsuc, neg_ℤ, nat_abs, ◌+ℤ◌, ◌-ℤ◌, ◌*ℤ◌, ◌≤ℤ◌, ◌<ℤ◌}
use Rattle.std.proofs.Common.{sym, ◌∙◌, ap₂, subst, inl, inr, mul-le-mul_left, mul-le-mul_right, arith, ltb→lt, lt→ltb}
use Rattle.std.proofs.Math.Path.{ap}
use Rattle.std.proofs.Math.IntN.{ℤ_discrete, +ℤ_comm}
use Rattle.std.specs.Int.Signed.{lt_z_yes}
use Rattle.whole.specs.Ring.{var, lit, ◌⊕◌, ◌⊗◌, ring}
use Rattle.whole.specs.Reify.{reify, reading, solve, val_pos}
use Rattle.whole.specs.Order.{pp-dest, nn-sq, le-cert, ≤_trans, ≤-of, <-trans, <-≤-trans}
use Rattle.whole.specs.Cert.{z-eq, eq-cert}
use Rattle.whole.specs.Sign.{sgn}
use Rattle.whole.specs.SignLaws.{sgn-neg-eq, sgn-mul, sgn-mul-pos, sgn-zero, size_above}
use Rattle.whole.specs.Within.{Within}
use Rattle.whole.specs.Bound.{w-is, w-add, w-sub, w-mul, w-pos, w-self, w-weak, w-lit}
use Rattle.whole.specs.Poly.{value}
use Rattle.whole.specs.Choice.{or_else}
use Rattle.whole.specs.ChoiceLaws.{or-ne}
use Rattle.whole.specs.Lead.{outweighs, small, lead-step, leading-settled}
use Rattle.sheet.specs.declared.Point.{Point}
use Rattle.sheet.specs.Figure.{Vec}
use Rattle.sheet.proofs.RefusalLaws.{WithinBoth}
use Rattle.sheet.specs.Points.{given}
use Rattle.sheet.specs.PointFacts.{OnEdge, Frame}
use Rattle.sheet.specs.PointsLaws.{square-within}
use Rattle.sheet.specs.Signs.{turn}
use Rattle.sheet.specs.Expansions.{side_b, side_c, pair-side-is}
use Rattle.sheet.specs.CircleForms.{turns, inner, given_form, frame_form}
use Rattle.sheet.specs.Circle.{circle_poly, side_of_circle}
use Rattle.sheet.specs.CirclePoints.{Given, Fourth, a_given, on_frame}
use Rattle.sheet.proofs.CircleLaws.{Over, over_at, circle_z, circle-value, given_is, given_place, given-small, Four}

-- ---- the identity

-- q and s seen from (X/w, Y/w): their inner product, w w times, and the turn of q, s and that place, w times
abbrev inner_over : Vec → Vec → ℤ → ℤ → ℤ → ℤ
inner_over q s w X Y = (X -ℤ w *ℤ q.x) *ℤ (X -ℤ w *ℤ s.x) +ℤ (Y -ℤ w *ℤ q.y) *ℤ (Y -ℤ w *ℤ s.y)

abbrev turn_over : Vec → Vec → ℤ → ℤ → ℤ → ℤ
turn_over q s w X Y = (s.x -ℤ q.x) *ℤ (Y -ℤ w *ℤ q.y) -ℤ (s.y -ℤ q.y) *ℤ (X -ℤ w *ℤ q.x)

abbrev over : ℤ → ℤ → ℤ → Over
over w x y = record { w = w; x = x; y = y }

abbrev fixed : Vec → Over
fixed a = over (pos 1) a.x a.y

abbrev angles : Vec → Vec → Vec → ℤ → ℤ → ℤ → ℤ
angles p q s w X Y = turns p q s *ℤ inner_over q s w X Y -ℤ w *ℤ (inner p q s *ℤ turn_over q s w X Y)

by-angles : (p q s : Vec) (w X Y : ℤ) → circle_z (fixed p) (fixed q) (fixed s) (over w X Y) ≡ angles p q s w X Y
by-angles p q s w X Y =
    reify (p.x ∷ p.y ∷ q.x ∷ q.y ∷ s.x ∷ s.y ∷ w ∷ X ∷ Y ∷ [])
    (λ ρ v. simp (reading, val_pos ρ, v 0, v 1, v 2, v 3, v 4, v 5, v 6, v 7, v 8) (solve _ _ _ tt))

-- ---- three given points at R

-- 0 R + n
still : {m : ℤ} (R n : ℤ) → m ≡ pos 0 → m *ℤ R +ℤ n ≡ n
still R n e = ap (λ (z : ℤ). z *ℤ R +ℤ n) e ∙ ring (R ∷ n ∷ []) (lit 0 ⊗ var 0 ⊕ var 1) (var 1) tt

stays : {p : Point} (R : ℤ) → Given p → over_at R p ≡ fixed (given_place p)
stays {p} R g = λ i. over (g.one i) (still R p.nx g.no_mx i) (still R p.ny g.no_my i)

module _ {p q s : Point} (a : Given p) (b : Given q) (c : Given s) where
  value-angles : (R : ℤ) (u : Point)
      → value (circle_poly p q s u) R ≡ angles (given_place p) (given_place q) (given_place s) u.w (u.mx *ℤ R +ℤ u.nx) (u.my *ℤ R +ℤ u.ny)
  value-angles R u =
      circle-value R p q s u
      ∙ (λ i. circle_z (stays R a i) (stays R b i) (stays R c i) (over_at R u))
      ∙ by-angles (given_place p) (given_place q) (given_place s) u.w (u.mx *ℤ R +ℤ u.nx) (u.my *ℤ R +ℤ u.ny)

-- ---- a given point

from-given : (p q s u : Vec) → angles p q s (pos 1) u.x u.y ≡ given_form p q s u
from-given p q s u =
    reify (p.x ∷ p.y ∷ q.x ∷ q.y ∷ s.x ∷ s.y ∷ u.x ∷ u.y ∷ [])
    (λ ρ v. simp (reading, val_pos ρ, v 0, v 1, v 2, v 3, v 4, v 5, v 6, v 7) (solve _ _ _ tt))

module _ {p q s u : Point} (a : Given p) (b : Given q) (c : Given s) (d : Given u) where
  given-at : (R : ℤ) → value (circle_poly p q s u) R ≡ given_form (given_place p) (given_place q) (given_place s) (given_place u)
  given-at R =
      value-angles a b c R u
      ∙ (λ i. angles (given_place p) (given_place q) (given_place s) (d.one i) (still R u.nx d.no_mx i) (still R u.ny d.no_my i))
      ∙ from-given (given_place p) (given_place q) (given_place s) (given_place u)

  pub by-given : side_of_circle p q s u ≡ sgn (given_form (given_place p) (given_place q) (given_place s) (given_place u))
  unfolding side_of_circle
  by-given = leading-settled (circle_poly p q s u) 0 (λ R h_r. ap sgn (given-at R))

-- ---- a frame point: how large the parts are

-- with k = w R: what stands beside X X + Y Y in the inner product, and the other product, both at most
abbrev rest_size : ℕ → ℕ → ℕ
rest_size w k = w * w * 8000000 + w * (4000 * (2 * k) + 4000 * (2 * k))

abbrev turn_size : ℕ → ℕ → ℕ
turn_size w k = w * (32000000 * (4000 * (2 * k + w * 2000) + 4000 * (2 * k + w * 2000)))

abbrev pub circle_need : ℕ
circle_need = 1000000000000

first_part : (a b : ℕ) → 1000000000000 * a ≤ b → 512000008000000 * a ≤ 1000 * b
first_part a b k = omega arith

both-parts : (d b c : ℕ) → d ≤ 1000 * b → 1 ≤ b → 1000000000000 * b ≤ c → d + 512000016000 * b < c
both-parts d b c h k l = omega arith

not_none : (a b : ℕ) → 1 ≤ a → 1000000000000 * a ≤ b → 1 ≤ b
not_none a b h k = omega arith

gathered : (w k : ℕ) → 512000008000000 * (w * w) + 512000016000 * (w * k) ≡ rest_size w k + turn_size w k
gathered w k = omega arith

enough : (w k : ℕ) → 1 ≤ w → w * circle_need ≤ k → rest_size w k + turn_size w k < k * k
enough w k h l =
    let a : w * (w * 1000000000000) ≤ w * k = mul-le-mul_left w l in
    let b : w * 1000000000000 * k ≤ k * k = mul-le-mul_right k l in
    let c : w * 1 ≤ w * w = mul-le-mul_left w h in
    let one : 1 ≤ w * k = not_none (w * w) (w * k) (omega arith) (omega arith) in
    subst (λ (z : ℕ). z < k * k) (gathered w k)
    (both-parts (512000008000000 * (w * w)) (w * k) (k * k) (first_part (w * w) (w * k) (omega arith)) one (omega arith))

module _ {p q s : Vec} (hp : WithinBoth 2000 p) (hq : WithinBoth 2000 q) (hs : WithinBoth 2000 s) where
  in_inner : Within 32000000 (inner p q s)
  in_inner =
      w-add (w-mul (w-sub hq.in_x hp.in_x) (w-sub hs.in_x hp.in_x)) (w-mul (w-sub hq.in_y hp.in_y) (w-sub hs.in_y hp.in_y))

  -- what the inner product has beside X X + Y Y
  abbrev rest : ℤ → ℤ → ℤ → ℤ
  rest w X Y = w *ℤ w *ℤ (q.x *ℤ s.x +ℤ q.y *ℤ s.y) -ℤ w *ℤ ((q.x +ℤ s.x) *ℤ X +ℤ (q.y +ℤ s.y) *ℤ Y)

  parts : (t j w X Y : ℤ)
      → t *ℤ inner_over q s w X Y -ℤ w *ℤ (j *ℤ turn_over q s w X Y)
      ≡ t *ℤ (X *ℤ X +ℤ Y *ℤ Y) +ℤ (t *ℤ rest w X Y -ℤ w *ℤ (j *ℤ turn_over q s w X Y))
  parts t j w X Y =
      reify (t ∷ j ∷ w ∷ X ∷ Y ∷ q.x ∷ q.y ∷ s.x ∷ s.y ∷ [])
      (λ ρ v. simp (reading, v 0, v 1, v 2, v 3, v 4, v 5, v 6, v 7, v 8) (solve _ _ _ tt))

  module _ (w k : ℕ) (X Y : ℤ) (h_x : Within (2 * k) X) (h_y : Within (2 * k) Y) where
    in_rest : Within (rest_size w k) (rest (pos w) X Y)
    in_rest =
        w-sub (w-mul (w-mul (w-pos w) (w-pos w)) (w-add (w-mul hq.in_x hs.in_x) (w-mul hq.in_y hs.in_y)))
        (w-mul (w-pos w) (w-add (w-mul (w-add hq.in_x hs.in_x) h_x) (w-mul (w-add hq.in_y hs.in_y) h_y)))

    in-turn : Within (4000 * (2 * k + w * 2000) + 4000 * (2 * k + w * 2000)) (turn_over q s (pos w) X Y)
    in-turn =
        w-sub (w-mul (w-sub hs.in_x hq.in_x) (w-sub h_y (w-mul (w-pos w) hq.in_y)))
        (w-mul (w-sub hs.in_y hq.in_y) (w-sub h_x (w-mul (w-pos w) hq.in_x)))

    -- t is 1 or more in size
    times : (t a b : ℕ) → 1 ≤ t → t * a + b ≤ t * (a + b)
    times t a b h = let l : 1 * b ≤ t * b = mul-le-mul_right b h in omega arith

    ahead : (t : ℤ) → (t ≡ pos 0 → ⊥) → pos (rest_size w k + turn_size w k) <ℤ (X *ℤ X +ℤ Y *ℤ Y)
        → sgn (t *ℤ inner_over q s (pos w) X Y -ℤ pos w *ℤ (inner p q s *ℤ turn_over q s (pos w) X Y)) ≡ sgn t
    ahead t n l =
        ap sgn (parts t (inner p q s) (pos w) X Y)
        ∙ outweighs t (X *ℤ X +ℤ Y *ℤ Y) _ (rest_size w k + turn_size w k) n
        (w-weak (w-sub (w-mul (w-self t) in_rest) (w-mul (w-pos w) (w-mul in_inner in-turn)))
        (times (nat_abs t) _ _ (ltb→lt 0 (nat_abs t) (size_above n).lt))) l

-- ---- a frame point

-- (m R + 0)² is (w R)²
edge-square : (m n w R : ℤ) → OnEdge m n w → (m *ℤ R +ℤ n) *ℤ (m *ℤ R +ℤ n) ≡ (w *ℤ R) *ℤ (w *ℤ R)
edge-square m n w R o =
    ap (λ (z : ℤ). (m *ℤ R +ℤ z) *ℤ (m *ℤ R +ℤ z)) o.even
    ∙ ring (m ∷ R ∷ []) ((var 0 ⊗ var 1 ⊕ lit 0) ⊗ (var 0 ⊗ var 1 ⊕ lit 0)) (var 0 ⊗ var 0 ⊗ (var 1 ⊗ var 1)) tt
    ∙ ap (λ (z : ℤ). z *ℤ (R *ℤ R)) (square m ∙ ap₂ (λ (a b : ℤ). a *ℤ b) o.full o.full)
    ∙ reify (w ∷ R ∷ []) (λ ρ v. simp (reading, v 0, v 1) (solve _ _ _ tt))
  where
    square : (z : ℤ) → z *ℤ z ≡ pos (nat_abs z) *ℤ pos (nat_abs z)
    square (pos a) = refl
    square (negsuc a) = refl

-- w and R as natural numbers w and r
coordinate : {R m n : ℤ} {w r : ℕ} → R ≡ pos r → Within w m → Within 8000000 n → 8000000 ≤ w * r → Within (2 * (w * r)) (m *ℤ R +ℤ n)
coordinate {r = r} er hm hn l = w-weak (w-add (w-mul hm (w-is er (w-pos r))) hn) (omega arith)

-- one of X X and Y Y is (w R)²
module _ {u : Point} (f : Frame u) {R : ℤ} {w r : ℕ} (ew : u.w ≡ pos w) (er : R ≡ pos r) where
  squares : pos (w * r * (w * r)) ≤ℤ ((u.mx *ℤ R +ℤ u.nx) *ℤ (u.mx *ℤ R +ℤ u.nx) +ℤ (u.my *ℤ R +ℤ u.ny) *ℤ (u.my *ℤ R +ℤ u.ny))
  squares = go f.on_edge
    where
      full : {z : ℤ} → z ≡ (u.w *ℤ R) *ℤ (u.w *ℤ R) → pos (w * r * (w * r)) ≡ z
      full e = sym (e ∙ ap₂ (λ (a b : ℤ). (a *ℤ b) *ℤ (a *ℤ b)) ew er)

      add : (a b : ℤ) → pos (w * r * (w * r)) ≡ a *ℤ a → pos (w * r * (w * r)) ≤ℤ (a *ℤ a +ℤ b *ℤ b)
      add a b e =
          le-cert _ (nn-sq b) (ap (λ (z : ℤ). a *ℤ a +ℤ b *ℤ b -ℤ z) e ∙ reify (a ∷ b ∷ []) (λ ρ v. simp (reading, v 0, v 1) (solve _ _ _ tt)))

      go : OnEdge u.mx u.nx u.w ⊎ OnEdge u.my u.ny u.w
          → pos (w * r * (w * r)) ≤ℤ ((u.mx *ℤ R +ℤ u.nx) *ℤ (u.mx *ℤ R +ℤ u.nx) +ℤ (u.my *ℤ R +ℤ u.ny) *ℤ (u.my *ℤ R +ℤ u.ny))
      go (inl o) = add (u.mx *ℤ R +ℤ u.nx) (u.my *ℤ R +ℤ u.ny) (full (edge-square u.mx u.nx u.w R o))
      go (inr o) =
          ≤_trans (add (u.my *ℤ R +ℤ u.ny) (u.mx *ℤ R +ℤ u.nx) (full (edge-square u.my u.ny u.w R o)))
          (≤-of (+ℤ_comm ((u.my *ℤ R +ℤ u.ny) *ℤ (u.my *ℤ R +ℤ u.ny)) _))

module _ {p q s : Vec} (hp : WithinBoth 2000 p) (hq : WithinBoth 2000 q) (hs : WithinBoth 2000 s) {u : Point} (f : Frame u)
    (R : ℤ) (h_r : pos circle_need <ℤ R) where
  abbrev at_x : ℤ
  at_x = u.mx *ℤ R +ℤ u.nx

  abbrev at_y : ℤ
  at_y = u.my *ℤ R +ℤ u.ny

  -- the turn of q, s and u at R
  turn-over : sgn (turn_over q s u.w at_x at_y) ≡ turn (given q) (given s) u
  turn-over =
      ap sgn (reify (q.x ∷ q.y ∷ s.x ∷ s.y ∷ u.mx ∷ u.nx ∷ u.my ∷ u.ny ∷ u.w ∷ R ∷ [])
      (λ ρ v. simp (reading, v 0, v 1, v 2, v 3, v 4, v 5, v 6, v 7, v 8, v 9) (solve _ _ _ tt)))
      ∙ lead-step (side_b q s u) (side_c q s u) R (small in-side (<-trans (lt_z_yes tt) h_r))
      ∙ sym (pair-side-is q s u)
    where
      in-side : Within 128000000000 (side_c q s u)
      in-side =
          let dx = w-sub hs.in_x hq.in_x in
          let dy = w-sub hs.in_y hq.in_y in
          w-lit (w-sub (w-sub (w-mul dx f.slim.in_ny) (w-mul dy f.slim.in_nx))
          (w-mul f.slim.in-w.at_most (w-sub (w-mul dx hq.in_y) (w-mul dy hq.in_x)))) tt

  -- three on one line
  straight : turns p q s ≡ pos 0 → sgn (angles p q s u.w at_x at_y) ≡ neg_ℤ (sgn (inner p q s) *ℤ turn (given q) (given s) u)
  straight e =
      ap sgn (eq-cert _ (z-eq (inner_over q s u.w at_x at_y) e)
      (only (turns p q s) (inner_over q s u.w at_x at_y) u.w (inner p q s *ℤ turn_over q s u.w at_x at_y)))
      ∙ sgn-neg-eq ((inner p q s *ℤ turn_over q s u.w at_x at_y) *ℤ u.w)
      ∙ ap neg_ℤ
      (sgn-mul-pos (inner p q s *ℤ turn_over q s u.w at_x at_y) u.w f.slim.in-w.above
      ∙ sgn-mul (inner p q s) (turn_over q s u.w at_x at_y)
      ∙ ap (λ (z : ℤ). sgn (inner p q s) *ℤ z) turn-over)
    where
      only : (t i w z : ℤ) → t *ℤ i -ℤ w *ℤ z -ℤ neg_ℤ (z *ℤ w) ≡ i *ℤ (t -ℤ pos 0)
      only t i w z = reify (t ∷ i ∷ w ∷ z ∷ []) (λ ρ v. simp (reading, val_pos ρ, v 0, v 1, v 2, v 3) (solve _ _ _ tt))

  -- three that turn
  turning : (turns p q s ≡ pos 0 → ⊥) → sgn (angles p q s u.w at_x at_y) ≡ sgn (turns p q s)
  turning n = let d = pp-dest f.slim.in-w.above in let e = pp-dest (<-trans (lt_z_yes tt) h_r) in go (suc d.0) d.1 (omega arith) (suc e.0) e.1
    where
      go : (w : ℕ) → u.w ≡ pos w → 1 ≤ w → (r : ℕ) → R ≡ pos r → sgn (angles p q s u.w at_x at_y) ≡ sgn (turns p q s)
      go w ew hw r er =
          let large : 1000000000000 < r = ltb→lt 1000000000000 r (subst (λ (z : ℤ). pos 1000000000000 <ℤ z) er h_r).lt in
          let wide : w * 1000000000000 ≤ w * r = mul-le-mul_left w (omega arith) in
          let k = w * r in
          let over : 8000000 ≤ w * r = omega arith in
          let in_w : Within w u.w = w-is ew (w-pos w) in
          let h_x = coordinate er (square-within f.in_x in_w) f.slim.in_nx over in
          let h_y = coordinate er (square-within f.in_y in_w) f.slim.in_ny over in
          subst (λ (z : ℤ). sgn (angles p q s z at_x at_y) ≡ sgn (turns p q s)) (sym ew)
          (ahead hp hq hs w k at_x at_y h_x h_y (turns p q s) n
          (<-≤-trans (record { lt = lt→ltb (rest_size w k + turn_size w k) (k * k) (enough w k hw wide) }) (squares f ew er)))

  far-angles : sgn (angles p q s u.w at_x at_y) ≡ frame_form p q s u
  far-angles = go (ℤ_discrete (turns p q s) (pos 0))
    where
      go : Dec (turns p q s ≡ pos 0) → sgn (angles p q s u.w at_x at_y) ≡ frame_form p q s u
      go (yes e) = straight e ∙ ap (λ (z : ℤ). or_else z (neg_ℤ (sgn (inner p q s) *ℤ turn (given q) (given s) u))) (sym (ap sgn e ∙ sgn-zero))
      go (no n) = turning n ∙ sym (or-ne (turns p q s) _ n)

module _ {p q s u : Point} (a : Given p) (b : Given q) (c : Given s) (f : Frame u) where
  frame_at : (R : ℤ) → pos circle_need <ℤ R → sgn (value (circle_poly p q s u) R) ≡ frame_form (given_place p) (given_place q) (given_place s) u
  frame_at R h_r = ap sgn (value-angles a b c R u) ∙ far-angles (given-small a) (given-small b) (given-small c) f R h_r

  pub by-frame : side_of_circle p q s u ≡ frame_form (given_place p) (given_place q) (given_place s) u
  unfolding side_of_circle
  by-frame = leading-settled (circle_poly p q s u) circle_need frame_at

-- ---- every R above circle_need

pub circle-settled : {p q s u : Point} → Four p q s u → (R : ℤ) → pos circle_need <ℤ R → sgn (value (circle_poly p q s u) R) ≡ side_of_circle p q s u
circle-settled {p} {q} {s} {u} t R h_r = go t.fourth
  where
    go : Fourth u → sgn (value (circle_poly p q s u) R) ≡ side_of_circle p q s u
    go (a_given g) = let d = given_is u g in ap sgn (given-at t.first t.second t.third d R) ∙ sym (by-given t.first t.second t.third d)
    go (on_frame f) = frame_at t.first t.second t.third f R h_r ∙ sym (by-frame t.first t.second t.third f)

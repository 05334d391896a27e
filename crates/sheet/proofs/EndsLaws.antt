-- The ends of an accepted object are points, and narrow ones. To cite:
--   Far, far                 which of the two forms the far end has, and why
--   Way, proper-way, reverse-way   a direction and its moment k within the limits: of an accepted pair, and reversed
--   moment-is, moment-reverse      k = qx py - qy px; reversing negates it
--   moving                   equal sizes that are not both 0 are above 0
--   far-frame, far-end-fine  the far end before and after the division
--   Fine                     a point that is narrow
--   first-end-fine, last-end-fine, first-end-is-point, last-end-is-point   the ends of an accepted object
--   unit-divisor             where w is 1 the divisor is 1
--   given-fine, begins-fine  given places and corners
-- Assumes nothing.
use Rattle.std.specs.Prelude.{◌≡◌, refl, ◌⊎◌, true, [], ◌∷◌, ℕ, ◌<◌, ℤ, pos, negsuc, neg_ℤ, nat_abs, ◌-ℤ◌, ◌*ℤ◌, ◌≤ℤ◌, ◌<ℤ◌}
use Rattle.std.proofs.Common.{sym, ◌∙◌, ap, subst, inl, inr, arith}
use Rattle.std.specs.Int.{◌∣◌}
use Rattle.std.proofs.Math.Nat.{le_of_dvd, pos_of_dvd_of_pos}
use Rattle.std.proofs.Math.IntN.{*ℤ-zero, neg_ℤ-neg_ℤ}
use Rattle.std.specs.Int.Signed.{clash_ℤ}
use Rattle.whole.specs.Laws.{one-mul, minus-one-mul, mul-neg, eq-of-sub}
use Rattle.whole.specs.Reify.{reify, reading, solve, val_pos}
use Rattle.whole.specs.Order.{Tri, tri, less, same, more, nn-pos, pp-pos, le-or-lt, le-cert, pp-nn, ≤_trans, ≤-<-trans, ≤-of, <-≤}
use Rattle.whole.specs.Sign.{sgn}
use Rattle.whole.specs.SignLaws.{Signs, signs, minus, nought, plus, sgn-abs, neg-pp, size_above}
use Rattle.whole.specs.Within.{Within}
use Rattle.whole.specs.Bound.{w-is, w-size, w-sub, w-mul, w-neg, w-sgn, w-pos, w-lit}
use Rattle.whole.specs.Tests.{lt-lt_z, le-lt_z, le-le_z, lt-le_z}
use Rattle.sheet.specs.declared.Object.{Object}
use Rattle.sheet.specs.declared.Point.{Point}
use Rattle.sheet.specs.Figure.{Vec, ◌⇀◌, Side, left, bottom, right, top, Figure}
use Rattle.sheet.specs.Refusal.{Accepted}
use Rattle.sheet.specs.Points.{size, given, divisor, is_point, narrow}
use Rattle.sheet.specs.Ends.{moment, flat, steep, far_raw, far_end, reverse, corner, begins, next_side, first_of, last_of, first_end, last_end}
use Rattle.sheet.proofs.RefusalLaws.{WithinBoth, Proper, Drawn, draw_segment, draw_ray, draw_line, draw_side, accepted-drawn}
use Rattle.sheet.specs.PointFacts.{Narrow, BetweenEdges, inner, on, beside, Frame, APoint, a_standard, a_frame}
use Rattle.sheet.specs.PointsLaws.{divides-w, divided-one, narrow-is, point-is, frame-divided}

-- ---- which form the far end has

pub data Far (dx dy k : ℤ) : Type 0 where
  flatter : size dy <ℤ size dx → far_raw dx dy k ≡ flat dx dy k → Far dx dy k
  steeper : size dx <ℤ size dy → far_raw dx dy k ≡ steep dx dy k → Far dx dy k
  tie_flat : size dy ≡ size dx → (sgn dx *ℤ sgn dy *ℤ k) ≤ℤ pos 0 → far_raw dx dy k ≡ flat dx dy k → Far dx dy k
  tie_steep : size dy ≡ size dx → pos 0 <ℤ (sgn dx *ℤ sgn dy *ℤ k) → far_raw dx dy k ≡ steep dx dy k → Far dx dy k

pub far : (dx dy k : ℤ) → Far dx dy k
unfolding far_raw
far dx dy k = go (tri (size dy) (size dx)) (le-or-lt (sgn dx *ℤ sgn dy *ℤ k) (pos 0))
  where
    go : Tri (size dy) (size dx) → ((sgn dx *ℤ sgn dy *ℤ k) ≤ℤ pos 0) ⊎ (pos 0 <ℤ (sgn dx *ℤ sgn dy *ℤ k)) → Far dx dy k
    go (less h) t = flatter h (simp (lt-lt_z h))
    go (more h) t = steeper h (simp (le-lt_z (<-≤ h), lt-lt_z h))
    go (same e) (inl t) = tie_flat e t (simp (le-lt_z (≤-of (sym e)), le-lt_z (≤-of e), le-le_z t))
    go (same e) (inr t) = tie_steep e t (simp (le-lt_z (≤-of (sym e)), le-lt_z (≤-of e), lt-le_z t))

-- ---- the frame facts before the division

-- |m| = w, and n is 0 or of the sign opposite to m
tie-square : (m n w : ℤ) → size m ≡ w → pos 0 <ℤ w → (sgn m *ℤ n) ≤ℤ pos 0 → BetweenEdges m n w
tie-square m n w e hw t = go (signs n) (signs m)
  where
    times : {s : ℤ} → sgn m ≡ s → (s *ℤ n) ≤ℤ pos 0
    times f = ≤_trans (≤-of (ap (λ (s : ℤ). s *ℤ n) (sym f))) t

    still : m ≡ pos 0 → ⊥
    still z = clash_ℤ hw (≤-of (sym e ∙ ap size z))

    go : Signs n → Signs m → BetweenEdges m n w
    go (nought z en) h = on e z
    go (plus hn en) (plus hm em) = clash_ℤ hn (≤_trans (≤-of (sym (one-mul n))) (times em))
    go (plus hn en) (nought z em) = absurd (still z)
    go (plus hn en) (minus hm em) = beside e (en ∙ sym (ap neg_ℤ em))
    go (minus hn en) (plus hm em) = beside e (en ∙ sym (ap neg_ℤ em))
    go (minus hn en) (nought z em) = absurd (still z)
    go (minus hn en) (minus hm em) =
        clash_ℤ (neg-pp hn) (≤_trans (≤-of (sym (minus-one-mul n))) (times em))

-- the way of a line, and how far it passes the origin
pub record Way (dx dy k : ℤ) : Type 0 where
  pub in_dx : Within 4000 dx
  pub in_dy : Within 4000 dy
  pub in_k : Within 8000000 k
  pub moves : dx ≡ pos 0 → dy ≡ pos 0 → ⊥

flat-frame : (dx dy k : ℤ) → Within 4000 dx → Within 8000000 k → pos 0 <ℤ size dx
    → BetweenEdges dy (sgn dx *ℤ k) (size dx) → Frame (flat dx dy k)
flat-frame dx dy k hx hk above i = record {
  slim = record {
    in-w = record { above = above; at_most = w-size hx };
    in_nx = w-lit (w-pos 0) tt;
    in_ny = w-mul (w-sgn dx) hk;
  };
  on_edge = inl (record { full = ap size (sgn-abs dx); even = refl });
  in_x = on (ap size (sgn-abs dx)) refl;
  in_y = i;
}

-- x and y changed over
abbrev over : Point → Point
over p = record { mx = p.my; nx = p.ny; my = p.mx; ny = p.nx; w = p.w }

over-frame : {p : Point} → Frame p → Frame (over p)
over-frame {p} f = record {
  slim = record { in-w = f.slim.in-w; in_nx = f.slim.in_ny; in_ny = f.slim.in_nx };
  on_edge = turned f.on_edge;
  in_x = f.in_y;
  in_y = f.in_x;
}
  where
    turned : {A B : Type 0} → A ⊎ B → B ⊎ A
    turned (inl a) = inr a
    turned (inr b) = inl b

steep-over : (dx dy k : ℤ) → over (flat dy dx (neg_ℤ k)) ≡ steep dx dy k
steep-over dx dy k = λ i. record { mx = dx; nx = mul-neg (sgn dy) k i; my = sgn dy *ℤ size dy; ny = pos 0; w = size dy }

steep-frame : (dx dy k : ℤ) → Within 4000 dy → Within 8000000 k → pos 0 <ℤ size dy
    → BetweenEdges dx (sgn dy *ℤ neg_ℤ k) (size dy) → Frame (steep dx dy k)
steep-frame dx dy k hy hk above i = subst Frame (steep-over dx dy k) (over-frame (flat-frame dy dx (neg_ℤ k) hy (w-neg hk) above i))

-- equal sizes that are not both 0
pub moving : (dx dy : ℤ) → size dy ≡ size dx → (dx ≡ pos 0 → dy ≡ pos 0 → ⊥) → pos 0 <ℤ size dx
moving dx dy e n = size_above (λ z. n z (sym (sgn-abs dy) ∙ ap (λ (w : ℤ). sgn dy *ℤ w) (e ∙ ap size z) ∙ *ℤ-zero (sgn dy)))

pub far-frame : (dx dy k : ℤ) → Way dx dy k → Frame (far_raw dx dy k)
far-frame dx dy k h = go (far dx dy k)
  where
    regroup : (a b k : ℤ) → a *ℤ b *ℤ k ≡ b *ℤ (a *ℤ k)
    regroup a b k = reify (a ∷ b ∷ k ∷ []) (λ ρ v. simp (reading, v 0, v 1, v 2) (solve _ _ _ tt))

    opposed : (a b k : ℤ) → pos 0 -ℤ a *ℤ (b *ℤ neg_ℤ k) ≡ a *ℤ b *ℤ k
    opposed a b k = reify (a ∷ b ∷ k ∷ []) (λ ρ v. simp (reading, v 0, v 1, v 2, val_pos ρ) (solve _ _ _ tt))

    go : Far dx dy k → Frame (far_raw dx dy k)
    go (flatter l e) =
        subst Frame (sym e) (flat-frame dx dy k h.in_dx h.in_k (≤-<-trans (nn-pos (nat_abs dy)) l) (inner l))
    go (steeper l e) =
        subst Frame (sym e) (steep-frame dx dy k h.in_dy h.in_k (≤-<-trans (nn-pos (nat_abs dx)) l) (inner l))
    go (tie_flat z t e) =
        let above = moving dx dy z h.moves in
        subst Frame (sym e) (flat-frame dx dy k h.in_dx h.in_k above
        (tie-square dy (sgn dx *ℤ k) (size dx) z above (≤_trans (≤-of (sym (regroup (sgn dx) (sgn dy) k))) t)))
    go (tie_steep z t e) =
        let above = moving dy dx (sym z) (λ a b. h.moves b a) in
        subst Frame (sym e) (steep-frame dx dy k h.in_dy h.in_k above
        (tie-square dx (sgn dy *ℤ neg_ℤ k) (size dy) (sym z) above
        (le-cert _ (pp-nn t) (opposed (sgn dx) (sgn dy) k))))

-- ---- points that are narrow

pub record Fine (p : Point) : Type 0 where
  pub point : APoint p
  pub slim : Narrow p

frame-fine : {p : Point} → Frame p → divisor p ≡ 1 → Fine p
frame-fine f e = record { point = a_frame f e; slim = f.slim }

pub far-end-fine : (p d : Vec) → Way d.x d.y (moment p d) → Fine (far_end p d)
unfolding far_end
far-end-fine p d h =
    let f = far-frame d.x d.y (moment p d) h in
    frame-fine (frame-divided f) (divided-one (far_raw d.x d.y (moment p d)) f.slim.in-w.above)

-- where w is 1, so is the divisor
pub unit-divisor : (p : Point) → p.w ≡ pos 1 → divisor p ≡ 1
unit-divisor p e = only (divisor p) (subst (λ (z : ℤ). divisor p ∣ nat_abs z) e (divides-w p))
  where
    only : (g : ℕ) → g ∣ 1 → g ≡ 1
    only g d =
        let z : 0 < 1 = omega arith in
        let l = le_of_dvd z d in
        let k = pos_of_dvd_of_pos d z in
        omega arith

pub given-fine : {a : Vec} → WithinBoth 2000 a → Fine (given a)
given-fine {a} s = record {
  point = a_standard (record {
    no_mx = refl;
    no_my = refl;
    in-w = record { above = pp-pos 0; at_most = w-lit (w-pos 1) tt };
    in_nx = w-lit s.in_x tt;
    in_ny = w-lit s.in_y tt;
  }) (unit-divisor (given a) refl);
  slim = record {
    in-w = record { above = pp-pos 0; at_most = w-lit (w-pos 1) tt };
    in_nx = w-lit s.in_x tt;
    in_ny = w-lit s.in_y tt;
  };
}

corner-fine : (mx my : ℤ) → size mx ≡ pos 1 → size my ≡ pos 1 → Fine (corner mx my)
corner-fine mx my ex ey = frame-fine (record {
  slim = record {
    in-w = record { above = pp-pos 0; at_most = w-lit (w-pos 1) tt };
    in_nx = w-lit (w-pos 0) tt;
    in_ny = w-lit (w-pos 0) tt;
  };
  on_edge = inl (record { full = ex; even = refl });
  in_x = on ex refl;
  in_y = on ey refl;
}) (unit-divisor (corner mx my) refl)

pub begins-fine : (n : Side) → Fine (begins n)
begins-fine left = corner-fine (negsuc 0) (pos 1) refl refl
begins-fine bottom = corner-fine (negsuc 0) (negsuc 0) refl refl
begins-fine right = corner-fine (pos 1) (negsuc 0) refl refl
begins-fine top = corner-fine (pos 1) (pos 1) refl refl

-- ---- the ends of an accepted object

-- k = dx py - dy px = qx py - qy px
pub moment-is : (p q : Vec) → moment p (p ⇀ q) ≡ q.x *ℤ p.y -ℤ q.y *ℤ p.x
moment-is p q = reify (p.x ∷ p.y ∷ q.x ∷ q.y ∷ []) (λ ρ v. simp (reading, v 0, v 1, v 2, v 3) (solve _ _ _ tt))

pub moment-reverse : (p d : Vec) → moment p (reverse d) ≡ neg_ℤ (moment p d)
moment-reverse p d = reify (p.x ∷ p.y ∷ d.x ∷ d.y ∷ []) (λ ρ v. simp (reading, v 0, v 1, v 2, v 3) (solve _ _ _ tt))

pub proper-way : {p q : Vec} → Proper p q → Way (p ⇀ q).x (p ⇀ q).y (moment p (p ⇀ q))
proper-way {p} {q} h = record {
  in_dx = w-sub h.small_q.in_x h.small_p.in_x;
  in_dy = w-sub h.small_q.in_y h.small_p.in_y;
  in_k =
      w-is (moment-is p q)
      (w-sub (w-mul h.small_q.in_x h.small_p.in_y) (w-mul h.small_q.in_y h.small_p.in_x));
  moves = λ e f. h.differ (sym (eq-of-sub q.x p.x e)) (sym (eq-of-sub q.y p.y f));
}

pub reverse-way : (p d : Vec) → Way d.x d.y (moment p d) → Way (reverse d).x (reverse d).y (moment p (reverse d))
reverse-way p d h = record {
  in_dx = w-neg h.in_dx;
  in_dy = w-neg h.in_dy;
  in_k = w-is (moment-reverse p d) (w-neg h.in_k);
  moves = λ e f. h.moves (sym (neg_ℤ-neg_ℤ d.x) ∙ ap neg_ℤ e) (sym (neg_ℤ-neg_ℤ d.y) ∙ ap neg_ℤ f);
}

first_fine : {f : Figure} → Drawn f → Fine (first_of f)
first_fine (draw_segment h) = given-fine h.small_p
first_fine (draw_ray h) = given-fine h.small_p
first_fine (draw_line {p} {q} h) = far-end-fine p (reverse (p ⇀ q)) (reverse-way p (p ⇀ q) (proper-way h))
first_fine (draw_side {n}) = begins-fine n

last-fine : {f : Figure} → Drawn f → Fine (last_of f)
last-fine (draw_segment h) = given-fine h.small_q
last-fine (draw_ray {p} {q} h) = far-end-fine p (p ⇀ q) (proper-way h)
last-fine (draw_line {p} {q} h) = far-end-fine p (p ⇀ q) (proper-way h)
last-fine (draw_side {n}) = begins-fine (next_side n)

pub first-end-fine : {o : Object} → Accepted o → Fine (first_end o)
unfolding first_end
first-end-fine a = first_fine (accepted-drawn a)

pub last-end-fine : {o : Object} → Accepted o → Fine (last_end o)
unfolding last_end
last-end-fine a = last-fine (accepted-drawn a)

flags_of : {p : Point} → Fine p → (is_point p ≡ true) × (narrow p ≡ true)
flags_of {p} f = ((point-is p).1 f.point, (narrow-is p).1 f.slim)

pub first-end-is-point : {o : Object} → Accepted o → (is_point (first_end o) ≡ true) × (narrow (first_end o) ≡ true)
first-end-is-point a = flags_of (first-end-fine a)

pub last-end-is-point : {o : Object} → Accepted o → (is_point (last_end o) ≡ true) × (narrow (last_end o) ≡ true)
last-end-is-point a = flags_of (last-end-fine a)

-- The quotient of two whole numbers as floats is the fraction, rounded once, and it is within one part in 2 ^ 53 of the fraction. To cite:
--   quotient-near   `Near` of the quotient of two numbers within the limits of points
--   in-float, parts_out   what a cast to f64 asks of a number out of a local; the parts as they come out of locals
--   float_zero, float-exact   0 is +0; a whole number is a float exactly;  over-one  n / 1 is n as a float
-- Assumes nothing.
use Rattle.std.specs.Prelude.{◌≡◌, refl, Bool, true, not, cond, [], ◌∷◌, ℕ, zero, suc, ◌+◌, ◌-◌, ◌*◌, ◌^◌, ◌≤◌, ◌<◌, ℤ, pos, negsuc, neg_ℤ, nat_abs, ◌*ℤ◌, ◌-ℤ◌, T, ltb, eqb, Float}
use Rattle.std.proofs.Common.{sym, ap, ◌∙◌, subst, true≢false, le_trans, le_of_eq, lt_of_le_of_lt, mul-one, mul_comm, mul_assoc, mul_left_comm, mul_right_comm, add-mul, mul-le-mul_right, mul-le-mul_left, le_of_mul-le-mul_right, mul-pos, zero-lt-suc, zero-mul, arith, eqb→eq, ltb→lt, nltb→le, le→leb, lt→ltb, lit≤, lit<, pow_pos, shl_lt}
use Rattle.std.proofs.Math.Bool.{false}
use Rattle.std.specs.Float.{nan, inf, fin, Format}
use Rattle.std.specs.Float.Ieee.{binary64, prec, low, up, down, unlike, round, div, of_int, in_float, fits}
use Rattle.std.specs.Float.Ieee.Fits.{round_is, up_pos, down_pos, round-fits}
use Rattle.std.specs.Float.Ieee.Exact.{HasValue, units_val}
use Rattle.std.specs.Float.Ieee.Back.{round_whole, whole_unique}
use Rattle.std.specs.Float.Ieee.Order.{drop, kept}
use Rattle.std.specs.Float.Ieee.Positive.{first_pos}
use Rattle.std.specs.Float.Ieee.Scale.{round_same, grid, overflow, normal_of_fraction}
use Rattle.whole.specs.Order.{pp-dest}
use Rattle.whole.specs.Within.{Within}
use Rattle.whole.specs.Bound.{nat_abs-neg}
use Rattle.whole.specs.Tests.{out}
use Rattle.whole.specs.Flat.{back}
use Rattle.whole.specs.Reify.{reify, reading, solve}
use Rattle.screen.specs.Quotient.{float, quotient, zero+, signed, Near}
use Rattle.screen.specs.Parts.{Parts}
use Rattle.screen.specs.Rounding.{Close, grid-close}

-- below 0
abbrev pub minus : ℤ → Bool
minus (pos a) = false
minus (negsuc a) = true

-- ---- `div` of two whole numbers is the fraction, rounded once

unlike-false : (s : Bool) → unlike s false ≡ s
unlike-false true = refl
unlike-false false = refl

not_zero : (n : ℕ) → 0 < n → n ≡ 0 → ⊥
not_zero n h e = omega arith

div_is : (f : Format) (s : Bool) (m : ℕ) (e : ℤ) (n : ℕ) (d : ℤ) → 0 < n
    → div f (fin s m e) (fin false n d) ≡ round f s (m * up e * down d) (n * up d * down e)
unfolding div
div_is f s m e n d N =
    go (eqb n 0) (eqb→eq n 0) (cond (eqb m 0) nan (inf (unlike s false)))
    ∙ ap (λ (t : Bool). round f t (m * up e * down d) (n * up d * down e)) (unlike-false s)
  where
    value : Float
    value = round f (unlike s false) (m * up e * down d) (n * up d * down e)

    go : (b : Bool) → (T b → n ≡ 0) → (x : Float) → cond b x value ≡ value
    go true h x = absurd (not_zero n N (h tt))
    go false h x = refl

div-at : (f : Format) (x y : Float) (s : Bool) (a w : ℕ) → 0 < w → HasValue x s a 1 → HasValue y false w 1 → div f x y ≡ round f s a w
div-at f nan y s a w W p q = absurd p
div-at f (inf t) y s a w W p q = absurd p
div-at f (fin r m e) nan s a w W p q = absurd q
div-at f (fin r m e) (inf t) s a w W p q = absurd q
div-at f (fin r m e) (fin true n d) s a w W p q = absurd (true≢false q.0)
div-at f (fin r m e) (fin false n d) s a w W p q =
    let x : m * up e ≡ a * down e = sym (mul-one (m * up e)) ∙ p.1 in
    let y : n * up d ≡ w * down d = sym (mul-one (n * up d)) ∙ q.1 in
    let N : 0 < n = first_pos n (up d) (subst (λ (z : ℕ). 0 < z) (sym y) (mul-pos W (down_pos d))) in
    let D : 0 < n * up d * down e = mul-pos (mul-pos N (up_pos d)) (down_pos e) in
    let turn : a * down e * down d * w ≡ a * (w * down d * down e) = simp (mul_assoc, mul_comm, mul_left_comm) in
    let same : m * up e * down d * w ≡ a * (n * up d * down e) =
    ap (λ (z : ℕ). z * down d * w) x ∙ turn ∙ sym (ap (λ (z : ℕ). a * (z * down e)) y) in
    div_is f r m e n d N
    ∙ ap (λ (t : Bool). round f t (m * up e * down d) (n * up d * down e)) p.0
    ∙ round_same f s (m * up e * down d) (n * up d * down e) a w D W same

-- ---- the rounded value, of either sign

round-value : (f : Format) (s : Bool) (a c : ℕ) → grid f a c < overflow f → HasValue (round f s a c) s (grid f a c) (2 ^ low f)
round-value f s a c h =
    subst (λ (z : Float). HasValue z s (grid f a c) (2 ^ low f)) (sym (round_is f s a c))
    (units_val f s (kept (prec f) (a * 2 ^ low f) c) (drop (prec f) (a * 2 ^ low f) c) h)

-- ---- `Close`, scaled

spread : (x n d : ℕ) → x * d * 2 ^ 53 + n * d ≡ (x * 2 ^ 53 + n) * d
spread x n d = sym (add-mul (x * 2 ^ 53) n d ∙ ap (λ (z : ℕ). z + n * d) (mul_right_comm x (2 ^ 53) d))

module _ (x n d : ℕ) where
  close-mul : Close x n → Close (x * d) (n * d)
  close-mul h = (
    le_trans (le_of_eq (mul_right_comm x d (2 ^ 53))) (le_trans (mul-le-mul_right d h.0) (le_of_eq (sym (spread n n d)))),
    le_trans (le_of_eq (mul_right_comm n d (2 ^ 53))) (le_trans (mul-le-mul_right d h.1) (le_of_eq (sym (spread x n d)))),
  )

  close-cancel : 0 < d → Close (x * d) (n * d) → Close x n
  close-cancel D h = (
    le_of_mul-le-mul_right (le_trans (le_of_eq (mul_right_comm x (2 ^ 53) d)) (le_trans h.0 (le_of_eq (spread n n d)))) D,
    le_of_mul-le-mul_right (le_trans (le_of_eq (mul_right_comm n (2 ^ 53) d)) (le_trans h.1 (le_of_eq (spread x n d)))) D,
  )

-- p / d is g / q, and g / q is close to a / w
move : (p d g q a w : ℕ) → 0 < q → p * q ≡ g * d → Close (g * w) (a * q) → Close (p * w) (a * d)
move p d g q a w Q e h =
    close-cancel (p * w) (a * d) q Q
    (subst (λ (x : ℕ). Close x (a * d * q)) (mul_right_comm g w d ∙ ap (λ (x : ℕ). x * w) (sym e) ∙ mul_right_comm p q w)
    (subst (λ (x : ℕ). Close (g * w * d) x) (mul_right_comm a q d) (close-mul (g * w) (a * q) d h)))

-- ---- a distance of two whole numbers

apart : (x y z : ℕ) → x * 2 ^ 53 ≤ y * 2 ^ 53 + z → y * 2 ^ 53 ≤ x * 2 ^ 53 + z → nat_abs (pos x -ℤ pos y) * 2 ^ 53 ≤ z
apart x zero z h k = omega arith
apart x (suc y) z h k = go (ltb x (suc y)) (ltb→lt x (suc y)) (nltb→le x (suc y))
  where
    go : (b : Bool) → (T b → x < suc y) → (T (not b) → suc y ≤ x)
        → nat_abs (cond b (negsuc (suc y - suc x)) (pos (x - suc y))) * 2 ^ 53 ≤ z
    go true l g = let i : x < suc y = l tt in omega arith
    go false l g = let i : suc y ≤ x = g tt in omega arith

-- the same of the opposites
opposite : (p w a d : ℤ) → nat_abs (neg_ℤ p *ℤ w -ℤ neg_ℤ a *ℤ d) ≡ nat_abs (p *ℤ w -ℤ a *ℤ d)
opposite p w a d =
    let e : neg_ℤ p *ℤ w -ℤ neg_ℤ a *ℤ d ≡ neg_ℤ (p *ℤ w -ℤ a *ℤ d) =
    reify (p ∷ w ∷ a ∷ d ∷ []) (λ ρ v. simp (reading, v 0, v 1, v 2, v 3) (solve _ _ _ tt)) in
    ap nat_abs e ∙ nat_abs-neg (p *ℤ w -ℤ a *ℤ d)

-- ---- from the fraction to the float

distance : (s : Bool) (m : ℕ) (e : ℤ) (n : ℤ) (w : ℕ) → s ≡ minus n → Close (m * up e * w) (nat_abs n * down e)
    → nat_abs (signed s (m * up e) *ℤ pos w -ℤ n *ℤ pos (down e)) * 2 ^ 53 ≤ nat_abs n * down e
distance false m e (pos a) w g h = apart (m * up e * w) (a * down e) (a * down e) h.0 h.1
distance true m e (pos a) w g h = absurd (true≢false g)
distance false m e (negsuc a) w g h = absurd (true≢false (sym g))
distance true m e (negsuc a) w g h =
    subst (λ (z : ℕ). z * 2 ^ 53 ≤ suc a * down e) (sym (opposite (pos (m * up e)) (pos w) (pos (suc a)) (pos (down e))))
    (apart (m * up e * w) (suc a * down e) (suc a * down e) h.0 h.1)

value-near : (x : Float) (n : ℤ) (w g q : ℕ) → 0 < q → HasValue x (minus n) g q → Close (g * w) (nat_abs n * q)
    → (n ≡ pos 0 → x ≡ zero+) → Near n (pos w) x
value-near nan n w g q Q v h z = absurd v
value-near (inf t) n w g q Q v h z = absurd v
value-near (fin s m e) n w g q Q v h z = record {
  number = tt;
  above = down_pos e;
  near = distance s m e n w v.0 (move (m * up e) (down e) g q (nat_abs n) w Q v.1 h);
  at_zero = z;
}

-- ---- in the range

under_twice : (g w n : ℕ) → 0 < w → Close (g * w) n → g ≤ n * 2
under_twice g w n W h =
    let a : g ≤ g * w = le_trans (le_of_eq (sym (mul-one g))) (mul-le-mul_left g W) in
    let b = h.0 in
    omega arith

fine : (a : ℕ) → a ≤ 64000000000 → a * 2 ^ low binary64 * 2 < overflow binary64
fine a h = lt_of_le_of_lt (le_of_eq (mul_right_comm a (2 ^ 1074) 2)) (shl_lt 1024 1074 (lt_of_le_of_lt (mul-le-mul_right 2 h) (lit< tt)))

normal : (a w : ℕ) → 0 < a → w ≤ 32000000 → 2 ^ 52 * w ≤ a * 2 ^ 1074
normal a w A h = le_trans (mul-le-mul_left (2 ^ 52) h) (le_trans (lit≤ tt) (mul-le-mul_right (2 ^ 1074) A))

round-near : (n : ℤ) (w : ℕ) → 0 < nat_abs n → nat_abs n ≤ 64000000000 → 0 < w → w ≤ 32000000
    → Near n (pos w) (round binary64 (minus n) (nat_abs n) w)
round-near n w A h W l =
    let a = nat_abs n in
    let c : Close (grid binary64 a w * w) (a * 2 ^ 1074) =
    grid-close (a * 2 ^ 1074) w W (normal_of_fraction binary64 a w W (normal a w A l)) in
    let room = lt_of_le_of_lt (under_twice (grid binary64 a w) w (a * 2 ^ 1074) W c) (fine a h) in
    value-near (round binary64 (minus n) a w) n w (grid binary64 a w) (2 ^ 1074) (pow_pos 1074) (round-value binary64 (minus n) a w room) c
    (λ e. absurd (not_zero a A (ap nat_abs e)))

-- ---- 0 / w

zero-over : (w : ℕ) → 0 < w → round binary64 false 0 w ≡ zero+
zero-over w W =
    round_same binary64 false 0 w 0 1 W (zero-lt-suc 0) (zero-mul 1 ∙ sym (zero-mul w))
    ∙ whole_unique binary64 (round binary64 false 0 1) zero+ false 0 (round-fits binary64 false 0 1) (unfold fits in tt)
    (round_whole binary64 false 0 (lit≤ tt)) (refl, refl)

zero-near : (w : ℕ) → 0 < w → Near (pos 0) (pos w) (round binary64 false 0 w)
zero-near w W =
    subst (Near (pos 0) (pos w)) (sym (zero-over w W))
    (value-near zero+ (pos 0) w 0 1 (zero-lt-suc 0) (refl, refl) zero-close (λ e. refl))
  where
    zero-close : Close (0 * w) (0 * 1)
    zero-close = let e : 0 * w ≡ 0 = zero-mul w in (omega arith, omega arith)

-- ---- a whole number as a float

pub float-exact : (n : ℤ) → nat_abs n ≤ 2 ^ 53 → HasValue (float n) (minus n) (nat_abs n) 1
unfolding float of_int
float-exact (pos a) h = round_whole binary64 false a h
float-exact (negsuc a) h = round_whole binary64 true (suc a) h

pub float_zero : float (pos 0) ≡ zero+
unfolding float of_int
float_zero = zero-over 1 (zero-lt-suc 0)

-- ---- the quotient

quotient_is : (n : ℤ) (w : ℕ) → nat_abs n ≤ 64000000000 → 0 < w → w ≤ 32000000
    → quotient n (pos w) ≡ round binary64 (minus n) (nat_abs n) w
unfolding quotient
quotient_is n w h W l =
    div-at binary64 (float n) (float (pos w)) (minus n) (nat_abs n) w W (float-exact n (le_trans h (lit≤ tt)))
    (float-exact (pos w) (le_trans l (lit≤ tt)))

whole-near : (n : ℤ) (w : ℕ) → nat_abs n ≤ 64000000000 → 0 < w → w ≤ 32000000 → Near n (pos w) (quotient n (pos w))
whole-near n w h W l = subst (Near n (pos w)) (sym (quotient_is n w h W l)) (go n h)
  where
    go : (n : ℤ) → nat_abs n ≤ 64000000000 → Near n (pos w) (round binary64 (minus n) (nat_abs n) w)
    go (pos zero) h = zero-near w W
    go (pos (suc a)) h = round-near (pos (suc a)) w (zero-lt-suc a) h W l
    go (negsuc a) h = round-near (negsuc a) w (zero-lt-suc a) h W l

pub quotient-near : {n w : ℤ} → Parts n w → Near n w (quotient n w)
quotient-near {n} {w} p = let d = pp-dest p.in-w.above in go d.0 d.1
  where
    go : (k : ℕ) → w ≡ pos (suc k) → Near n w (quotient n w)
    go k e =
        subst (λ (z : ℤ). Near n z (quotient n z)) (sym e)
        (whole-near n (suc k) p.in_n.within (zero-lt-suc k) (subst (λ (z : ℤ). nat_abs z ≤ 32000000) e p.in-w.at_most.within))

-- n / 1 is n as a float, exactly: a box has the same floats as the places of its ends
pub over-one : {n : ℤ} → Within 64000000000 n → quotient n (pos 1) ≡ float n
unfolding float of_int
over-one {n} h = quotient_is n 1 h.within (zero-lt-suc 0) (lit≤ tt) ∙ whole n
  where
    whole : (n : ℤ) → round binary64 (minus n) (nat_abs n) 1 ≡ float n
    whole (pos a) = refl
    whole (negsuc a) = refl

-- ---- what a cast to f64 asks

pub in-float : {n : ℤ} → Within (2 ^ 53) n → T (in_float binary64 (out n))
unfolding in_float
in-float {n} h = subst (λ (z : ℤ). T (in_float binary64 z)) (sym (back h tt)) (go n h.within)
  where
    go : (n : ℤ) → nat_abs n ≤ 2 ^ 53 → T (in_float binary64 n)
    go (pos a) h = le→leb a (2 ^ 53) h
    go (negsuc a) h = lt→ltb a (2 ^ 53) h

-- the parts as they come out of locals
pub parts_out : {n w : ℤ} → Parts n w → Parts (out n) (out w)
parts_out {n} {w} p =
    subst (λ (z : ℤ). Parts z (out w)) (sym (back p.in_n tt)) (subst (Parts n) (sym (back p.in-w.at_most tt)) p)

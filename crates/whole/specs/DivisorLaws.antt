-- The laws of greatest common divisors. To cite:
--   gcd-zero, gcd-one            where the remainders end
--   gcd-step, gcd-lack           a step of the remainders keeps it
--   gcd-is, gcd_of-is             what is found is one
--   gcd-unique, gcd_of-unique     there is only one
--   gcd_of-fold                   of five numbers, folded from any one of them on
--   gcd_of-times                  of a list times c it is |c| times
--   gcd_of-above                  it is above 0 where a number that it divides is not 0
--   quot-one                     divided by 1 a number stays
--   over, over-one, over-back    divided by it the list has divisor 1; times it the list is back
--   same_numbers                 two lists of divisor 1 that are proportional are equal
-- Assumes nothing.
use Rattle.std.specs.Prelude.{◌≡◌, refl, Bool, true, false, List, [], ◌∷◌, ℕ, zero, suc, ◌+◌, ◌-◌, ◌*◌, ◌/◌, ◌%◌, ◌<◌, eqb, ℤ, pos, negsuc, neg_ℤ, nat_abs, ◌*ℤ◌, ◌<ℤ◌}
use Rattle.std.proofs.Common.{sym, ◌∙◌, ap, ap₂, subst, inl, inr, mod-lt, div-one, mul_comm, mul-one, arith, eqb-true}
use Rattle.std.specs.Int.{◌∣◌}
use Rattle.std.proofs.Math.Nat.{dvd_refl, dvd-zero, one-dvd, dvd_trans, dvd-mod_iff, dvd-add_iff_right, dvd-add_iff_left, dvd_antisymm, dvd-mul_right, mul-dvd-mul_left, dvd_of_mul-dvd-mul_left, div-mul_cancel, eq_of_mul-eq-mul_left, eq-zero_of_zero-dvd}
use Rattle.std.specs.Int.Signed.{quot_z}
use Rattle.std.proofs.lemmas.Bool.{eqb-false}
use Rattle.whole.specs.Laws.{mul-neg}
use Rattle.whole.specs.Order.{pp-nn}
use Rattle.whole.specs.SignLaws.{nn-size}
use Rattle.whole.specs.Cert.{mul-cancel}
use Rattle.whole.specs.Bound.{nat_abs_mul}
use Rattle.whole.specs.Poly.{times}
use Rattle.whole.specs.EitherWay.{EitherWay}
use Rattle.whole.specs.Divisor.{IsGcd, DividesAll, none, ◌also◌, IsGcdOf, steps, gcd, gcd_of}

-- ---- of two

pub gcd-zero : (a : ℕ) → IsGcd a 0 a
gcd-zero a = record { left = dvd_refl a; right = dvd-zero a; most = λ d p q. p }

pub gcd-one : (a : ℕ) → IsGcd a 1 1
gcd-one a = record { left = one-dvd a; right = dvd_refl 1; most = λ d p q. q }

pub gcd-step : {a b g : ℕ} → IsGcd b (a % b) g → IsGcd a b g
gcd-step {a} {b} {g} h = record {
  left = (dvd-mod_iff g {m = a} {n = b} h.left).0 h.right;
  right = h.left;
  most = λ d p q. h.most d q ((dvd-mod_iff d {m = a} {n = b} q).1 p);
}

-- what a lacks to the next multiple of b serves as well as what it has above the last one
pub gcd-lack : {a b g : ℕ} → 0 < b → IsGcd b (b - a % b) g → IsGcd a b g
gcd-lack {a} {b} {g} h p = gcd-step (record {
  left = p.left;
  right = (dvd-add_iff_right g {m = b - a % b} {n = a % b} p.right).1 (in_both g p.left);
  most = λ d q r. p.most d q ((dvd-add_iff_left d {m = b - a % b} {n = a % b} r).1 (in_both d q));
})
  where
    in_both : (d : ℕ) → d ∣ b → d ∣ b - a % b + a % b
    in_both d q = let l = mod-lt a h in subst (λ (x : ℕ). d ∣ x) (omega arith) q

steps-is : (n a b : ℕ) → b < n → IsGcd a b (steps n a b)
unfolding steps
steps-is zero a b h = absurd (omega arith)
steps-is (suc n) a b h = go (steps-is n b (a % b)) (eqb b 0) (eqb-true b 0) (eqb-false b 0)
  where
    go : (a % b < n → IsGcd b (a % b) (steps n b (a % b))) → (t : Bool) → (t ≡ true → b ≡ 0) → (t ≡ false → b ≡ 0 → ⊥)
        → IsGcd a b (elim t [ true ↦ a | false ↦ steps n b (a % b) ])
    go ih true z f = subst (λ (y : ℕ). IsGcd a y a) (sym (z refl)) (gcd-zero a)
    go ih false z f =
        let p : 0 < b = let q = f refl in omega arith in
        let l = mod-lt a p in
        gcd-step (ih (omega arith))

pub gcd-is : (a b : ℕ) → IsGcd a b (gcd a b)
unfolding gcd
gcd-is a b = steps-is (suc b) a b (omega arith)

pub gcd-unique : {a b g h : ℕ} → IsGcd a b g → IsGcd a b h → g ≡ h
gcd-unique {a} {b} {g} {h} p q = dvd_antisymm (q.most g p.left p.right) (p.most h q.left q.right)

-- ---- of a list

all-trans : {d g : ℕ} {zs : List ℤ} → d ∣ g → DividesAll g zs → DividesAll d zs
all-trans h none = none
all-trans {d} {g} h (◌also◌ {z} {zs} p ps) = dvd_trans d {b = g} {c = nat_abs z} h p also all-trans h ps

all_head : {d : ℕ} {z : ℤ} {zs : List ℤ} → DividesAll d (z ∷ zs) → d ∣ nat_abs z
all_head (p also ps) = p

all_tail : {d : ℕ} {z : ℤ} {zs : List ℤ} → DividesAll d (z ∷ zs) → DividesAll d zs
all_tail (p also ps) = ps

more : {z : ℤ} {zs : List ℤ} {g h : ℕ} → IsGcdOf zs g → IsGcd (nat_abs z) g h → IsGcdOf (z ∷ zs) h
more {z} {zs} {g} {h} p q = record {
  each = q.left also all-trans q.right p.each;
  most = λ d ds. q.most d (all_head ds) (p.most d (all_tail ds));
}

pub gcd_of-is : (zs : List ℤ) → IsGcdOf zs (gcd_of zs)
unfolding gcd_of
gcd_of-is [] = record { each = none; most = λ d ds. dvd-zero d }
gcd_of-is (z ∷ zs) = more (gcd_of-is zs) (gcd-is (nat_abs z) (gcd_of zs))

pub gcd_of-unique : {zs : List ℤ} {g h : ℕ} → IsGcdOf zs g → IsGcdOf zs h → g ≡ h
gcd_of-unique {zs} {g} {h} p q = dvd_antisymm (q.most g p.each) (p.most h q.each)

pub gcd_of-single : (z : ℤ) → IsGcdOf (z ∷ []) (nat_abs z)
gcd_of-single z = record { each = dvd_refl (nat_abs z) also none; most = λ d ds. all_head ds }

to-either : (k : ℕ) {a b s o : ℕ} → EitherWay a b s o → k ∣ a → k ∣ b → (k ∣ s) × (k ∣ o)
to-either k (inl e) p q = (subst (λ (n : ℕ). k ∣ n) (sym e.0) p, subst (λ (n : ℕ). k ∣ n) (sym e.1) q)
to-either k (inr e) p q = (subst (λ (n : ℕ). k ∣ n) (sym e.0) q, subst (λ (n : ℕ). k ∣ n) (sym e.1) p)

of_either : (k : ℕ) {a b s o : ℕ} → EitherWay a b s o → k ∣ s → k ∣ o → (k ∣ a) × (k ∣ b)
of_either k (inl e) p q = (subst (λ (n : ℕ). k ∣ n) e.0 p, subst (λ (n : ℕ). k ∣ n) e.1 q)
of_either k (inr e) p q = (subst (λ (n : ℕ). k ∣ n) e.1 q, subst (λ (n : ℕ). k ∣ n) e.0 p)

-- five numbers: of two of them one goes on and the other is kept, and so with each further number, so that any of the five may be the one
-- that is left; folded from that one on, over those that were kept
pub gcd_of-fold :
    (a b c d e : ℤ) {s t u v h i j k f g l r : ℕ}
    → EitherWay (nat_abs a) (nat_abs b) s h → EitherWay s (nat_abs c) t i → EitherWay t (nat_abs d) u j → EitherWay u (nat_abs e) v k
    → IsGcd k v f → IsGcd j f g → IsGcd i g l → IsGcd h l r → r ≡ gcd_of (a ∷ b ∷ c ∷ d ∷ e ∷ [])
gcd_of-fold a b c d e {v = v} {h = h} {i = i} {j = j} {k = k} {r = r} w x y z o p q m =
    gcd_of-unique (record { each = from r kept.each; most = λ n ns. kept.most n (to n ns) }) (gcd_of-is (a ∷ b ∷ c ∷ d ∷ e ∷ []))
  where
    kept : IsGcdOf (pos h ∷ pos i ∷ pos j ∷ pos k ∷ pos v ∷ []) r
    kept = more (more (more (more (gcd_of-single (pos v)) o) p) q) m

    to : (n : ℕ) → DividesAll n (a ∷ b ∷ c ∷ d ∷ e ∷ []) → DividesAll n (pos h ∷ pos i ∷ pos j ∷ pos k ∷ pos v ∷ [])
    to n (na also (nb also (nc also (nd also (ne also none))))) =
        let one = to-either n w na nb in
        let two = to-either n x one.0 nc in
        let three = to-either n y two.0 nd in
        let four = to-either n z three.0 ne in
        one.1 also two.1 also three.1 also four.1 also four.0 also none

    from : (n : ℕ) → DividesAll n (pos h ∷ pos i ∷ pos j ∷ pos k ∷ pos v ∷ []) → DividesAll n (a ∷ b ∷ c ∷ d ∷ e ∷ [])
    from n (nh also (ni also (nj also (nk also (nv also none))))) =
        let four = of_either n z nv nk in
        let three = of_either n y four.0 nj in
        let two = of_either n x three.0 ni in
        let one = of_either n w two.0 nh in
        one.0 also one.1 also two.1 also three.1 also four.1 also none

-- ---- a factor

-- of c a and c b it is c times that of a and b: c divides it, and what is left divides both
factor : (c a b g h : ℕ) → 0 < c → IsGcd a b g → IsGcd (c * a) (c * b) h → h ≡ c * g
factor c a b g h pc p q =
    dvd_antisymm
    (subst (λ (x : ℕ). x ∣ c * g) (sym k) (mul-dvd-mul_left (h / c) c (p.most (h / c) (part a q.left) (part b q.right))))
    (q.most (c * g) (mul-dvd-mul_left g c p.left) (mul-dvd-mul_left g c p.right))
  where
    k : h ≡ c * (h / c)
    k = sym (div-mul_cancel c {m = h} (q.most c (dvd-mul_right c a) (dvd-mul_right c b))) ∙ mul_comm (h / c) c

    part : (x : ℕ) → h ∣ c * x → h / c ∣ x
    part x d = dvd_of_mul-dvd-mul_left {k = c} (h / c) {n = x} pc (subst (λ (y : ℕ). y ∣ c * x) k d)

gcd-times : (c a b : ℕ) → gcd (c * a) (c * b) ≡ c * gcd a b
gcd-times zero a b = zero_of (gcd (0 * a) (0 * b)) (gcd-is (0 * a) (0 * b))
  where
    zero_of : (g : ℕ) → IsGcd (0 * a) (0 * b) g → g ≡ 0 * gcd a b
    zero_of g p =
        let za : 0 ≡ 0 * a = omega arith in
        let zb : 0 ≡ 0 * b = omega arith in
        eq-zero_of_zero-dvd (p.most 0 (subst (λ (x : ℕ). 0 ∣ x) za (dvd_refl 0)) (subst (λ (x : ℕ). 0 ∣ x) zb (dvd_refl 0))) ∙ omega arith
gcd-times (suc c) a b =
    factor (suc c) a b (gcd a b) (gcd (suc c * a) (suc c * b)) (omega arith) (gcd-is a b) (gcd-is (suc c * a) (suc c * b))

pub gcd_of-times : (c : ℤ) (zs : List ℤ) → gcd_of (times c zs) ≡ nat_abs c * gcd_of zs
unfolding gcd_of
gcd_of-times c [] = omega arith
gcd_of-times c (z ∷ zs) =
    ap₂ gcd (nat_abs_mul c z) (gcd_of-times c zs) ∙ gcd-times (nat_abs c) (nat_abs z) (gcd_of zs)

-- ---- division

abbrev pub over : ℕ → List ℤ → List ℤ
over c [] = []
over c (z ∷ zs) = quot_z z (pos c) ∷ over c zs

pub quot-one : (z : ℤ) → quot_z z (pos 1) ≡ z
quot-one (pos n) = ap pos (div-one n)
quot-one (negsuc n) = ap (λ (x : ℕ). neg_ℤ (pos x)) (div-one (suc n))

quot-back : (z : ℤ) (c : ℕ) → c ∣ nat_abs z → pos c *ℤ quot_z z (pos c) ≡ z
quot-back (pos n) c d = ap pos (mul_comm c (n / c) ∙ div-mul_cancel c {m = n} d)
quot-back (negsuc n) c d = mul-neg (pos c) (pos (suc n / c)) ∙ ap (λ (x : ℕ). neg_ℤ (pos x)) (mul_comm c (suc n / c) ∙ div-mul_cancel c {m = suc n} d)

times-over : (c : ℕ) (zs : List ℤ) → DividesAll c zs → times (pos c) (over c zs) ≡ zs
times-over c [] ds = refl
times-over c (z ∷ zs) ds = ap₂ (λ (x : ℤ) (y : List ℤ). x ∷ y) (quot-back z c (all_head ds)) (times-over c zs (all_tail ds))

pub over-back : (zs : List ℤ) → times (pos (gcd_of zs)) (over (gcd_of zs) zs) ≡ zs
over-back zs = times-over (gcd_of zs) zs (gcd_of-is zs).each

pub over-one : (zs : List ℤ) → 0 < gcd_of zs → gcd_of (over (gcd_of zs) zs) ≡ 1
over-one zs h =
    eq_of_mul-eq-mul_left (gcd_of zs) h (gcd_of (over (gcd_of zs) zs)) 1
    (sym (gcd_of-times (pos (gcd_of zs)) (over (gcd_of zs) zs)) ∙ ap gcd_of (over-back zs) ∙ sym (mul-one (gcd_of zs)))

-- a list with a number in it that is not 0 has a divisor above 0
pub gcd_of-above : (zs : List ℤ) (z : ℤ) → gcd_of zs ∣ nat_abs z → 0 < nat_abs z → 0 < gcd_of zs
gcd_of-above zs z d h = go (gcd_of zs) d
  where
    go : (g : ℕ) → g ∣ nat_abs z → 0 < g
    go zero d = let e = eq-zero_of_zero-dvd d in omega arith
    go (suc g) d = omega arith

-- ---- proportional numbers

times-inj : (c : ℤ) (xs ys : List ℤ) → pos 0 <ℤ c → times c xs ≡ times c ys → xs ≡ ys
times-inj c [] [] h e = refl
times-inj c [] (y ∷ ys) h e = let z : ◌≡◌ {A = ℕ} 0 1 = cc in absurd (omega arith)
times-inj c (x ∷ xs) [] h e = let z : ◌≡◌ {A = ℕ} 0 1 = cc in absurd (omega arith)
times-inj c (x ∷ xs) (y ∷ ys) h e =
    let e1 : c *ℤ x ≡ c *ℤ y = cc in
    let e2 : times c xs ≡ times c ys = cc in
    ap₂ (λ (z : ℤ) (zs : List ℤ). z ∷ zs) (mul-cancel c h e1) (times-inj c xs ys h e2)

-- v x = w y for each x over w and each y over v: then w is v, and each x is y
pub same_numbers : (w v : ℤ) (xs ys : List ℤ) → pos 0 <ℤ w → pos 0 <ℤ v → gcd_of xs ≡ 1 → gcd_of ys ≡ 1 → times v xs ≡ times w ys → (w ≡ v) × (xs ≡ ys)
same_numbers w v xs ys hw hv gx gy e = (same, times-inj v xs ys hv (e ∙ ap (λ (c : ℤ). times c ys) same))
  where
    sizes : nat_abs v ≡ nat_abs w
    sizes =
        sym (mul-one (nat_abs v)) ∙ ap (λ (g : ℕ). nat_abs v * g) (sym gx) ∙ sym (gcd_of-times v xs) ∙ ap gcd_of e
        ∙ gcd_of-times w ys ∙ ap (λ (g : ℕ). nat_abs w * g) gy ∙ mul-one (nat_abs w)

    same : w ≡ v
    same = nn-size (pp-nn hw) ∙ ap pos (sym sizes) ∙ sym (nn-size (pp-nn hv))

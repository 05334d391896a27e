-- Two figures by their numbers, as the code crosses them, and that it is the paper's crossing. To cite:
--   stretch                 a stretch by its numbers; the kind says where it ends
--   both-stretches          what two figures that are no sides share is what their stretches share
--   side-first, side-second     .. with a side, that of the side and the other figure
--   with-segment, with-ray, with-line, with-side   a side with a figure, by its kind
--   reaches_by, reaches-is   whether a stretch reaches a place of its line, by its kind
--   between_by, overlap_by    on one line, by inner products; far stands for no limit
--   together-alike, together-opposed   that this is `together`
--   on_by, end_by, sides_by, out_within, on-by-divided   with sides, by the way out of the square; before and after the division
-- Assumes nothing.
use Rattle.std.specs.Prelude.{◌≡◌, refl, Bool, true, false, cond, not, ◌&&◌, ◌||◌, [], ◌∷◌, ℤ, pos, neg_ℤ, ◌+ℤ◌, ◌*ℤ◌, ◌<ℤ◌}
use Rattle.std.proofs.Common.{sym, ◌∙◌, subst}
use Rattle.std.proofs.Math.Path.{ap}
use Rattle.std.proofs.Math.IntN.{*ℤ-zero, ℤ_discrete}
use Rattle.std.specs.Int.Signed.{lt_z, le_z, lt_z_yes}
use Rattle.whole.specs.Ring.{var, ◌⊕◌, ◌⊖◌, ◌⊗◌}
use Rattle.whole.specs.Reify.{reify, reading, solve}
use Rattle.whole.specs.Cert.{mul-cancel}
use Rattle.whole.specs.Order.{≤-<-trans, <-≤-trans, <-≤}
use Rattle.whole.specs.Flat.{small}
use Rattle.whole.specs.Within.{Within}
use Rattle.whole.specs.Bound.{w-upper, w-lower, w-pos, w-negsuc, w-lit}
use Rattle.whole.specs.Flag.{eq_z}
use Rattle.whole.specs.Tests.{eq-eq_z, ne-eq_z, lt-lt_z, le-lt_z}
use Rattle.sheet.specs.declared.Point.{Point}
use Rattle.sheet.specs.Figure.{Vec, vec, ◌⇀◌, Side, left, bottom, right, top, out_x, out_y, Figure, segment, ray, line, side_of, figure_of}
use Rattle.sheet.proofs.RefusalLaws.{kind-segment, kind-ray, kind-side, Shape, a_segment, a_ray, a_line, a_side}
use Rattle.sheet.specs.Points.{given, divided, divisor}
use Rattle.sheet.specs.PointsLaws.{divided-back, divisor-above}
use Rattle.sheet.specs.Ends.{far_end, reverse, corner}
use Rattle.sheet.specs.Crossing.{Meeting, none, point, many, Limit, free, till, Stretch, segment_stretch, ray_stretch, line_stretch, dot, reaches, later, sooner, between, alike, together, stretches, end_on, sides, with_side, with_stretch, meeting}
use Rattle.kernel.specs.Bounds.{Numbers, FourPoints, Out}
use Rattle.kernel.specs.Kinds.{a-shape}

-- ---- the stretch of numbers of kind 1 to 3: all but the line start at p, the segment alone stops at q

abbrev pub stretch_of : ℤ → Vec → Vec → Stretch
stretch_of kind p q = record {
  p = p;
  d = p ⇀ q;
  start = cond (eq_z kind (pos 3)) free (till p);
  stop = cond (eq_z kind (pos 1)) (till q) free;
}

abbrev pub stretch : ℤ → ℤ → ℤ → ℤ → ℤ → Stretch
stretch kind px py qx qy = stretch_of kind (vec px py) (vec qx qy)

-- a figure that is no side, with its stretch
data Along : Figure → Stretch → Type 0 where
  by_segment : {p q : Vec} → Along (segment p q) (segment_stretch p q)
  by_ray : {p q : Vec} → Along (ray p q) (ray_stretch p q)
  by_line : {p q : Vec} → Along (line p q) (line_stretch p q)

along : {kind px py qx qy : ℤ} → Numbers kind px py qx qy → (kind ≡ pos 4 → ⊥) → Along (figure_of kind px py qx qy) (stretch kind px py qx qy)
along {kind} {px} {py} {qx} {qy} h n = go (a-shape h)
  where
    by : {f : Figure} {n : ℤ} → kind ≡ n → figure_of kind px py qx qy ≡ f → Along f (stretch n px py qx qy)
        → Along (figure_of kind px py qx qy) (stretch kind px py qx qy)
    by {f} k e a =
        subst (λ (f : Figure). Along f (stretch kind px py qx qy)) (sym e)
        (subst (λ (n : ℤ). Along f (stretch n px py qx qy)) (sym k) a)

    go : Shape kind px py qx qy → Along (figure_of kind px py qx qy) (stretch kind px py qx qy)
    go (a_segment k e p) = by k e by_segment
    go (a_ray k e p) = by k e by_ray
    go (a_line k e p) = by k e by_line
    go (a_side k m e) = absurd (n k)

stretch-first : {f : Figure} {A : Stretch} → Along f A → (g : Figure) → meeting f g ≡ with_stretch f A g
unfolding meeting
stretch-first by_segment g = refl
stretch-first by_ray g = refl
stretch-first by_line g = refl

piece-second : (f : Figure) (A : Stretch) {g : Figure} {B : Stretch} → Along g B → with_stretch f A g ≡ stretches A B
unfolding with_stretch
piece-second f A by_segment = refl
piece-second f A by_ray = refl
piece-second f A by_line = refl

module _ {ka px py qx qy kb rx ry sx sy : ℤ} (h : Numbers ka px py qx qy) (k : Numbers kb rx ry sx sy) where
  abbrev one : Figure
  one = figure_of ka px py qx qy

  abbrev two : Figure
  two = figure_of kb rx ry sx sy

  pub side-first : ka ≡ pos 4 → meeting one two ≡ with_side (side_of px) two
  unfolding meeting
  side-first e = ap (λ (f : Figure). meeting f two) (kind-side px py qx qy e)

  module _ (n : ka ≡ pos 4 → ⊥) where
    pub side-second : kb ≡ pos 4 → meeting one two ≡ with_side (side_of rx) one
    unfolding with_stretch
    side-second e = stretch-first (along h n) two ∙ ap (with_stretch one (stretch ka px py qx qy)) (kind-side rx ry sx sy e)

    pub both-stretches : (kb ≡ pos 4 → ⊥) → meeting one two ≡ stretches (stretch ka px py qx qy) (stretch kb rx ry sx sy)
    both-stretches m = stretch-first (along h n) two ∙ piece-second one (stretch ka px py qx qy) (along k m)

-- ---- whether a stretch reaches the place p + (h / w) d

abbrev pub reaches_by : ℤ → ℤ → ℤ → Bool
reaches_by kind h w = (eq_z kind (pos 3) || le_z (pos 0) h) && (not (eq_z kind (pos 1)) || le_z h w)

pub reaches-is : (kind : ℤ) (p q : Vec) (h w : ℤ) → reaches_by kind h w ≡ reaches (stretch_of kind p q) h w
reaches-is kind p q h w = go (eq_z kind (pos 3)) (eq_z kind (pos 1))
  where
    go : (s t : Bool) → (s || le_z (pos 0) h) && (not t || le_z h w)
        ≡ reaches (record { p = p; d = p ⇀ q; start = cond s free (till p); stop = cond t (till q) free }) h w
    go true true = refl
    go true false = refl
    go false true = refl
    go false false = refl

-- ---- on one line, by inner products with the first one's direction

-- larger than any of them: where there is no limit
abbrev pub far : ℤ
far = pos 100000000

abbrev pub between_by : ℤ → ℤ → Vec → Meeting
between_by lo hi a = cond (lt_z lo hi) many (cond (lt_z hi lo) none (point (given a)))

-- from lo at a, or lo' at a', to hi or hi'
abbrev pub overlap_by : ℤ → ℤ → Vec → ℤ → ℤ → Vec → Meeting
overlap_by lo hi a lo' hi' a' = between_by (cond (lt_z lo lo') lo' lo) (cond (lt_z hi hi') hi hi') (cond (lt_z lo lo') a' a)

-- n is the inner product of the limit l, which is a, or less or more than any where there is none
data Lo (d : Vec) : Limit → ℤ → Vec → Type 0 where
  lo_free : {a : Vec} → Lo d free (neg_ℤ far) a
  lo_till : {a : Vec} → Within 16000000 (dot d a) → Lo d (till a) (dot d a) a

data Hi (d : Vec) : Limit → ℤ → Type 0 where
  hi_free : Hi d free far
  hi_till : {a : Vec} → Within 16000000 (dot d a) → Hi d (till a) (dot d a)

below : {z : ℤ} → Within 16000000 z → neg_ℤ far <ℤ z
below h = <-≤-trans (lt_z_yes tt) (w-lower h)

above : {z : ℤ} → Within 16000000 z → z <ℤ far
above h = ≤-<-trans (w-upper h) (lt_z_yes tt)

module _ {d : Vec} where
  later-lo : {l l' : Limit} {n n' : ℤ} {a a' : Vec} → Lo d l n a → Lo d l' n' a'
      → Lo d (later d l l') (cond (lt_z n n') n' n) (cond (lt_z n n') a' a)
  later-lo lo_free lo_free = lo_free
  later-lo (lo_free {a}) (lo_till {a = a'} h) =
      subst (λ (t : Bool). Lo d (till a') (cond t (dot d a') (neg_ℤ far)) (cond t a' a)) (sym (lt-lt_z (below h))) (lo_till h)
  later-lo (lo_till {a} h) (lo_free {a = a'}) =
      subst (λ (t : Bool). Lo d (till a) (cond t (neg_ℤ far) (dot d a)) (cond t a' a)) (sym (le-lt_z (<-≤ (below h)))) (lo_till h)
  later-lo (lo_till {a} h) (lo_till {a = a'} h') = go (lt_z (dot d a) (dot d a'))
    where
      go : (t : Bool) → Lo d (cond t (till a') (till a)) (cond t (dot d a') (dot d a)) (cond t a' a)
      go true = lo_till h'
      go false = lo_till h

  sooner-hi : {l l' : Limit} {n n' : ℤ} → Hi d l n → Hi d l' n' → Hi d (sooner d l l') (cond (lt_z n n') n n')
  sooner-hi hi_free hi_free = hi_free
  sooner-hi hi_free (hi_till {a} h) = subst (λ (t : Bool). Hi d (till a) (cond t far (dot d a))) (sym (le-lt_z (<-≤ (above h)))) (hi_till h)
  sooner-hi (hi_till {a} h) hi_free = subst (λ (t : Bool). Hi d (till a) (cond t (dot d a) far)) (sym (lt-lt_z (above h))) (hi_till h)
  sooner-hi (hi_till {a} h) (hi_till {a = a'} h') = go (lt_z (dot d a) (dot d a'))
    where
      go : (t : Bool) → Hi d (cond t (till a) (till a')) (cond t (dot d a) (dot d a'))
      go true = hi_till h
      go false = hi_till h'

  between-by : {l m : Limit} {n k : ℤ} {a : Vec} → Lo d l n a → Hi d m k → between_by n k a ≡ between d l m
  between-by lo_free hi_free = refl
  between-by lo_free (hi_till h) = simp (lt-lt_z (below h))
  between-by (lo_till h) hi_free = simp (lt-lt_z (above h))
  between-by (lo_till h) (hi_till h') = refl

  overlap-by : {l l' m m' : Limit} {n n' k k' : ℤ} {a a' : Vec} → Lo d l n a → Lo d l' n' a' → Hi d m k → Hi d m' k'
      → overlap_by n k a n' k' a' ≡ between d (later d l l') (sooner d m m')
  overlap-by x x' y y' = between-by (later-lo x x') (sooner-hi y y')

  -- a limit that is there or not
  lo-if : (t : Bool) (a : Vec) → Within 16000000 (dot d a) → Lo d (cond t free (till a)) (cond t (neg_ℤ far) (dot d a)) a
  lo-if true a h = lo_free
  lo-if false a h = lo_till h

  lo-unless : (t : Bool) (a : Vec) → Within 16000000 (dot d a) → Lo d (cond t (till a) free) (cond t (dot d a) (neg_ℤ far)) a
  lo-unless true a h = lo_till h
  lo-unless false a h = lo_free

  hi-if : (t : Bool) (a : Vec) → Within 16000000 (dot d a) → Hi d (cond t free (till a)) (cond t far (dot d a))
  hi-if true a h = hi_free
  hi-if false a h = hi_till h

  hi-unless : (t : Bool) (a : Vec) → Within 16000000 (dot d a) → Hi d (cond t (till a) free) (cond t (dot d a) far)
  hi-unless true a h = hi_till h
  hi-unless false a h = hi_free

-- two stretches on one line; where both arrows point the same way, the second one's start is a start
module _ (ka px py qx qy kb rx ry sx sy : ℤ) (h : FourPoints px py qx qy rx ry sx sy) where
  abbrev p : Vec
  p = vec px py

  abbrev q : Vec
  q = vec qx qy

  abbrev r : Vec
  r = vec rx ry

  abbrev s : Vec
  s = vec sx sy

  abbrev d : Vec
  d = p ⇀ q

  in_p : Within 16000000 (dot d p)
  in_p = small h.near ((var 2 ⊖ var 0) ⊗ var 0 ⊕ (var 3 ⊖ var 1) ⊗ var 1) tt

  in-q : Within 16000000 (dot d q)
  in-q = small h.near ((var 2 ⊖ var 0) ⊗ var 2 ⊕ (var 3 ⊖ var 1) ⊗ var 3) tt

  in-r : Within 16000000 (dot d r)
  in-r = small h.near ((var 2 ⊖ var 0) ⊗ var 4 ⊕ (var 3 ⊖ var 1) ⊗ var 5) tt

  in-s : Within 16000000 (dot d s)
  in-s = small h.near ((var 2 ⊖ var 0) ⊗ var 6 ⊕ (var 3 ⊖ var 1) ⊗ var 7) tt

  -- where the first one starts and stops
  abbrev pub starts : ℤ
  starts = cond (eq_z ka (pos 3)) (neg_ℤ far) (dot d p)

  abbrev pub stops : ℤ
  stops = cond (eq_z ka (pos 1)) (dot d q) far

  abbrev A : Stretch
  A = stretch_of ka p q

  abbrev B : Stretch
  B = stretch_of kb r s

  -- by the second one's limits in that direction, whichever way its own arrow points
  by-limits : {t : Bool} {n k : ℤ} {a : Vec} → alike A B ≡ t → Lo d (cond t B.start B.stop) n a → Hi d (cond t B.stop B.start) k
      → overlap_by starts stops p n k a ≡ together A B
  by-limits e x y =
      overlap-by (lo-if (eq_z ka (pos 3)) p in_p) x (hi-unless (eq_z ka (pos 1)) q in-q) y
      ∙ sym (ap (λ (t : Bool). between d (later d A.start (cond t B.start B.stop)) (sooner d A.stop (cond t B.stop B.start))) e)

  -- the limits as the code finds them
  module _ {lo hi low high : ℤ} {a b : Vec} (el : lo ≡ starts) (eh : hi ≡ stops) (ep : a ≡ p) where
    pub together-alike :
        low ≡ cond (eq_z kb (pos 3)) (neg_ℤ far) (dot d r) → high ≡ cond (eq_z kb (pos 1)) (dot d s) far → b ≡ r → alike A B ≡ true
        → overlap_by lo hi a low high b ≡ together A B
    together-alike x y z e =
        (λ i. overlap_by (el i) (eh i) (ep i) (x i) (y i) (z i))
        ∙ by-limits e (lo-if (eq_z kb (pos 3)) r in-r) (hi-unless (eq_z kb (pos 1)) s in-s)

    pub together-opposed :
        low ≡ cond (eq_z kb (pos 1)) (dot d s) (neg_ℤ far) → high ≡ cond (eq_z kb (pos 3)) far (dot d r) → b ≡ s → alike A B ≡ false
        → overlap_by lo hi a low high b ≡ together A B
    together-opposed x y z e =
        (λ i. overlap_by (el i) (eh i) (ep i) (x i) (y i) (z i))
        ∙ by-limits e (lo-unless (eq_z kb (pos 1)) s in-s) (hi-if (eq_z kb (pos 3)) r in-r)

-- ---- with sides, by the way out of the square

abbrev pub on_by : ℤ → ℤ → Point → Bool
on_by ox oy e = eq_z (ox *ℤ e.mx +ℤ oy *ℤ e.my) e.w && eq_z (ox *ℤ e.nx +ℤ oy *ℤ e.ny) (pos 0)

-- the end e if it is on the side
abbrev pub end_by : ℤ → ℤ → Point → Meeting → Meeting
end_by ox oy e otherwise = cond (on_by ox oy e) (point e) otherwise

abbrev pub sides_by : ℤ → ℤ → ℤ → ℤ → Meeting
sides_by ox oy ux uy =
    cond (eq_z (ox *ℤ ux +ℤ oy *ℤ uy) (pos 0)) (point (corner (ox +ℤ ux) (oy +ℤ uy)))
    (cond (lt_z (pos 0) (ox *ℤ ux +ℤ oy *ℤ uy)) many none)

pub out_within : (n : Side) → Out (out_x n) (out_y n)
out_within left = record { box = w-negsuc 0; boy = w-lit (w-pos 0) tt }
out_within bottom = record { box = w-lit (w-pos 0) tt; boy = w-negsuc 0 }
out_within right = record { box = w-pos 1; boy = w-lit (w-pos 0) tt }
out_within top = record { box = w-lit (w-pos 0) tt; boy = w-pos 1 }

-- a factor above 0 of both sides
eq-times : (g a b : ℤ) → pos 0 <ℤ g → eq_z (g *ℤ a) (g *ℤ b) ≡ eq_z a b
eq-times g a b h = go (ℤ_discrete a b)
  where
    go : Dec (a ≡ b) → eq_z (g *ℤ a) (g *ℤ b) ≡ eq_z a b
    go (yes e) = eq-eq_z (ap (λ (z : ℤ). g *ℤ z) e) ∙ sym (eq-eq_z e)
    go (no n) = ne-eq_z (λ e. n (mul-cancel g h e)) ∙ sym (ne-eq_z n)

pub on-by-divided : (ox oy : ℤ) (e : Point) → pos 0 <ℤ e.w → on_by ox oy (divided e) ≡ on_by ox oy e
on-by-divided ox oy e h =
    let b = divided-back e in
    let f = divided e in
    let g = pos (divisor e) in
    let above = divisor-above e h in
    λ i.
    (sym (eq-times g (ox *ℤ f.mx +ℤ oy *ℤ f.my) f.w above)
    ∙ (λ j. eq_z ((times g ox oy f.mx f.my ∙ sym (λ k. ox *ℤ b.mx k +ℤ oy *ℤ b.my k)) j) (sym b.w j))) i
    && (sym (eq-times g (ox *ℤ f.nx +ℤ oy *ℤ f.ny) (pos 0) above)
    ∙ (λ j. eq_z ((times g ox oy f.nx f.ny ∙ sym (λ k. ox *ℤ b.nx k +ℤ oy *ℤ b.ny k)) j) (*ℤ-zero g j))) i
  where
    times : (g a b x y : ℤ) → g *ℤ (a *ℤ x +ℤ b *ℤ y) ≡ a *ℤ (g *ℤ x) +ℤ b *ℤ (g *ℤ y)
    times g a b x y = reify (g ∷ a ∷ b ∷ x ∷ y ∷ []) (λ ρ v. simp (reading, v 0, v 1, v 2, v 3, v 4) (solve _ _ _ tt))

-- a side with the figure of five numbers, by their kind
module _ (n : Side) {kind px py qx qy : ℤ} (h : Numbers kind px py qx qy) where
  abbrev figure : Figure
  figure = figure_of kind px py qx qy

  pub with-segment : kind ≡ pos 1 → with_side n figure ≡ none
  unfolding with_side
  with-segment e = ap (with_side n) (kind-segment px py qx qy e)

  pub with-ray : kind ≡ pos 2 → with_side n figure ≡ end_on n (far_end (vec px py) (vec px py ⇀ vec qx qy)) none
  unfolding with_side
  with-ray e = ap (with_side n) (kind-ray px py qx qy e)

  pub with-side : kind ≡ pos 4 → with_side n figure ≡ sides n (side_of px)
  unfolding with_side
  with-side e = ap (with_side n) (kind-side px py qx qy e)

  pub with-line : (kind ≡ pos 1 → ⊥) → (kind ≡ pos 2 → ⊥) → (kind ≡ pos 4 → ⊥)
      → with_side n figure
      ≡ end_on n (far_end (vec px py) (vec px py ⇀ vec qx qy)) (end_on n (far_end (vec px py) (reverse (vec px py ⇀ vec qx qy))) none)
  unfolding with_side
  with-line x y z = go (a-shape h)
    where
      go : Shape kind px py qx qy → with_side n figure
          ≡ end_on n (far_end (vec px py) (vec px py ⇀ vec qx qy)) (end_on n (far_end (vec px py) (reverse (vec px py ⇀ vec qx qy))) none)
      go (a_segment k f p) = absurd (x k)
      go (a_ray k f p) = absurd (y k)
      go (a_line k f p) = ap (with_side n) f
      go (a_side k m f) = absurd (z k)

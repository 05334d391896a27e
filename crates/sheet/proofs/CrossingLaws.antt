-- What a crossing of two accepted objects answers. Its point is one of the paper's, standard or frame, within the limits and with the
-- common divisor out, and it lies on the lines of both objects; that it lies on the objects themselves is demand 3, in `cut`. To cite:
--   crossing-is-point       the point that is answered is a point
--   crossing-on-both        the point that is answered is on the line of each of the two, and on each side of the frame
--   Good, OnFigure, crossing-good   the three in one
--   meeting-standard        the point where two lines meet is a standard point, before the division too
-- Assumes nothing.
use Rattle.std.specs.Prelude.{◌≡◌, refl, Bool, true, false, cond, ◌&&◌, List, [], ◌∷◌, ℤ, pos, ◌+ℤ◌, ◌-ℤ◌, ◌*ℤ◌}
use Rattle.std.proofs.Common.{◌∙◌, subst}
use Rattle.std.specs.Int.Signed.{lt_z}
use Rattle.whole.specs.Ring.{var, lit, ◌⊖◌, ◌⊗◌, ring}
use Rattle.whole.specs.Reify.{reify, reading, solve, val_pos}
use Rattle.whole.specs.Cert.{z-eq, z-add, eq-cert}
use Rattle.whole.specs.Sign.{sgn}
use Rattle.whole.specs.SignLaws.{sgn-mul-self, size_above}
use Rattle.whole.specs.Bound.{w-sub, w-mul, w-sgn, w-size}
use Rattle.whole.specs.Flag.{eq_z}
use Rattle.whole.specs.Tests.{cond-by, eq_z-true, eq_z-false}
use Rattle.sheet.specs.declared.Object.{Object}
use Rattle.sheet.specs.declared.Point.{Point}
use Rattle.sheet.specs.Figure.{Vec, ◌⇀◌, Side, left, bottom, right, top, out_x, out_y, Figure, side, figure}
use Rattle.sheet.specs.Refusal.{Accepted}
use Rattle.sheet.specs.Points.{size, given, is_point}
use Rattle.sheet.specs.Ends.{moment, far_end, reverse, begins}
use Rattle.sheet.specs.Signs.{side_of_figure, side_sign}
use Rattle.sheet.specs.Crossing.{Meeting, none, point, many, Limit, free, till, Stretch, segment_stretch, ray_stretch, line_stretch, cross, dot, meeting_point, reaches, skew, later, sooner, between, alike, together, stretches, on_side, end_on, sides, with_side, with_stretch, meeting, crossing_of}
use Rattle.sheet.specs.Flags.{both}
use Rattle.sheet.proofs.RefusalLaws.{WithinBoth, Proper, Drawn, draw_segment, draw_ray, draw_line, draw_side, accepted-drawn}
use Rattle.sheet.specs.PointFacts.{Standard, APoint, a_standard}
use Rattle.sheet.specs.PointsLaws.{point-is, standard-divided, divided-one}
use Rattle.sheet.proofs.EndsLaws.{Way, proper-way, reverse-way, far-end-fine, given-fine, begins-fine}
use Rattle.sheet.specs.Expansions.{side-of-figure}
use Rattle.sheet.proofs.OnLine.{OnLine, on-line-turn, on-line-given, on-line-divided, on-line-back, far-on-line, carried, cross-self, cross-same, cross-turned, on-side-sign}

-- ---- an answer whose point, if it is one, is within the limits and has what F and G say of the two objects

pub data Good (F G : Point → Type 0) : Meeting → Type 0 where
  a_none : Good F G none
  a_point : {e : Point} → APoint e → F e → G e → Good F G (point e)
  a_many : Good F G many

module _ {F G : Point → Type 0} where
  good-cond : (t : Bool) {m n : Meeting} → (t ≡ true → Good F G m) → (t ≡ false → Good F G n) → Good F G (cond t m n)
  good-cond t = cond-by (Good F G) t

  good-swap : {m : Meeting} → Good F G m → Good G F m
  good-swap a_none = a_none
  good-swap (a_point h f g) = a_point h g f
  good-swap a_many = a_many

  good-map : {F' G' : Point → Type 0} {m : Meeting} → ((e : Point) → F e → F' e) → ((e : Point) → G e → G' e) → Good F G m → Good F' G' m
  good-map f g a_none = a_none
  good-map f g (a_point {e} h x y) = a_point h (f e x) (g e y)
  good-map f g a_many = a_many

-- ---- two stretches

-- a limit within the sheet that is on the line
data Ended (p d : Vec) : Limit → Type 0 where
  unended : Ended p d free
  ended : {a : Vec} → WithinBoth 2000 a → cross d (p ⇀ a) ≡ pos 0 → Ended p d (till a)

record Fair (A : Stretch) : Type 0 where
  way : Way A.d.x A.d.y (moment A.p A.d)
  starts : Ended A.p A.d A.start
  stops : Ended A.p A.d A.stop

-- ---- not parallel

module _ (A B : Stretch) where
  -- "Standard: .. w at most 32,000,000, nx and ny within 64,000,000,000 either way"
  pub meeting-standard : Way A.d.x A.d.y (moment A.p A.d) → Way B.d.x B.d.y (moment B.p B.d)
      → (cross A.d B.d ≡ pos 0 → ⊥) → Standard (meeting_point A B)
  meeting-standard a b n = record {
    no_mx = refl;
    no_my = refl;
    in-w = record { above = size_above n; at_most = w-size (w-sub (w-mul a.in_dx b.in_dy) (w-mul a.in_dy b.in_dx)) };
    in_nx = w-mul (w-sgn (cross A.d B.d)) (w-sub (w-mul a.in_k b.in_dx) (w-mul b.in_k a.in_dx));
    in_ny = w-mul (w-sgn (cross A.d B.d)) (w-sub (w-mul a.in_k b.in_dy) (w-mul b.in_k a.in_dy));
  }

  -- on the line of r and u, j its moment, where k (u x f) - m (u x d) = j (d x f): with s (d x f) = w, u x n = w j
  meeting-on : (r u : Vec)
      → moment A.p A.d *ℤ cross u B.d -ℤ moment B.p B.d *ℤ cross u A.d ≡ moment r u *ℤ cross A.d B.d
      → OnLine r u (meeting_point A B)
  meeting-on r u h =
      let c = cross A.d B.d in
      record {
        level = ring (u.x ∷ u.y ∷ []) (var 0 ⊗ lit 0 ⊖ var 1 ⊗ lit 0) (lit 0) tt;
        even =
            eq-cert _ (z-add (z-eq (sgn c) h) (z-eq (moment r u) (sgn-mul-self c)))
            (go A.d.x A.d.y B.d.x B.d.y u.x u.y (moment A.p A.d) (moment B.p B.d) (moment r u) c (sgn c) (size c));
      }
    where
      go : (dx dy fx fy ux uy k m j c s w : ℤ) →
          ux *ℤ (s *ℤ (k *ℤ fy -ℤ m *ℤ dy)) -ℤ uy *ℤ (s *ℤ (k *ℤ fx -ℤ m *ℤ dx)) -ℤ w *ℤ j -ℤ pos 0
          ≡ s *ℤ (k *ℤ (ux *ℤ fy -ℤ uy *ℤ fx) -ℤ m *ℤ (ux *ℤ dy -ℤ uy *ℤ dx) -ℤ j *ℤ c) +ℤ j *ℤ (s *ℤ c -ℤ w)
      go dx dy fx fy ux uy k m j c s w =
          reify (dx ∷ dy ∷ fx ∷ fy ∷ ux ∷ uy ∷ k ∷ m ∷ j ∷ c ∷ s ∷ w ∷ [])
          (λ ρ v. simp (reading, val_pos ρ, v 0, v 1, v 2, v 3, v 4, v 5, v 6, v 7, v 8, v 9, v 10, v 11) (solve _ _ _ tt))

  abbrev eight : List ℤ
  eight = A.p.x ∷ A.p.y ∷ A.d.x ∷ A.d.y ∷ B.p.x ∷ B.p.y ∷ B.d.x ∷ B.d.y ∷ []

  meeting-first : OnLine A.p A.d (meeting_point A B)
  meeting-first = meeting-on A.p A.d (reify eight (λ ρ v. simp (reading, v 0, v 1, v 2, v 3, v 4, v 5, v 6, v 7) (solve _ _ _ tt)))

  meeting-second : OnLine B.p B.d (meeting_point A B)
  meeting-second = meeting-on B.p B.d (reify eight (λ ρ v. simp (reading, v 0, v 1, v 2, v 3, v 4, v 5, v 6, v 7) (solve _ _ _ tt)))

module _ {A B : Stretch} (a : Fair A) (b : Fair B) where
  skew-good : (cross A.d B.d ≡ pos 0 → ⊥) → Good (OnLine A.p A.d) (OnLine B.p B.d) (skew A B)
  skew-good n =
      let above = size_above n in
      let D = cross A.d B.d in
      good-cond
      (reaches A (sgn D *ℤ cross (A.p ⇀ B.p) B.d) (size D) && reaches B (sgn D *ℤ cross (A.p ⇀ B.p) A.d) (size D))
      (λ t. a_point (a_standard (standard-divided (meeting-standard A B a.way b.way n)) (divided-one (meeting_point A B) above))
      (on-line-divided above (meeting-first A B)) (on-line-divided above (meeting-second A B)))
      (λ t. a_none)

  -- ---- on one line

  module _ (h : cross A.d B.d ≡ pos 0) (k : cross A.d (A.p ⇀ B.p) ≡ pos 0) where
    -- a limit of either is on both lines
    data Shared : Limit → Type 0 where
      unlimited : Shared free
      shared : {a : Vec} → WithinBoth 2000 a → OnLine A.p A.d (given a) → OnLine B.p B.d (given a) → Shared (till a)

    of_first : {l : Limit} → Ended A.p A.d l → Shared l
    of_first unended = unlimited
    of_first (ended {a = c} s e) = shared s (on-line-given e) (on-line-given (carried A.p A.d B.p B.d c a.way.moves h k e))

    of_second : {l : Limit} → Ended B.p B.d l → Shared l
    of_second unended = unlimited
    of_second (ended {a = c} s e) =
        let back = carried A.p A.d B.p B.d A.p a.way.moves h k (cross-self A.d A.p) in
        shared s (on-line-given (carried B.p B.d A.p A.d c b.way.moves (cross-turned A.d B.d h) back e)) (on-line-given e)

    either : (t : Bool) {l m : Limit} → Shared l → Shared m → Shared (cond t l m)
    either t x y = cond-by Shared t (λ e. x) (λ e. y)

    later-shared : (d : Vec) {l m : Limit} → Shared l → Shared m → Shared (later d l m)
    later-shared d unlimited y = y
    later-shared d (shared s x y) unlimited = shared s x y
    later-shared d (shared {a} s x y) (shared {a = a'} s' x' y') = either (lt_z (dot d a) (dot d a')) (shared s' x' y') (shared s x y)

    between-good : (d : Vec) {l : Limit} → Shared l → (m : Limit) → Good (OnLine A.p A.d) (OnLine B.p B.d) (between d l m)
    between-good d unlimited m = a_many
    between-good d (shared s x y) free = a_many
    between-good d (shared {a} s x y) (till c) =
        good-cond (lt_z (dot d a) (dot d c)) (λ t. a_many)
        (λ t. good-cond (lt_z (dot d c) (dot d a)) (λ u. a_none) (λ u. a_point (given-fine s).point x y))

    together-good : Good (OnLine A.p A.d) (OnLine B.p B.d) (together A B)
    together-good =
        between-good A.d
        (later-shared A.d (of_first a.starts) (either (alike A B) (of_second b.starts) (of_second b.stops)))
        (sooner A.d A.stop (cond (alike A B) B.stop B.start))

  pieces-good : Good (OnLine A.p A.d) (OnLine B.p B.d) (stretches A B)
  unfolding stretches
  pieces-good =
      good-cond (eq_z (cross A.d B.d) (pos 0))
      (λ h. good-cond (eq_z (cross A.d (A.p ⇀ B.p)) (pos 0)) (λ k. together-good (eq_z-true h) (eq_z-true k)) (λ k. a_none))
      (λ h. skew-good (eq_z-false h))

-- ---- with sides of the frame

-- the turn of a figure and the point is 0
abbrev pub OnFigure : Figure → Point → Type 0
OnFigure f e = side_of_figure f e ≡ pos 0

corner-on : (n m k : Side)
    → out_x n *ℤ (begins k).mx +ℤ out_y n *ℤ (begins k).my ≡ (begins k).w → out_x n *ℤ (begins k).nx +ℤ out_y n *ℤ (begins k).ny ≡ pos 0
    → out_x m *ℤ (begins k).mx +ℤ out_y m *ℤ (begins k).my ≡ (begins k).w → out_x m *ℤ (begins k).nx +ℤ out_y m *ℤ (begins k).ny ≡ pos 0
    → Good (OnFigure (side n)) (OnFigure (side m)) (point (begins k))
corner-on n m k a b c d = a_point (begins-fine k).point (on-side-sign n (begins k) a b) (on-side-sign m (begins k) c d)

sides-good : (n m : Side) → Good (OnFigure (side n)) (OnFigure (side m)) (sides n m)
sides-good left left = a_many
sides-good left bottom = corner-on left bottom bottom refl refl refl refl
sides-good left right = a_none
sides-good left top = corner-on left top left refl refl refl refl
sides-good bottom left = corner-on bottom left bottom refl refl refl refl
sides-good bottom bottom = a_many
sides-good bottom right = corner-on bottom right right refl refl refl refl
sides-good bottom top = a_none
sides-good right left = a_none
sides-good right bottom = corner-on right bottom right refl refl refl refl
sides-good right right = a_many
sides-good right top = corner-on right top top refl refl refl refl
sides-good top left = corner-on top left left refl refl refl refl
sides-good top bottom = a_none
sides-good top right = corner-on top right top refl refl refl refl
sides-good top top = a_many

end-on-good : (n : Side) {G : Point → Type 0} {e : Point} {m : Meeting} → APoint e → G e → Good (OnFigure (side n)) G m
    → Good (OnFigure (side n)) G (end_on n e m)
end-on-good n {G} {e} h g o =
    good-cond (on_side n e) (λ t. a_point h (on-it ((both (eq_z (out_x n *ℤ e.mx +ℤ out_y n *ℤ e.my) e.w) _).0 t)) g) (λ t. o)
  where
    on-it : (eq_z (out_x n *ℤ e.mx +ℤ out_y n *ℤ e.my) e.w ≡ true) × (eq_z (out_x n *ℤ e.nx +ℤ out_y n *ℤ e.ny) (pos 0) ≡ true)
        → OnFigure (side n) e
    on-it t = on-side-sign n e (eq_z-true t.0) (eq_z-true t.1)

-- ---- all figures

with-side-good : (n : Side) {g : Figure} → Drawn g → Good (OnFigure (side n)) (OnFigure g) (with_side n g)
unfolding with_side
with-side-good n (draw_segment h) = a_none
with-side-good n (draw_ray {p} {q} h) =
    end-on-good n (far-end-fine p (p ⇀ q) (proper-way h)).point
    (on-line-turn p q (far_end p (p ⇀ q)) (far-on-line p (p ⇀ q) (proper-way h))) a_none
with-side-good n (draw_line {p} {q} h) =
    let back = reverse-way p (p ⇀ q) (proper-way h) in
    end-on-good n (far-end-fine p (p ⇀ q) (proper-way h)).point (on-line-turn p q (far_end p (p ⇀ q)) (far-on-line p (p ⇀ q) (proper-way h)))
    (end-on-good n (far-end-fine p (reverse (p ⇀ q)) back).point
    (on-line-turn p q (far_end p (reverse (p ⇀ q))) (on-line-back (far-on-line p (reverse (p ⇀ q)) back))) a_none)
with-side-good n (draw_side {n = m}) = sides-good n m

module _ {p q : Vec} (h : Proper p q) where
  at_p : Ended p (p ⇀ q) (till p)
  at_p = ended h.small_p (cross-self (p ⇀ q) p)

  segment-fair : Fair (segment_stretch p q)
  segment-fair = record { way = proper-way h; starts = at_p; stops = ended h.small_q (cross-same (p ⇀ q)) }

  ray-fair : Fair (ray_stretch p q)
  ray-fair = record { way = proper-way h; starts = at_p; stops = unended }

  line-fair : Fair (line_stretch p q)
  line-fair = record { way = proper-way h; starts = unended; stops = unended }

with-piece-good : {f g : Figure} {A : Stretch} → ((e : Point) → OnLine A.p A.d e → OnFigure f e) → Drawn f → Fair A → Drawn g
    → Good (OnFigure f) (OnFigure g) (with_stretch f A g)
unfolding with_stretch
with-piece-good on s a (draw_segment {p} {q} h) = good-map on (on-line-turn p q) (pieces-good a (segment-fair h))
with-piece-good on s a (draw_ray {p} {q} h) = good-map on (on-line-turn p q) (pieces-good a (ray-fair h))
with-piece-good on s a (draw_line {p} {q} h) = good-map on (on-line-turn p q) (pieces-good a (line-fair h))
with-piece-good on s a (draw_side {n}) = good-swap (with-side-good n s)

meeting-good : {f g : Figure} → Drawn f → Drawn g → Good (OnFigure f) (OnFigure g) (meeting f g)
unfolding meeting
meeting-good (draw_segment {p} {q} h) k = with-piece-good (on-line-turn p q) (draw_segment h) (segment-fair h) k
meeting-good (draw_ray {p} {q} h) k = with-piece-good (on-line-turn p q) (draw_ray h) (ray-fair h) k
meeting-good (draw_line {p} {q} h) k = with-piece-good (on-line-turn p q) (draw_line h) (line-fair h) k
meeting-good (draw_side {n}) k = with-side-good n k

-- ---- the laws

pub crossing-good : {a b : Object} → Accepted a → Accepted b → Good (OnFigure (figure a)) (OnFigure (figure b)) (crossing_of a b)
unfolding crossing_of
crossing-good ha hb = meeting-good (accepted-drawn ha) (accepted-drawn hb)

-- "the limits on coordinates keep every reduced crossing within the limits for points" (document 02): standard or frame, as `is_point` has it
pub crossing-is-point : {a b : Object} {e : Point} → Accepted a → Accepted b → crossing_of a b ≡ point e → is_point e ≡ true
crossing-is-point {a} {b} {e} ha hb h = go (subst (Good (OnFigure (figure a)) (OnFigure (figure b))) h (crossing-good ha hb))
  where
    go : {F G : Point → Type 0} → Good F G (point e) → is_point e ≡ true
    go (a_point h f g) = (point-is e).1 h

pub crossing-on-both : {a b : Object} {e : Point} → Accepted a → Accepted b → crossing_of a b ≡ point e
    → (side_sign a e ≡ pos 0) × (side_sign b e ≡ pos 0)
crossing-on-both {a} {b} {e} ha hb h = go (subst (Good (OnFigure (figure a)) (OnFigure (figure b))) h (crossing-good ha hb))
  where
    go : Good (OnFigure (figure a)) (OnFigure (figure b)) (point e) → (side_sign a e ≡ pos 0) × (side_sign b e ≡ pos 0)
    go (a_point h f g) = (side-of-figure a e refl ∙ f, side-of-figure b e refl ∙ g)

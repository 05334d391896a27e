-- The crossing of two objects at R, in places: for every R of 64,000,000,000 or more. To cite:
--   meeting-means             of two figures that a sheet takes: what `meeting` says of the spots on both
--   Shares, shares-by, crossing-shares   of two accepted objects: what `crossing_of` says of the places that they share
--   point_said                the point that is said
--   none-when, many-when, point_when   and it says so just then
use Rattle.std.specs.Prelude.{◌≡◌, refl, ◌↔◌, [], ◌∷◌, ℤ, pos, ◌+ℤ◌, ◌≤ℤ◌, ◌<ℤ◌}
use Rattle.std.proofs.Common.{subst}
use Rattle.std.specs.Int.Signed.{lt_z_yes, le_z_yes}
use Rattle.whole.specs.Reify.{reify, reading, solve}
use Rattle.whole.specs.Order.{≤_trans, <-≤-trans}
use Rattle.sheet.specs.declared.Object.{Object}
use Rattle.sheet.specs.declared.Point.{Point}
use Rattle.sheet.specs.Figure.{Vec, ◌⇀◌, Side, Figure, segment, ray, line, side, figure}
use Rattle.sheet.specs.Refusal.{Accepted}
use Rattle.sheet.proofs.RefusalLaws.{Proper, Drawn, draw_segment, draw_ray, draw_line, draw_side, accepted-drawn}
use Rattle.sheet.specs.PointFacts.{APoint}
use Rattle.sheet.specs.PointsLaws.{point-is}
use Rattle.sheet.proofs.EndsLaws.{proper-way}
use Rattle.sheet.specs.Crossing.{Meeting, none, point, many, Limit, Stretch, segment_stretch, ray_stretch, line_stretch, dot, stretches, with_side, with_stretch, meeting, crossing_of}
use Rattle.cut.specs.Bounds.{crossing_need}
use Rattle.cut.specs.Place.{Place, SamePlace, put, Spot, spot, place_of}
use Rattle.cut.specs.Cut.{On, on_segment, on_ray, on_line, Shared, OnlyShared, MoreShared, NothingShared}
use Rattle.cut.specs.Claims.{PointGiven, SharedPoint}
use Rattle.cut.proofs.Same.{same-sym, same-trans, same_place, same_spot, place-spot, spot_at, put-spot, on_same, of_segment, of_ray, of_line}
use Rattle.cut.proofs.Line.{size², online-p, online-q}
use Rattle.cut.proofs.Square.{larger-square, segment-small, length-pq}
use Rattle.cut.proofs.Stretches.{after_free, after_till, before_free, before_till, of-after, of-before, Part, Marked, marked_free, marked_till, Marks, marks_free, marks_till, Sound}
use Rattle.cut.proofs.Means.{Both, both-swap, both-map, Means, means_none, means_point, means_many, means-map}
use Rattle.cut.proofs.Skew.{stretches-mean}
use Rattle.cut.proofs.SideMeets.{segment-says, ray-says, line-says}
use Rattle.cut.proofs.SidesMeet.{sides-means}

-- ---- a figure of the first three kinds is a stretch in the square

data Linear : Figure → Stretch → Type 0 where
  is_segment : {p q : Vec} → Proper p q → Linear (segment p q) (segment_stretch p q)
  is_ray : {p q : Vec} → Proper p q → Linear (ray p q) (ray_stretch p q)
  is_line : {p q : Vec} → Proper p q → Linear (line p q) (line_stretch p q)

mark-q : (p q : Vec) → dot (p ⇀ q) q ≡ dot (p ⇀ q) p +ℤ size² (p ⇀ q)
mark-q p q = reify (p.x ∷ p.y ∷ q.x ∷ q.y ∷ []) (λ ρ v. simp (reading, v 0, v 1, v 2, v 3) (solve _ _ _ tt))

fit-by : {p q : Vec} {l h : Limit} → Proper p q → Marked p (p ⇀ q) l → Marked p (p ⇀ q) h
    → Marks (p ⇀ q) (dot (p ⇀ q) p) l → Marks (p ⇀ q) (dot (p ⇀ q) p +ℤ size² (p ⇀ q)) h
    → Sound (record { p = p; d = p ⇀ q; start = l; stop = h })
fit-by a l h u v = record {
  small_p = a.small_p;
  way = proper-way a;
  len = length-pq a;
  start_ok = l;
  stop_ok = h;
  at_p = u;
  at_q = v;
}

fit : {f : Figure} {A : Stretch} → Linear f A → Sound A
fit (is_segment {p = p} {q = q} a) =
    fit-by a (marked_till (online-p p (p ⇀ q)) a.small_p) (marked_till (online-q p q) a.small_q) (marks_till refl) (marks_till (mark-q p q))
fit (is_ray {p = p} {q = q} a) = fit-by a (marked_till (online-p p (p ⇀ q)) a.small_p) marked_free (marks_till refl) marks_free
fit (is_line a) = fit-by a marked_free marked_free marks_free marks_free

part-on : {R : ℤ} → pos 2000 ≤ℤ R → {f : Figure} {A : Stretch} → Linear f A → (S : Spot) → Part R A S ↔ On R f S
part-on h_r (is_segment a) S = (
  (λ c. on_segment (record {
    on = c.on;
    not_before_p = of-after c.between.after;
    not_beyond_q = of-before c.between.before;
  })),
  (λ s. let t = of_segment s in
      record {
        on = t.on;
        between = record { after = after_till t.not_before_p; before = before_till t.not_beyond_q };
        in-square = larger-square h_r (segment-small a s);
      }),
)
part-on h_r (is_ray a) S = (
  (λ c. on_ray (record { of_line = record { on = c.on; cut = c.in-square }; from_p = of-after c.between.after })),
  (λ s. let t = of_ray s in
      record {
        on = t.of_line.on;
        between = record { after = after_till t.from_p; before = before_free };
        in-square = t.of_line.cut;
      }),
)
part-on h_r (is_line a) S = (
  (λ c. on_line (record { on = c.on; cut = c.in-square })),
  (λ s. let t = of_line s in
      record { on = t.on; between = record { after = after_free; before = before_free }; in-square = t.cut }),
)

-- ---- all figures

module _ {R : ℤ} (h_r : pos crossing_need ≤ℤ R) where
  both-linear : {f g : Figure} {A B : Stretch} → Linear f A → Linear g B → Means R (Both (On R f) (On R g)) (stretches A B)
  both-linear {A = A} {B = B} a b =
      let h : pos 2000 ≤ℤ R = ≤_trans (le_z_yes tt) h_r in
      means-map (both-map (part-on h a) (part-on h b)) (stretches-mean h_r A B (fit a) (fit b))

  side-means : (n : Side) {f : Figure} → Drawn f → Means R (Both (On R (side n)) (On R f)) (with_side n f)
  unfolding with_side
  side-means n (draw_segment a) = segment-says (<-≤-trans (lt_z_yes tt) h_r) a n
  side-means n (draw_ray a) = ray-says (<-≤-trans (lt_z_yes tt) h_r) a n
  side-means n (draw_line a) = line-says (<-≤-trans (lt_z_yes tt) h_r) a n
  side-means n (draw_side {n = m}) = sides-means (<-≤-trans (lt_z_yes tt) h_r) n m

  linear-means : {f g : Figure} {A : Stretch} → Linear f A → Drawn f → Drawn g → Means R (Both (On R f) (On R g)) (with_stretch f A g)
  unfolding with_stretch
  linear-means a t (draw_segment b) = both-linear a (is_segment b)
  linear-means a t (draw_ray b) = both-linear a (is_ray b)
  linear-means a t (draw_line b) = both-linear a (is_line b)
  linear-means a t (draw_side {n = n}) = means-map both-swap (side-means n t)

  pub meeting-means : {f g : Figure} → Drawn f → Drawn g → Means R (Both (On R f) (On R g)) (meeting f g)
  unfolding meeting
  meeting-means (draw_segment a) b = linear-means (is_segment a) (draw_segment a) b
  meeting-means (draw_ray a) b = linear-means (is_ray a) (draw_ray a) b
  meeting-means (draw_line a) b = linear-means (is_line a) (draw_line a) b
  meeting-means (draw_side {n = n}) b = side-means n b

-- ---- of places

pub data Shares (R : ℤ) (a b : Object) : Meeting → Type 0 where
  shares_none : NothingShared R a b → Shares R a b none
  shares_point : {e : Point} (h : pos 0 <ℤ e.w) → APoint e → OnlyShared R a b (put R e h) → Shares R a b (point e)
  shares_many : MoreShared R a b → Shares R a b many

module _ {R : ℤ} {a b : Object} where
  spot_of : {P : Place} → Shared R a b P → Both (On R (figure a)) (On R (figure b)) (spot P)
  spot_of s = record { first = s.on_first.lies; second = s.on_second.lies }

  place-of : (S : Spot) → Both (On R (figure a)) (On R (figure b)) S → Shared R a b (place_of S)
  place-of S s = record {
    on_first = record { lies = on_same (place-spot S) s.first };
    on_second = record { lies = on_same (place-spot S) s.second };
  }

  pub shares-by : {m : Meeting} → Means R (Both (On R (figure a)) (On R (figure b))) m → Shares R a b m
  shares-by (means_none f) = shares_none (record { nothing = λ P s. f (spot P) (spot_of s) })
  shares-by (means_point {e = e} h i s u) = shares_point h i (record {
    is_shared = place-of (spot_at R e h) s;
    no_other = λ Q t. same_place Q (put R e h) (same-trans (u (spot Q) (spot_of t)) (put-spot R e h));
  })
  shares-by (means_many P Q s t n) = shares_many (record {
    one = place_of P;
    other = place_of Q;
    one_shared = place-of P s;
    other_shared = place-of Q t;
    differ = λ e. n (same-trans (place-spot P) (same-trans (same_spot (place_of P) (place_of Q) e) (same-sym (place-spot Q))));
  })

pub crossing-shares : {R : ℤ} → pos crossing_need ≤ℤ R → {a b : Object} → Accepted a → Accepted b → Shares R a b (crossing_of a b)
unfolding crossing_of
crossing-shares h_r a b = shares-by (meeting-means h_r (accepted-drawn a) (accepted-drawn b))

-- ---- and just then

same-two : (P Q E : Place) → SamePlace P E → SamePlace Q E → SamePlace P Q
same-two P Q E a b = same_place P Q (same-trans (same_spot P E a) (same-sym (same_spot Q E b)))

module _ {R : ℤ} {a b : Object} where
  pub none-when : {m : Meeting} → Shares R a b m → NothingShared R a b → m ≡ none
  none-when (shares_none f) n = refl
  none-when (shares_point {e = e} h i o) n = absurd (n.nothing (put R e h) o.is_shared)
  none-when (shares_many w) n = absurd (n.nothing w.one w.one_shared)

  pub point_said : {m : Meeting} → Shares R a b m → (e : Point) → m ≡ point e → SharedPoint R a b e
  point_said t e q = go (subst (Shares R a b) q t)
    where
      go : Shares R a b (point e) → SharedPoint R a b e
      go (shares_point h i o) = record { is-point = (point-is e).1 i; above = h; only = o }

  apart : (P : Place) → OnlyShared R a b P → MoreShared R a b → ⊥
  apart P o w = w.differ (same-two w.one w.other P (o.no_other w.one w.one_shared) (o.no_other w.other w.other_shared))

  pub many-when : {m : Meeting} → Shares R a b m → MoreShared R a b → m ≡ many
  many-when (shares_none f) w = absurd (f.nothing w.one w.one_shared)
  many-when (shares_point {e = e} h i o) w = absurd (apart (put R e h) o w)
  many-when (shares_many v) w = refl

  pub point_when : {m : Meeting} → Shares R a b m → (P : Place) → OnlyShared R a b P → PointGiven R m P
  point_when (shares_none f) P o = absurd (f.nothing P o.is_shared)
  point_when (shares_point {e = e} h i u) P o = record { e = e; is_said = refl; above = h; there = u.no_other P o.is_shared }
  point_when (shares_many w) P o = absurd (apart P o w)

-- What the code leaves out is what the paper does. To cite:
--   kept-figures            what is kept of two objects, by their figures
--   stretches-kept          of two figures that are no sides, by their numbers;  kept-skew, kept-apart, kept-together  its three cases
--   touch-said, corner-said, none_said   what is left of an answer says what is left of what it says; and of none
-- Assumes nothing.
use Rattle.std.specs.Prelude.{◌≡◌, refl, Bool, true, false, cond, not, ◌&&◌, ◌||◌, ◌⊎◌, List, [], ◌∷◌, ℤ, pos, ◌*ℤ◌}
use Rattle.std.proofs.Math.Path.{sym}
use Rattle.std.proofs.Common.{◌∙◌, ap, ap₂, subst, inl, inr}
use Rattle.std.proofs.Math.Bool.{and-true, and-false}
use Rattle.std.specs.Int.Signed.{lt_z, le_z, clash_ℤ}
use Rattle.whole.specs.Order.{≤-of}
use Rattle.whole.specs.Sign.{sgn}
use Rattle.whole.specs.Flag.{eq_z}
use Rattle.whole.specs.Tests.{cond-by, eq_z-false, eq-eq_z, ne-eq_z, false_of}
use Rattle.sheet.specs.declared.Object.{Object}
use Rattle.sheet.specs.declared.Point.{Point}
use Rattle.sheet.specs.declared.Crossing.{Crossing}
use Rattle.sheet.specs.declared.Crossing.TheVariants as crossing
use Rattle.sheet.specs.Figure.{Vec, vec, ◌⇀◌, Figure, figure, figure_of}
use Rattle.sheet.proofs.RefusalLaws.{Shape, a_segment, a_ray, a_line, a_side}
use Rattle.sheet.specs.Points.{size, given, divided}
use Rattle.sheet.specs.PointFacts.{OnEdge, Frame}
use Rattle.sheet.specs.PointsLaws.{frame-divided, standard-divided}
use Rattle.sheet.specs.Ends.{moment, far_end, reverse}
use Rattle.sheet.proofs.EndsLaws.{Way, proper-way, reverse-way, far-frame}
use Rattle.sheet.specs.Crossing.{Meeting, none, point, many, Limit, free, till, Stretch, cross, dot, meeting_point, reaches, skew, later, sooner, between, alike, together, stretches, crossing_of}
use Rattle.sheet.proofs.CrossingLaws.{meeting-standard}
use Rattle.sheet.specs.Joint.{is_same_point, is_end, joint_by, joint, kept}
use Rattle.sheet.proofs.JointLaws.{same_point}
use Rattle.sheet.specs.Flags.{flags}
use Rattle.sheet.specs.Answers.{meeting_numbers, crossing_numbers}
use Rattle.sheet.specs.AnswersLaws.{share-one, crossing-says}
use Rattle.sheet.specs.Meetings.{crossing_by}
use Rattle.kernel.specs.Bounds.{Numbers}
use Rattle.kernel.specs.Kinds.{a-shape, a_pair}
use Rattle.kernel.specs.Stretches.{stretch, both-stretches}
use Rattle.kernel.specs.SkewEnds.{meets-p, meets-q, meets-r, meets-s}
use Rattle.kernel.specs.Joints.{left_out, figures_kept, ends_meet, own_end, touches, touch_left, skew_kept, together_kept, stretches_kept, corner_at, corners_left, corner_left}

-- ---- what is left

left-none : (joints ends : Bool) → left_out joints ends none ≡ none
left-none joints ends = go (not joints && ends)
  where
    go : (t : Bool) → cond t none none ≡ none
    go true = refl
    go false = refl

-- the paper's words, the other way round
left-else : (joints ends : Bool) (m : Meeting) → cond (joints || not ends) m none ≡ left_out joints ends m
left-else true ends m = refl
left-else false true m = refl
left-else false false m = refl

-- ---- by figures

pub kept-figures : (joints : Bool) (a b : Object) → kept joints a b ≡ figures_kept joints (figure a) (figure b)
unfolding kept joint crossing_of
kept-figures joints a b = left-else joints (joint a b) (crossing_of a b)

-- ---- a point that stands still is no far end

abbrev is_still : Point → Bool
is_still e = eq_z e.mx (pos 0) && eq_z e.my (pos 0)

moves : {f : Point} → Frame f → is_still f ≡ true → ⊥
moves {f} h s = let z = simp flags at s in go z.0 z.1 h.on_edge
  where
    go : f.mx ≡ pos 0 → f.my ≡ pos 0 → OnEdge f.mx f.nx f.w ⊎ OnEdge f.my f.ny f.w → ⊥
    go x y (inl e) = clash_ℤ h.slim.in-w.above (≤-of (sym e.full ∙ ap size x))
    go x y (inr e) = clash_ℤ h.slim.in-w.above (≤-of (sym e.full ∙ ap size y))

far-end-frame : (p d : Vec) → Way d.x d.y (moment p d) → Frame (far_end p d)
unfolding far_end
far-end-frame p d h = frame-divided (far-frame d.x d.y (moment p d) h)

not-far : (e : Point) → is_still e ≡ true → (p d : Vec) → Way d.x d.y (moment p d) → is_same_point e (far_end p d) ≡ false
not-far e still p d h =
    false_of (is_same_point e (far_end p d))
    (λ s. moves (far-end-frame p d h) (subst (λ (z : Point). is_still z ≡ true) ((same_point e (far_end p d)).0 s) still))

-- which of p and q are ends of it, by its kind: at and to say that e is there
abbrev by_kind : ℤ → Bool → Bool → Bool
by_kind kind at to = (le_z kind (pos 2) && at) || (eq_z kind (pos 1) && to)

still-end : {kind px py qx qy : ℤ} → Numbers kind px py qx qy → (kind ≡ pos 4 → ⊥) → (e : Point) → is_still e ≡ true
    → is_end (figure_of kind px py qx qy) e ≡ by_kind kind (is_same_point e (given (vec px py))) (is_same_point e (given (vec qx qy)))
still-end {kind} {px} {py} {qx} {qy} h n e still = go (a-shape h)
  where
    p : Vec
    p = vec px py

    q : Vec
    q = vec qx qy

    own : ℤ → Bool
    own k = by_kind k (is_same_point e (given p)) (is_same_point e (given q))

    by : {k : ℤ} {f : Figure} → kind ≡ k → figure_of kind px py qx qy ≡ f → is_end f e ≡ own k → is_end (figure_of kind px py qx qy) e ≡ own kind
    by k f z = ap (λ (g : Figure). is_end g e) f ∙ z ∙ sym (ap own k)

    go : Shape kind px py qx qy → is_end (figure_of kind px py qx qy) e ≡ own kind
    go (a_segment k f a) = by k f refl
    go (a_ray k f a) = by k f (ap (λ (t : Bool). is_same_point e (given p) || t) (not-far e still p (p ⇀ q) (proper-way a)))
    go (a_line k f a) =
        by k f
        (ap₂ ◌||◌ (not-far e still p (reverse (p ⇀ q)) (reverse-way p (p ⇀ q) (proper-way a))) (not-far e still p (p ⇀ q) (proper-way a)))
    go (a_side k m f) = absurd (n k)

-- ---- two stretches on one line: a shared point is given

data Given : Meeting → Type 0 where
  no_place : Given none
  many_places : Given many
  one_place : (a : Vec) → Given (point (given a))

between-given : (d : Vec) (l m : Limit) → Given (between d l m)
between-given d free m = many_places
between-given d (till a) free = many_places
between-given d (till a) (till b) =
    cond-by Given (lt_z (dot d a) (dot d b)) (λ _. many_places) (λ _. cond-by Given (lt_z (dot d b) (dot d a)) (λ _. no_place) (λ _. one_place a))

together-given : (A B : Stretch) → Given (together A B)
together-given A B =
    between-given A.d
    (later A.d A.start (cond (alike A B) B.start B.stop)) (sooner A.d A.stop (cond (alike A B) B.stop B.start))

-- the flags of a given place, by its two numbers
same-given : (a b : Vec) → is_same_point (given a) (given b) ≡ (eq_z a.x b.x && eq_z a.y b.y)
same-given a b = and-true (eq_z a.x b.x && true && eq_z a.y b.y) ∙ ap (λ (t : Bool). t && eq_z a.y b.y) (and-true (eq_z a.x b.x))

own-end : {kind px py qx qy : ℤ} → Numbers kind px py qx qy → (kind ≡ pos 4 → ⊥) → (a : Vec)
    → is_end (figure_of kind px py qx qy) (given a) ≡ own_end kind px py qx qy a.x a.y
own-end {kind} {px} {py} {qx} {qy} h n a =
    still-end h n (given a) refl ∙ (λ i. by_kind kind (same-given a (vec px py) i) (same-given a (vec qx qy) i))

-- ---- two stretches

module _ (joints : Bool) {ka px py qx qy kb rx ry sx sy : ℤ} (h : Numbers ka px py qx qy) (k : Numbers kb rx ry sx sy)
    (n : ka ≡ pos 4 → ⊥) (m : kb ≡ pos 4 → ⊥) where
  abbrev f : Figure
  f = figure_of ka px py qx qy

  abbrev g : Figure
  g = figure_of kb rx ry sx sy

  abbrev A : Stretch
  A = stretch ka px py qx qy

  abbrev B : Stretch
  B = stretch kb rx ry sx sy

  touching : {o : Meeting} → Given o → joint_by f g o ≡ touches ka px py qx qy kb rx ry sx sy o
  touching no_place = refl
  touching many_places = refl
  touching (one_place a) = ap₂ ◌&&◌ (own-end h n a) (own-end k m a)

  module _ (apart : cross A.d B.d ≡ pos 0 → ⊥) where
    abbrev e : Point
    e = divided (meeting_point A B)

    still : is_still e ≡ true
    still =
        let s = standard-divided (meeting-standard A B (proper-way (a_pair h n)) (proper-way (a_pair k m)) apart) in
        simp flags (s.no_mx, s.no_my)

    meeting-ends : (is_end f e && is_end g e) ≡ ends_meet ka A kb B
    meeting-ends =
        let a = a_pair h n in
        let b = a_pair k m in
        ap₂ ◌&&◌
        (still-end h n e still ∙ (λ i. by_kind ka (meets-p a b apart i) (meets-q a b apart i)))
        (still-end k m e still ∙ (λ i. by_kind kb (meets-r a b apart i) (meets-s a b apart i)))

    skew-left : left_out joints (joint_by f g (skew A B)) (skew A B) ≡ left_out joints (ends_meet ka A kb B) (skew A B)
    skew-left =
        let D = cross A.d B.d in
        go (reaches A (sgn D *ℤ cross (A.p ⇀ B.p) B.d) (size D) && reaches B (sgn D *ℤ cross (A.p ⇀ B.p) A.d) (size D))
      where
        go : (t : Bool) → left_out joints (joint_by f g (cond t (point e) none)) (cond t (point e) none)
            ≡ left_out joints (ends_meet ka A kb B) (cond t (point e) none)
        go true = ap (λ (t : Bool). left_out joints t (point e)) meeting-ends
        go false = left-none joints false ∙ sym (left-none joints (ends_meet ka A kb B))

  pub stretches-kept : stretches_kept joints ka px py qx qy kb rx ry sx sy ≡ figures_kept joints f g
  unfolding stretches
  stretches-kept =
      let o = both-stretches h k n m in
      sym ((λ i. left_out joints (joint_by f g (o i)) (o i))
      ∙ go (eq_z (cross A.d B.d) (pos 0)) (λ z. eq_z-false z) (eq_z (cross A.d (A.p ⇀ B.p)) (pos 0)))
    where
      kept_of : Meeting → Meeting
      kept_of o = left_out joints (joint_by f g o) o

      go : (t : Bool) → (t ≡ false → cross A.d B.d ≡ pos 0 → ⊥) → (u : Bool)
          → kept_of (cond t (cond u (together A B) none) (skew A B))
          ≡ cond t (cond u (together_kept joints ka px py qx qy kb rx ry sx sy) none) (skew_kept joints ka px py qx qy kb rx ry sx sy)
      go true z true = ap (λ (t : Bool). left_out joints t (together A B)) (touching (together-given A B))
      go true z false = left-none joints false
      go false z u = skew-left (z refl)

-- the three cases of two stretches
module _ (joints : Bool) (ka px py qx qy kb rx ry sx sy : ℤ) where
  abbrev d : Vec
  d = vec px py ⇀ vec qx qy

  abbrev u : Vec
  u = vec rx ry ⇀ vec sx sy

  pub kept-skew : (cross d u ≡ pos 0 → ⊥) → skew_kept joints ka px py qx qy kb rx ry sx sy ≡ stretches_kept joints ka px py qx qy kb rx ry sx sy
  kept-skew n = sym (simp (ne-eq_z n))

  pub kept-apart : cross d u ≡ pos 0 → (cross d (vec px py ⇀ vec rx ry) ≡ pos 0 → ⊥) → none ≡ stretches_kept joints ka px py qx qy kb rx ry sx sy
  kept-apart e n = sym (simp (eq-eq_z e, ne-eq_z n))

  pub kept-together : cross d u ≡ pos 0 → cross d (vec px py ⇀ vec rx ry) ≡ pos 0
      → together_kept joints ka px py qx qy kb rx ry sx sy ≡ stretches_kept joints ka px py qx qy kb rx ry sx sy
  kept-together e f = sym (simp (eq-eq_z e, eq-eq_z f))

-- ---- answers

-- an answer that says m is that of m
said-by : (F : Crossing → Crossing) (m : Meeting) {o : List ℤ} → crossing_numbers (F (crossing_by m)) ≡ o
    → (r : Crossing) → crossing_numbers r ≡ meeting_numbers m → crossing_numbers (F r) ≡ o
said-by F m h r e = ap (λ (r : Crossing). crossing_numbers (F r)) (share-one r (crossing_by m) (e ∙ sym (crossing-says m))) ∙ h

-- one point, as it is answered
one-said : (e : Point) (t : Bool) → crossing_numbers (cond t crossing.Nothing (crossing.Once e)) ≡ meeting_numbers (cond t none (point e))
one-said e true = refl
one-said e false = refl

pub none_said : (joints ends : Bool) → pos 0 ∷ [] ≡ meeting_numbers (left_out joints ends none)
none_said joints ends = ap meeting_numbers (sym (left-none joints ends))

many-said : (joints : Bool) → pos 2 ∷ [] ≡ meeting_numbers (left_out joints false many)
many-said joints = ap (λ (t : Bool). meeting_numbers (cond t none many)) (sym (and-false (not joints)))

module _ (joints : Bool) where
  pub corner-said : (m : Meeting) (r : Crossing) → crossing_numbers r ≡ meeting_numbers m
      → crossing_numbers (corner_left joints r) ≡ meeting_numbers (corners_left joints m)
  corner-said m = said-by (corner_left joints) m (go m)
    where
      go : (m : Meeting) → crossing_numbers (corner_left joints (crossing_by m)) ≡ meeting_numbers (corners_left joints m)
      go none = none_said joints false
      go (point e) = one-said e (not joints && corner_at e)
      go many = many-said joints

  module _ (ka px py qx qy kb rx ry sx sy : ℤ) where
    abbrev ends : Meeting → Bool
    ends m = touches ka px py qx qy kb rx ry sx sy m

    pub touch-said : (m : Meeting) (r : Crossing) → crossing_numbers r ≡ meeting_numbers m
        → crossing_numbers (touch_left joints ka px py qx qy kb rx ry sx sy r) ≡ meeting_numbers (left_out joints (ends m) m)
    touch-said m = said-by (touch_left joints ka px py qx qy kb rx ry sx sy) m (go m)
      where
        go : (m : Meeting) → crossing_numbers (touch_left joints ka px py qx qy kb rx ry sx sy (crossing_by m)) ≡ meeting_numbers (left_out joints (ends m) m)
        go none = none_said joints false
        go (point e) = one-said e (not joints && ends (point e))
        go many = many-said joints

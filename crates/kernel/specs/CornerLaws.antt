-- Joints with a side of the frame: a point that it shares is an end of the other figure, and so they are a joint exactly where it is a corner. To
-- cite:
--   first-side-kept, second-side-kept   what is left of two figures of which the first, or the second, is a side: all but corners
-- Assumes nothing.
use Rattle.std.specs.Prelude.{◌≡◌, refl, Bool, true, ◌&&◌, ◌||◌, ◌⊎◌, ℤ, pos, negsuc}
use Rattle.std.proofs.Common.{sym, ◌∙◌, ap, ap₂, subst, true≢false, inl, inr}
use Rattle.std.proofs.Math.Bool.{and-true, or-true, and_comm}
use Rattle.whole.specs.Flag.{eq_z}
use Rattle.whole.specs.Tests.{cond-by, eq_z-true}
use Rattle.sheet.specs.declared.Point.{Point}
use Rattle.sheet.specs.Figure.{◌⇀◌, Side, left, bottom, right, top, Figure, segment, ray, line, side, side_of, figure_of}
use Rattle.sheet.proofs.RefusalLaws.{kind-side}
use Rattle.sheet.specs.Points.{given}
use Rattle.sheet.specs.Ends.{far_end, reverse, corner, begins, next_side}
use Rattle.sheet.specs.Crossing.{Meeting, none, point, many, on_side, end_on, sides, with_side}
use Rattle.sheet.specs.Joint.{is_same_point, is_end, joint_by}
use Rattle.sheet.proofs.JointLaws.{same_point}
use Rattle.sheet.specs.Flags.{both, either, same_flag}
use Rattle.kernel.specs.Bounds.{Numbers}
use Rattle.kernel.specs.Stretches.{side-first, side-second}
use Rattle.kernel.specs.Joints.{left_out, figures_kept, is_unit, corner_at, corner_in, corners_left}

-- ---- which points of a side are its ends

data Unit : ℤ → Type 0 where
  plus : Unit (pos 1)
  minus : Unit (negsuc 0)

unit : {m : ℤ} → is_unit m ≡ true → Unit m
unit {m} h = go ((either _ _).0 h)
  where
    go : (eq_z m (pos 1) ≡ true) ⊎ (eq_z m (negsuc 0) ≡ true) → Unit m
    go (inl e) = subst Unit (sym (eq_z-true e)) plus
    go (inr e) = subst Unit (sym (eq_z-true e)) minus

-- of the four corners a side ends in those that are on it
side-ends : (n : Side) {mx my : ℤ} → Unit mx → Unit my → on_side n (corner mx my) ≡ true → is_end (side n) (corner mx my) ≡ true
side-ends left plus plus h = absurd (true≢false (sym h))
side-ends left plus minus h = absurd (true≢false (sym h))
side-ends left minus plus h = refl
side-ends left minus minus h = refl
side-ends bottom plus plus h = absurd (true≢false (sym h))
side-ends bottom minus plus h = absurd (true≢false (sym h))
side-ends bottom plus minus h = refl
side-ends bottom minus minus h = refl
side-ends right minus plus h = absurd (true≢false (sym h))
side-ends right minus minus h = absurd (true≢false (sym h))
side-ends right plus plus h = refl
side-ends right plus minus h = refl
side-ends top plus minus h = absurd (true≢false (sym h))
side-ends top minus minus h = absurd (true≢false (sym h))
side-ends top plus plus h = refl
side-ends top minus plus h = refl

begins-corner : (n : Side) → corner_at (begins n) ≡ true
begins-corner left = refl
begins-corner bottom = refl
begins-corner right = refl
begins-corner top = refl

side-end : (n : Side) (e : Point) → on_side n e ≡ true → is_end (side n) e ≡ corner_at e
side-end n e on = same_flag (is_end (side n) e) (corner_at e) (λ h. there ((either _ _).0 h)) back
  where
    there : (is_same_point e (begins n) ≡ true) ⊎ (is_same_point e (begins (next_side n)) ≡ true) → corner_at e ≡ true
    there (inl h) = ap corner_at ((same_point e (begins n)).0 h) ∙ begins-corner n
    there (inr h) = ap corner_at ((same_point e (begins (next_side n))).0 h) ∙ begins-corner (next_side n)

    back : corner_at e ≡ true → is_end (side n) e ≡ true
    back h =
        let c = simp both at h in
        let z : e ≡ corner e.mx e.my =
        λ i. record {
          mx = e.mx;
          nx = eq_z-true {a = e.nx} {b = pos 0} c.0.1 i;
          my = e.my;
          ny = eq_z-true {a = e.ny} {b = pos 0} c.1 i;
          w = eq_z-true {a = e.w} {b = pos 1} c.0.0.0.0 i;
        }
        in
        ap (is_end (side n)) z
        ∙ side-ends n (unit {m = e.mx} c.0.0.0.1) (unit {m = e.my} c.0.0.1) (subst (λ (s : Point). on_side n s ≡ true) z on)

-- an end of the other figure that is on the side; where nothing or many is shared, none is a corner
data Told (n : Side) (g : Figure) : Meeting → Type 0 where
  no-point : Told n g none
  many_points : Told n g many
  one_point : {e : Point} → (is_end (side n) e && is_end g e) ≡ corner_at e → Told n g (point e)

end-on-told : (n : Side) {g : Figure} (e : Point) {m : Meeting} → is_end g e ≡ true → Told n g m → Told n g (end_on n e m)
end-on-told n {g} e h t =
    cond-by (Told n g) (on_side n e) (λ on. one_point (ap₂ ◌&&◌ (side-end n e on) h ∙ and-true (corner_at e))) (λ _. t)

same_self : (e : Point) → is_same_point e e ≡ true
same_self e = (same_point e e).1 refl

with-side-told : (n : Side) (g : Figure) → Told n g (with_side n g)
unfolding with_side
with-side-told n (segment p q) = no-point
with-side-told n (ray p q) =
    let e = far_end p (p ⇀ q) in
    end-on-told n e (ap (λ (t : Bool). is_same_point e (given p) || t) (same_self e) ∙ or-true (is_same_point e (given p))) no-point
with-side-told n (line p q) =
    let e = far_end p (p ⇀ q) in
    let s = far_end p (reverse (p ⇀ q)) in
    end-on-told n e (ap (λ (t : Bool). is_same_point e s || t) (same_self e) ∙ or-true (is_same_point e s))
    (end-on-told n s (ap (λ (t : Bool). t || is_same_point s e) (same_self s)) no-point)
with-side-told n (side m) = two n m
  where
    two : (n m : Side) → Told n (side m) (sides n m)
    two left left = many_points
    two left bottom = one_point refl
    two left right = no-point
    two left top = one_point refl
    two bottom left = one_point refl
    two bottom bottom = many_points
    two bottom right = one_point refl
    two bottom top = no-point
    two right left = no-point
    two right bottom = one_point refl
    two right right = many_points
    two right top = one_point refl
    two top left = one_point refl
    two top bottom = no-point
    two top right = one_point refl
    two top top = many_points

-- a joint with a side is a corner
corner-first : {n : Side} {g : Figure} {m : Meeting} → Told n g m → joint_by (side n) g m ≡ corner_in m
corner-first no-point = refl
corner-first many_points = refl
corner-first (one_point h) = h

corner-second : {n : Side} {g : Figure} {m : Meeting} → Told n g m → joint_by g (side n) m ≡ corner_in m
corner-second no-point = refl
corner-second many_points = refl
corner-second {n} {g} (one_point {e} h) = and_comm (is_end g e) (is_end (side n) e) ∙ h

module _ (joints : Bool) {ka px py qx qy kb rx ry sx sy : ℤ} (h : Numbers ka px py qx qy) (k : Numbers kb rx ry sx sy) where
  abbrev one : Figure
  one = figure_of ka px py qx qy

  abbrev two : Figure
  two = figure_of kb rx ry sx sy

  pub first-side-kept : ka ≡ pos 4 → corners_left joints (with_side (side_of px) two) ≡ figures_kept joints one two
  first-side-kept e =
      let m = side-first h k e in
      let t = ap (λ (f : Figure). joint_by f two (with_side (side_of px) two)) (kind-side px py qx qy e) ∙ corner-first (with-side-told (side_of px) two) in
      sym ((λ i. left_out joints (joint_by one two (m i)) (m i)) ∙ ap (λ (t : Bool). left_out joints t (with_side (side_of px) two)) t)

  pub second-side-kept : (ka ≡ pos 4 → ⊥) → kb ≡ pos 4 → corners_left joints (with_side (side_of rx) one) ≡ figures_kept joints one two
  second-side-kept n e =
      let m = side-second h k n e in
      let t = ap (λ (g : Figure). joint_by one g (with_side (side_of rx) one)) (kind-side rx ry sx sy e) ∙ corner-second (with-side-told (side_of rx) one) in
      sym ((λ i. left_out joints (joint_by one two (m i)) (m i)) ∙ ap (λ (t : Bool). left_out joints t (with_side (side_of rx) one)) t)

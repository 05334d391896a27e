-- Two objects are near exactly when the extents of their cut pieces overlap or touch. To cite:
--   near-exactly            for every R of 1,000,000,000,000,000 or more, and so for every R of demand 3
--   PlaceOver, place-over   the piece of an object has a place over every x from that of its left end to that of its right end
use Rattle.std.specs.Prelude.{◌≡◌, true, false, ◌⊎◌, ◌↔◌, [], ◌∷◌, ℤ, ◌+ℤ◌, ◌-ℤ◌, ◌*ℤ◌, ◌≤ℤ◌, ◌<ℤ◌}
use Rattle.std.proofs.Common.{sym, inl, inr}
use Rattle.std.proofs.Math.IntN.{pos}
use Rattle.std.specs.Int.Signed.{lt_z_yes, clash_ℤ}
use Rattle.whole.specs.Reify.{reify, reading, solve, val_pos}
use Rattle.whole.specs.Order.{le-cert, lt-cert, le-nn, lt-pp, nn-add, nn-mul, pp-mul, ≤-of, <-≤, <-≤-trans}
use Rattle.whole.specs.Cert.{z-eq, z-add, eq-cert}
use Rattle.whole.specs.Tests.{false_of}
use Rattle.whole.specs.Fraction.{Fraction, Equal, AtMost, Less}
use Rattle.whole.specs.FractionLaws.{equal-sym, at-most-trans, at-most-antisym, at-most-or-less}
use Rattle.sheet.specs.declared.Object.{Object}
use Rattle.sheet.specs.declared.Point.{Point}
use Rattle.sheet.specs.Figure.{Vec, Side, out_x, out_y, Figure, figure}
use Rattle.sheet.specs.Refusal.{Accepted}
use Rattle.sheet.specs.Flags.{neither, isnt}
use Rattle.sheet.specs.Extent.{left_end, right_end, ends_before, near}
use Rattle.cut.specs.Bounds.{order_need}
use Rattle.cut.specs.Place.{Place, Spot, put, place_of}
use Rattle.cut.specs.Cut.{OnLine, Upto, InSquare, OfLine, OnSide, On, on_segment, on_ray, on_line, on-side, Lies}
use Rattle.cut.specs.Extents.{Extends, Overlap}
use Rattle.cut.proofs.Same.{spot_at, place-spot, put-spot, same-sym, on_same, of_segment, of_ray, of_line, of-side}
use Rattle.cut.proofs.LeftLaws.{not-left-most, left-end-fine, right-end-fine}
use Rattle.cut.proofs.ExtentAt.{extent-at, ends-left}

-- ---- a piece has every place between two of it: each of its conditions holds of a sum of both, with weights of 0 or more

module _ (E F : Spot) {i j : ℤ} (ha : pos 0 ≤ℤ i) (hb : pos 0 ≤ℤ j) (above : pos 0 <ℤ (i *ℤ E.W +ℤ j *ℤ F.W)) where
  abbrev mix : Spot
  mix = record { X = i *ℤ E.X +ℤ j *ℤ F.X; Y = i *ℤ E.Y +ℤ j *ℤ F.Y; W = i *ℤ E.W +ℤ j *ℤ F.W; above = above }

  mix-line : {p d : Vec} → OnLine p d E → OnLine p d F → OnLine p d mix
  mix-line {p} {d} e f = record {
    online =
        eq-cert _ (z-add (z-eq i e.online) (z-eq j f.online))
        (reify (i ∷ j ∷ d.x ∷ d.y ∷ p.x ∷ p.y ∷ E.X ∷ E.Y ∷ E.W ∷ F.X ∷ F.Y ∷ F.W ∷ [])
        (λ ρ v. simp (reading, v 0, v 1, v 2, v 3, v 4, v 5, v 6, v 7, v 8, v 9, v 10, v 11) (solve _ _ _ tt)));
  }

  mix-after : {d : Vec} {P : Spot} → Upto d P E → Upto d P F → Upto d P mix
  mix-after {d} {P} e f = record {
    upto =
        le-cert _ (nn-add (nn-mul ha (le-nn e.upto)) (nn-mul hb (le-nn f.upto)))
        (reify (i ∷ j ∷ d.x ∷ d.y ∷ P.X ∷ P.Y ∷ P.W ∷ E.X ∷ E.Y ∷ E.W ∷ F.X ∷ F.Y ∷ F.W ∷ [])
        (λ ρ v. simp (reading, v 0, v 1, v 2, v 3, v 4, v 5, v 6, v 7, v 8, v 9, v 10, v 11, v 12) (solve _ _ _ tt)));
  }

  mix-before : {d : Vec} {P : Spot} → Upto d E P → Upto d F P → Upto d mix P
  mix-before {d} {P} e f = record {
    upto =
        le-cert _ (nn-add (nn-mul ha (le-nn e.upto)) (nn-mul hb (le-nn f.upto)))
        (reify (i ∷ j ∷ d.x ∷ d.y ∷ P.X ∷ P.Y ∷ P.W ∷ E.X ∷ E.Y ∷ E.W ∷ F.X ∷ F.Y ∷ F.W ∷ [])
        (λ ρ v. simp (reading, v 0, v 1, v 2, v 3, v 4, v 5, v 6, v 7, v 8, v 9, v 10, v 11, v 12) (solve _ _ _ tt)));
  }

  mix-square : {R : ℤ} → InSquare R E → InSquare R F → InSquare R mix
  mix-square {R} e f = record {
    inside = λ n.
        le-cert _ (nn-add (nn-mul ha (le-nn (e.inside n))) (nn-mul hb (le-nn (f.inside n))))
        (reify (i ∷ j ∷ R ∷ out_x n ∷ out_y n ∷ E.X ∷ E.Y ∷ E.W ∷ F.X ∷ F.Y ∷ F.W ∷ [])
        (λ ρ v. simp (reading, v 0, v 1, v 2, v 3, v 4, v 5, v 6, v 7, v 8, v 9, v 10) (solve _ _ _ tt)));
  }

  mix-cut : {R : ℤ} {p q : Vec} → OfLine R p q E → OfLine R p q F → OfLine R p q mix
  mix-cut e f = record { on = mix-line e.on f.on; cut = mix-square e.cut f.cut }

  mix-side : {R : ℤ} {n : Side} → OnSide R n E → OnSide R n F → OnSide R n mix
  mix-side {R} {n} e f = record {
    in-square = mix-square e.in-square f.in-square;
    edge =
        eq-cert _ (z-add (z-eq i e.edge) (z-eq j f.edge))
        (reify (i ∷ j ∷ R ∷ out_x n ∷ out_y n ∷ E.X ∷ E.Y ∷ E.W ∷ F.X ∷ F.Y ∷ F.W ∷ [])
        (λ ρ v. simp (reading, v 0, v 1, v 2, v 3, v 4, v 5, v 6, v 7, v 8, v 9, v 10) (solve _ _ _ tt)));
  }

  mix-on : {R : ℤ} {f : Figure} → On R f E → On R f F → On R f mix
  mix-on (on_segment e) h =
      let f = of_segment h in
      on_segment (record {
        on = mix-line e.on f.on;
        not_before_p = mix-after e.not_before_p f.not_before_p;
        not_beyond_q = mix-before e.not_beyond_q f.not_beyond_q;
      })
  mix-on (on_ray e) h =
      let f = of_ray h in on_ray (record { of_line = mix-cut e.of_line f.of_line; from_p = mix-after e.from_p f.from_p })
  mix-on (on_line e) h = on_line (mix-cut e (of_line h))
  mix-on (on-side e) h = on-side (mix-side e (of-side h))

-- ---- a place over every x between

-- a place of the piece of o with this x
pub record PlaceOver (R : ℤ) (o : Object) (x : Fraction) : Type 0 where
  pub place : Place
  pub on_piece : Lies R o place
  pub over : Equal place.across x

-- E is left of F: E with the weight x of F less x, F with the weight x less x of E
module _ (E F : Spot) (x : Fraction) (l : Less (place_of E).across (place_of F).across) where
  abbrev weight_e : ℤ
  weight_e = F.X *ℤ x.den -ℤ x.num *ℤ F.W

  abbrev weight_f : ℤ
  weight_f = x.num *ℤ E.W -ℤ E.X *ℤ x.den

  mix-above : pos 0 <ℤ (weight_e *ℤ E.W +ℤ weight_f *ℤ F.W)
  mix-above =
      lt-cert _ (pp-mul x.above (lt-pp l.less))
      (reify (x.num ∷ x.den ∷ E.X ∷ E.W ∷ F.X ∷ F.W ∷ [])
      (λ ρ v. simp (reading, v 0, v 1, v 2, v 3, v 4, v 5, val_pos ρ) (solve _ _ _ tt)))

  mix-x : (weight_e *ℤ E.X +ℤ weight_f *ℤ F.X) *ℤ x.den ≡ x.num *ℤ (weight_e *ℤ E.W +ℤ weight_f *ℤ F.W)
  mix-x = reify (x.num ∷ x.den ∷ E.X ∷ E.W ∷ F.X ∷ F.W ∷ []) (λ ρ v. simp (reading, v 0, v 1, v 2, v 3, v 4, v 5) (solve _ _ _ tt))

  mix-over : {R : ℤ} {o : Object} → On R (figure o) E → On R (figure o) F → AtMost (place_of E).across x → AtMost x (place_of F).across
      → PlaceOver R o x
  mix-over e f h k = record {
    place = place_of (mix E F (le-nn k.at_most) (le-nn h.at_most) mix-above);
    on_piece = record {
      lies =
          on_same (place-spot (mix E F (le-nn k.at_most) (le-nn h.at_most) mix-above))
          (mix-on E F (le-nn k.at_most) (le-nn h.at_most) mix-above e f);
    };
    over = record { equal = mix-x };
  }

-- where both ends have one x, the left end itself
pub place-over : {R : ℤ} {o : Object} {l r : Point} (e : Extends R o l r) (x : Fraction)
    → AtMost (put R l e.left_above).across x → AtMost x (put R r e.right_above).across → PlaceOver R o x
place-over {R} {o} {l} {r} e x h k = go (at-most-or-less (put R r e.right_above).across (put R l e.left_above).across)
  where
    go : AtMost (put R r e.right_above).across (put R l e.left_above).across
        ⊎ Less (put R l e.left_above).across (put R r e.right_above).across → PlaceOver R o x
    go (inl m) = record { place = put R l e.left_above; on_piece = e.left_on; over = at-most-antisym h (at-most-trans k m) }
    go (inr m) =
        mix-over (spot_at R l e.left_above) (spot_at R r e.right_above) x m
        (on_same (same-sym (put-spot R l e.left_above)) e.left_on.lies)
        (on_same (same-sym (put-spot R r e.right_above)) e.right_on.lies) h k

-- ---- the law

-- what is less is not the same
less-not-equal : {x y : Fraction} → Less x y → Equal x y → ⊥
less-not-equal l e = clash_ℤ l.less (≤-of (sym e.equal))

module _ {R : ℤ} (h_r : pos 1000000000000000 ≤ℤ R) {a b : Object} (s : Accepted a) (t : Accepted b) where
  -- neither ends left of where the other begins: over the left end that is farther right there is a place of the other
  near-overlap : ends_before a b ≡ false → ends_before b a ≡ false → Overlap R a b
  unfolding ends_before
  near-overlap h k = go (at-most-or-less (put R (left_end a) x.left_above).across (put R (left_end b) y.left_above).across)
    where
      need : pos order_need <ℤ R
      need = <-≤-trans (lt_z_yes tt) h_r

      x : Extends R a (left_end a) (right_end a)
      x = extent-at h_r s

      y : Extends R b (left_end b) (right_end b)
      y = extent-at h_r t

      go : AtMost (put R (left_end a) x.left_above).across (put R (left_end b) y.left_above).across
          ⊎ Less (put R (left_end b) y.left_above).across (put R (left_end a) x.left_above).across → Overlap R a b
      go (inl m) =
          let n = (not-left-most need (right-end-fine s).point (left-end-fine t).point x.right_above y.left_above).0 h in
          let z = place-over x (put R (left_end b) y.left_above).across m n in
          record {
            of_first = z.place;
            of_second = put R (left_end b) y.left_above;
            on_first = z.on_piece;
            on_second = y.left_on;
            same_x = z.over;
          }
      go (inr l) =
          let n = (not-left-most need (right-end-fine t).point (left-end-fine s).point y.right_above x.left_above).0 k in
          let z = place-over y (put R (left_end a) x.left_above).across (record { at_most = <-≤ l.less }) n in
          record {
            of_first = put R (left_end a) x.left_above;
            of_second = z.place;
            on_first = x.left_on;
            on_second = z.on_piece;
            same_x = equal-sym z.over;
          }

pub near-exactly : (R : ℤ) → pos 1000000000000000 ≤ℤ R → {a b : Object} → Accepted a → Accepted b → (near a b ≡ true) ↔ Overlap R a b
unfolding near
near-exactly R h_r {a} {b} s t = (there, back)
  where
    there : near a b ≡ true → Overlap R a b
    there h = let n = (neither _ _).0 ((isnt _).0 h) in near-overlap h_r s t n.0 n.1

    back : Overlap R a b → near a b ≡ true
    back w = (isnt _).1 ((neither _ _).1 (false_of _ before, false_of _ behind))
      where
        before : ends_before a b ≡ true → ⊥
        before e = less-not-equal (ends-left h_r s t e w.of_first w.of_second w.on_first w.on_second) w.same_x

        behind : ends_before b a ≡ true → ⊥
        behind e = less-not-equal (ends-left h_r t s e w.of_second w.of_first w.on_second w.on_first) (equal-sym w.same_x)

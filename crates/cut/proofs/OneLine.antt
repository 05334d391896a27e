-- Two stretches of one line: what `together` says of the places that they share in the square. To cite:
--   together-means   for every R of 6,000 or more
use Rattle.std.specs.Prelude.{◌≡◌, refl, ◌↔◌, [], ◌∷◌, Bool, true, false, cond, ℤ, pos, ◌+ℤ◌, ◌*ℤ◌, ◌≤ℤ◌, ◌<ℤ◌}
use Rattle.std.proofs.Common.{subst}
use Rattle.std.specs.Int.Signed.{lt_z, clash_ℤ}
use Rattle.whole.specs.Reify.{reify, reading, solve, val_pos}
use Rattle.whole.specs.Order.{lt-cert, pp-pos, <-≤}
use Rattle.whole.specs.Bound.{w-add, w-sub, w-lit}
use Rattle.whole.specs.Tests.{cond-by, lt_z-true, lt_z-false}
use Rattle.whole.specs.Cert.{z-eq, eq-cert}
use Rattle.sheet.specs.Figure.{Vec}
use Rattle.sheet.proofs.RefusalLaws.{WithinBoth}
use Rattle.sheet.specs.Ends.{moment, reverse}
use Rattle.sheet.proofs.EndsLaws.{Way, given-fine}
use Rattle.sheet.specs.Crossing.{many, Limit, till, Stretch, dot, later, sooner, between, alike, together}
use Rattle.cut.specs.Place.{Spot, fixed}
use Rattle.cut.specs.Cut.{OnLine}
use Rattle.cut.proofs.Same.{same-trans, same-upto-left, given-spot, same-upto}
use Rattle.cut.proofs.Line.{size², upto-refl, upto-trans, online-p, upto-given, given-upto, online-turn, online-back, length-reverse, online-over, other_way, par-sym, par-reverse, dot-comm}
use Rattle.cut.proofs.Square.{near}
use Rattle.cut.proofs.Stretches.{After, after_free, after_till, Before, before_free, before_till, Between, Part, of-after, of-before, part_same, later-both, sooner-both, between-over, between-turn, turn-between, Marked, marked_free, marked_till, Sound}
use Rattle.cut.proofs.Means.{Both, Means, means_none, means_point, means_many, means-map}

-- ---- one part of a line, from the limit l to the limit h

abbrev part : Vec → Vec → Limit → Limit → Stretch
part p d l h = record { p = p; d = d; start = l; stop = h }

-- one step on
abbrev on-by : Vec → Vec → Vec
on-by d a = record { x = a.x +ℤ d.x; y = a.y +ℤ d.y }

online-on : {p d : Vec} (a : Vec) → OnLine p d (fixed a) → OnLine p d (fixed (on-by d a))
online-on {p} {d} a h = record {
  online =
      eq-cert _ (z-eq (pos 1) h.online)
      (reify (d.x ∷ d.y ∷ p.x ∷ p.y ∷ a.x ∷ a.y ∷ []) (λ ρ v. simp (reading, v 0, v 1, v 2, v 3, v 4, v 5, val_pos ρ) (solve _ _ _ tt)));
}

-- and one back
online-behind : {p d : Vec} (a : Vec) → OnLine p d (fixed a) → OnLine p d (fixed (on-by (reverse d) a))
online-behind a h = online-back (online-on a (online-turn h))

module _ {R : ℤ} (h_r : pos 6000 ≤ℤ R) (p d : Vec) (sp : WithinBoth 2000 p) (way : Way d.x d.y (moment p d)) (len : pos 0 <ℤ size² d) where
  further : (a : Vec) → dot d a <ℤ dot d (on-by d a)
  further a = lt-cert _ len (reify (d.x ∷ d.y ∷ a.x ∷ a.y ∷ []) (λ ρ v. simp (reading, v 0, v 1, v 2, v 3) (solve _ _ _ tt)))

  nearer : (a : Vec) → dot d (on-by (reverse d) a) <ℤ dot d a
  nearer a = lt-cert _ len (reify (d.x ∷ d.y ∷ a.x ∷ a.y ∷ []) (λ ρ v. simp (reading, v 0, v 1, v 2, v 3) (solve _ _ _ tt)))

  wide : {a : Vec} → WithinBoth 2000 a → WithinBoth 6000 a
  wide s = record { in_x = w-lit s.in_x tt; in_y = w-lit s.in_y tt }

  small-on : {a : Vec} → WithinBoth 2000 a → WithinBoth 6000 (on-by d a)
  small-on s = record { in_x = w-add s.in_x way.in_dx; in_y = w-add s.in_y way.in_dy }

  small-behind : {a : Vec} → WithinBoth 2000 a → WithinBoth 6000 (on-by (reverse d) a)
  small-behind s = record { in_x = w-sub s.in_x way.in_dx; in_y = w-sub s.in_y way.in_dy }

  -- a given place of the part
  part_at : {l h : Limit} (a : Vec) → OnLine p d (fixed a) → WithinBoth 6000 a → After d l (fixed a) → Before d h (fixed a)
      → Part R (part p d l h) (fixed a)
  part_at a o s f b = record { on = o; between = record { after = f; before = b }; in-square = near s.in_x s.in_y h_r }

  two : {l h : Limit} (a b : Vec) → dot d a <ℤ dot d b → Part R (part p d l h) (fixed a) → Part R (part p d l h) (fixed b)
      → Means R (Part R (part p d l h)) many
  two a b h f g = means_many (fixed a) (fixed b) f g (λ e. clash_ℤ h (given-upto (same-upto-left e (upto-refl d (fixed a)))))

  between-says : {l h : Limit} → Marked p d l → Marked p d h → Means R (Part R (part p d l h)) (between d l h)
  between-says marked_free marked_free =
      two p (on-by d p) (further p) (part_at p (online-p p d) (wide sp) after_free before_free)
      (part_at (on-by d p) (online-on p (online-p p d)) (small-on sp) after_free before_free)
  between-says marked_free (marked_till {a = b} o s) =
      two (on-by (reverse d) b) b (nearer b)
      (part_at (on-by (reverse d) b) (online-behind b o) (small-behind s) after_free (before_till (upto-given (<-≤ (nearer b)))))
      (part_at b o (wide s) after_free (before_till (upto-refl d (fixed b))))
  between-says (marked_till {a = a} o s) marked_free =
      two a (on-by d a) (further a) (part_at a o (wide s) (after_till (upto-refl d (fixed a))) before_free)
      (part_at (on-by d a) (online-on a o) (small-on s) (after_till (upto-given (<-≤ (further a)))) before_free)
  between-says (marked_till {a = a} o s) (marked_till {a = b} o' s') =
      cond-by (Means R (Part R (part p d (till a) (till b)))) (lt_z (dot d a) (dot d b))
      (λ t.
      two a b (lt_z-true t) (part_at a o (wide s) (after_till (upto-refl d (fixed a))) (before_till (upto-given (<-≤ (lt_z-true t)))))
      (part_at b o' (wide s') (after_till (upto-given (<-≤ (lt_z-true t)))) (before_till (upto-refl d (fixed b)))))
      (λ f. cond-by (Means R (Part R (part p d (till a) (till b)))) (lt_z (dot d b) (dot d a))
      (λ t. means_none (λ S c. clash_ℤ (lt_z-true t) (given-upto (upto-trans (of-after c.between.after) (of-before c.between.before)))))
      (λ t.
      means_point (pp-pos 0) (given-fine s).point
      (part_same (given-spot R a) (part_at a o (wide s) (after_till (upto-refl d (fixed a))) (before_till (upto-given (lt_z-false t)))))
      (λ S c.
      same-trans
      (same-upto len c.on o (upto-trans (of-before c.between.before) (upto-given (lt_z-false f))) (of-after c.between.after))
      (given-spot R a))))

marked-cond : {p d : Vec} {l m : Limit} (t : Bool) → Marked p d l → Marked p d m → Marked p d (cond t l m)
marked-cond {p} {d} t a b = cond-by (Marked p d) t (λ e. a) (λ e. b)

marked-later : {p d : Vec} {l m : Limit} → Marked p d l → Marked p d m → Marked p d (later d l m)
marked-later marked_free b = b
marked-later (marked_till o s) marked_free = marked_till o s
marked-later {p} {d} (marked_till {a = a} o s) (marked_till {a = b} o' s') =
    marked-cond (lt_z (dot d a) (dot d b)) (marked_till o' s') (marked_till o s)

marked-sooner : {p d : Vec} {l m : Limit} → Marked p d l → Marked p d m → Marked p d (sooner d l m)
marked-sooner marked_free b = b
marked-sooner (marked_till o s) marked_free = marked_till o s
marked-sooner {p} {d} (marked_till {a = a} o s) (marked_till {a = b} o' s') =
    marked-cond (lt_z (dot d a) (dot d b)) (marked_till o s) (marked_till o' s')

-- ---- two stretches of one line are one part of it

-- B's limits, in A's direction
abbrev low : Stretch → Stretch → Limit
low A B = cond (alike A B) B.start B.stop

abbrev high : Stretch → Stretch → Limit
high A B = cond (alike A B) B.stop B.start

abbrev common : Stretch → Stretch → Stretch
common A B = part A.p A.d (later A.d A.start (low A B)) (sooner A.d A.stop (high A B))

module _ {R : ℤ} (h_r : pos 6000 ≤ℤ R) (A B : Stretch) (f_a : Sound A) (f_b : Sound B) (par : A.d.x *ℤ B.d.y ≡ A.d.y *ℤ B.d.x)
    (one : OnLine A.p A.d (fixed B.p)) where
  to-B : {S : Spot} → OnLine A.p A.d S → OnLine B.p B.d S
  to-B = online-over A.d B.d par f_a.len one

  to-A : {S : Spot} → OnLine B.p B.d S → OnLine A.p A.d S
  to-A = online-over B.d A.d (par-sym A.d B.d par) f_b.len (to-B (online-p A.p A.d))

  read : (S : Spot) → Between A.d (low A B) (high A B) S ↔ Between B.d B.start B.stop S
  read S = go (alike A B) (λ t. lt_z-true t) (λ t. other_way A.d B.d par f_a.len f_b.len (lt_z-false t))
    where
      go : (t : Bool) → (t ≡ true → pos 0 <ℤ dot A.d B.d) → (t ≡ false → pos 0 <ℤ dot A.d (reverse B.d))
          → Between A.d (cond t B.start B.stop) (cond t B.stop B.start) S ↔ Between B.d B.start B.stop S
      go true f g = (
        between-over A.d B.d par f_a.len (f refl),
        between-over B.d A.d (par-sym A.d B.d par) f_b.len (subst (λ (z : ℤ). pos 0 <ℤ z) (dot-comm A.d B.d) (f refl)),
      )
      go false f g =
          let r = reverse B.d in
          let par' = par-reverse A.d B.d par in
          let back = subst (λ (z : ℤ). pos 0 <ℤ z) (dot-comm A.d r) (g refl) in (
            (λ b. turn-between (between-over A.d r par' f_a.len (g refl) b)),
            (λ b. between-over r A.d (par-sym A.d r par') (length-reverse B.d f_b.len) back (between-turn b)),
          )

  marked-A : {l : Limit} → Marked B.p B.d l → Marked A.p A.d l
  marked-A marked_free = marked_free
  marked-A (marked_till o s) = marked_till (to-A o) s

  common-both : (S : Spot) → Part R (common A B) S ↔ Both (Part R A) (Part R B) S
  common-both S = (to, from)
    where
      to : Part R (common A B) S → Both (Part R A) (Part R B) S
      to c =
          let l = (later-both A.d A.start (low A B) S).0 c.between.after in
          let h = (sooner-both A.d A.stop (high A B) S).0 c.between.before in
          record {
            first = record { on = c.on; between = record { after = l.0; before = h.0 }; in-square = c.in-square };
            second = record { on = to-B c.on; between = (read S).0 (record { after = l.1; before = h.1 }); in-square = c.in-square };
          }

      from : Both (Part R A) (Part R B) S → Part R (common A B) S
      from s =
          let b = (read S).1 s.second.between in
          record {
            on = s.first.on;
            between = record {
              after = (later-both A.d A.start (low A B) S).1 (s.first.between.after, b.after);
              before = (sooner-both A.d A.stop (high A B) S).1 (s.first.between.before, b.before);
            };
            in-square = s.first.in-square;
          }

  pub together-means : Means R (Both (Part R A) (Part R B)) (together A B)
  together-means =
      means-map common-both
      (between-says h_r A.p A.d f_a.small_p f_a.way f_a.len
      (marked-later f_a.start_ok (marked-A (marked-cond (alike A B) f_b.start_ok f_b.stop_ok)))
      (marked-sooner f_a.stop_ok (marked-A (marked-cond (alike A B) f_b.stop_ok f_b.start_ok))))

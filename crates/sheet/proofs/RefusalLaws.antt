-- What an accepted object is. To cite:
--   WithinBoth, Proper            both coordinates at most n; two given points within 2,000 that differ
--   kind-segment, kind-ray, kind-line, kind-side   the figure by the kind
--   Shape, shape             five numbers that are not refused, by their kind: what figure they are, and what holds of them
--   by-numbers               the numbers of an accepted object are not refused
--   Taken, accepted-taken    an accepted object by its kind
--   Drawn, accepted-drawn    a figure that a sheet takes: that of an accepted object
--   pair-proper, side-proper, ASide   refusal 0 of a pair, of a side, and what its numbers are then;  side-of  the side of its own number
-- Assumes nothing.
use Rattle.std.specs.Prelude.{◌≡◌, refl, cond, ℕ, zero, suc, ◌+◌, ℤ, pos, ◌+ℤ◌, ◌≤ℤ◌}
use Rattle.std.proofs.Common.{sym, ◌∙◌, ap, subst, arith, leb→le}
use Rattle.whole.specs.Order.{le_dest}
use Rattle.whole.specs.Within.{Within}
use Rattle.whole.specs.Bound.{w-intro}
use Rattle.whole.specs.Flag.{eq_z}
use Rattle.whole.specs.ChoiceLaws.{or-zero}
use Rattle.sheet.specs.declared.Object.{Object}
use Rattle.sheet.specs.Figure.{Vec, Side, left, bottom, right, top, Figure, segment, ray, line, side, vec, side_number, side_of, figure, figure_of}
use Rattle.sheet.specs.Refusal.{pair_refusal, side_refusal, refusal_of, tag_refusal, object_refusal, Accepted}
use Rattle.sheet.specs.Flags.{flags}

-- ---- two given points

-- both coordinates are at most n
pub record WithinBoth (n : ℕ) (a : Vec) : Type 0 where
  pub in_x : Within n a.x
  pub in_y : Within n a.y

-- "each coordinate is from -2,000 to 2,000, both included", and "p and q differ"
pub record Proper (p q : Vec) : Type 0 where
  pub small_p : WithinBoth 2000 p
  pub small_q : WithinBoth 2000 q
  pub differ : p.x ≡ q.x → p.y ≡ q.y → ⊥

pub pair-proper : (p q : Vec) → pair_refusal p.x p.y q.x q.y ≡ pos 0 → Proper p q
unfolding pair_refusal
pair-proper p q h =
    let f = simp flags at h in
    record {
      small_p = record { in_x = w-intro f.0.0.0.0.0 f.0.0.0.0.1; in_y = w-intro f.0.0.0.1.0 f.0.0.0.1.1 };
      small_q = record { in_x = w-intro f.0.0.1.0 f.0.0.1.1; in_y = w-intro f.0.1.0 f.0.1.1 };
      differ = f.1.0;
    }

-- ---- numbers from 1 to 4

pub data OneToFour (z : ℤ) : Type 0 where
  is_1 : z ≡ pos 1 → OneToFour z
  is_2 : z ≡ pos 2 → OneToFour z
  is_3 : z ≡ pos 3 → OneToFour z
  is_4 : z ≡ pos 4 → OneToFour z

pub one-to-four : (z : ℤ) → pos 1 ≤ℤ z → z ≤ℤ pos 4 → OneToFour z
one-to-four z h k = let w = le_dest h in go w.0 w.1
  where
    go : (n : ℕ) → z ≡ pos 1 +ℤ pos n → OneToFour z
    go zero e = is_1 e
    go (suc zero) e = is_2 e
    go (suc (suc zero)) e = is_3 e
    go (suc (suc (suc zero))) e = is_4 e
    go (suc (suc (suc (suc n)))) e =
        let m = leb→le (1 + suc (suc (suc (suc n)))) 4 (subst (λ (x : ℤ). x ≤ℤ pos 4) e k).le in
        absurd (omega arith)

-- ---- sides

pub side-of : (n : Side) → side_of (side_number n) ≡ n
unfolding side_of
side-of left = refl
side-of bottom = refl
side-of right = refl
side-of top = refl

-- what an accepted side's four numbers are
pub record ASide (n a b c : ℤ) : Type 0 where
  pub which : Side
  pub number : n ≡ side_number which
  pub rest : (a ≡ pos 0) × (b ≡ pos 0) × (c ≡ pos 0)

pub side-proper : (n a b c : ℤ) → side_refusal n a b c ≡ pos 0 → ASide n a b c
unfolding side_refusal
side-proper n a b c h =
    let f = simp flags at h in
    go (one-to-four n f.0.0.0.0.0 f.0.0.0.0.1) (f.0.0.0.1, f.0.0.1, f.0.1)
  where
    go : OneToFour n → (a ≡ pos 0) × (b ≡ pos 0) × (c ≡ pos 0) → ASide n a b c
    go (is_1 e) z = record { which = left; number = e; rest = z }
    go (is_2 e) z = record { which = bottom; number = e; rest = z }
    go (is_3 e) z = record { which = right; number = e; rest = z }
    go (is_4 e) z = record { which = top; number = e; rest = z }

-- ---- the figure by the kind

module _ {kind : ℤ} (px py qx qy : ℤ) where
  pub kind-segment : kind ≡ pos 1 → figure_of kind px py qx qy ≡ segment (vec px py) (vec qx qy)
  unfolding figure_of
  kind-segment e = simp e

  pub kind-ray : kind ≡ pos 2 → figure_of kind px py qx qy ≡ ray (vec px py) (vec qx qy)
  unfolding figure_of
  kind-ray e = simp e

  pub kind-line : kind ≡ pos 3 → figure_of kind px py qx qy ≡ line (vec px py) (vec qx qy)
  unfolding figure_of
  kind-line e = simp e

  pub kind-side : kind ≡ pos 4 → figure_of kind px py qx qy ≡ side (side_of px)
  unfolding figure_of
  kind-side e = simp e

-- ---- five numbers that are not refused

pub data Shape (kind px py qx qy : ℤ) : Type 0 where
  a_segment : kind ≡ pos 1 → figure_of kind px py qx qy ≡ segment (vec px py) (vec qx qy) → Proper (vec px py) (vec qx qy) → Shape kind px py qx qy
  a_ray : kind ≡ pos 2 → figure_of kind px py qx qy ≡ ray (vec px py) (vec qx qy) → Proper (vec px py) (vec qx qy) → Shape kind px py qx qy
  a_line : kind ≡ pos 3 → figure_of kind px py qx qy ≡ line (vec px py) (vec qx qy) → Proper (vec px py) (vec qx qy) → Shape kind px py qx qy
  a_side : kind ≡ pos 4 → (s : ASide px py qx qy) → figure_of kind px py qx qy ≡ side s.which → Shape kind px py qx qy

pub shape : {kind px py qx qy : ℤ} → refusal_of kind px py qx qy ≡ pos 0 → Shape kind px py qx qy
shape {kind} {px} {py} {qx} {qy} h = let f = simp flags at h in go (one-to-four kind f.0.0 f.0.1) f.1
  where
    proper : pair_refusal px py qx qy ≡ pos 0 → Proper (vec px py) (vec qx qy)
    proper = pair-proper (vec px py) (vec qx qy)

    go : OneToFour kind → cond (eq_z kind (pos 4)) (side_refusal px py qx qy) (pair_refusal px py qx qy) ≡ pos 0 → Shape kind px py qx qy
    go (is_1 e) r = a_segment e (kind-segment px py qx qy e) (proper (simp e at r))
    go (is_2 e) r = a_ray e (kind-ray px py qx qy e) (proper (simp e at r))
    go (is_3 e) r = a_line e (kind-line px py qx qy e) (proper (simp e at r))
    go (is_4 e) r =
        let s = side-proper px py qx qy (simp e at r) in
        a_side e s (kind-side px py qx qy e ∙ ap (λ (n : ℤ). side (side_of n)) s.number ∙ ap side (side-of s.which))

-- ---- an accepted object

-- from the object to its numbers: nothing else says that its refusal is theirs, and then its tag's
pub by-numbers : {o : Object} → Accepted o → refusal_of o.kind o.px o.py o.qx o.qy ≡ pos 0
unfolding object_refusal
by-numbers {o} a = (or-zero (refusal_of o.kind o.px o.py o.qx o.qy) (tag_refusal o.tag) a.accepted).0

abbrev pub Taken : Object → Type 0
Taken o = Shape o.kind o.px o.py o.qx o.qy

pub accepted-taken : {o : Object} → Accepted o → Taken o
accepted-taken a = shape (by-numbers a)

-- ---- its figure

pub data Drawn : Figure → Type 0 where
  draw_segment : {p q : Vec} → Proper p q → Drawn (segment p q)
  draw_ray : {p q : Vec} → Proper p q → Drawn (ray p q)
  draw_line : {p q : Vec} → Proper p q → Drawn (line p q)
  draw_side : {n : Side} → Drawn (side n)

pub accepted-drawn : {o : Object} → Accepted o → Drawn (figure o)
accepted-drawn {o} a = go (accepted-taken a)
  where
    go : Taken o → Drawn (figure o)
    go (a_segment k e h) = subst Drawn (sym e) (draw_segment h)
    go (a_ray k e h) = subst Drawn (sym e) (draw_ray h)
    go (a_line k e h) = subst Drawn (sym e) (draw_line h)
    go (a_side k s e) = subst Drawn (sym e) draw_side

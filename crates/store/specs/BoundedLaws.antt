-- What the writing functions of the code ask and say. To cite:
--   accepted-bounded   an accepted object's numbers are small
--   small-tag           a tag that is not refused is a small natural number
--   front-written, side-written, pair-written, head-written   the numbers that a form stores are what it writes
-- Assumes nothing.
use Rattle.std.specs.Prelude.{◌≡◌, refl, ℕ, ◌+◌, ◌≤◌, ◌<◌, T, ltb, ℤ, pos, negsuc, nat_abs, ◌-ℤ◌}
use Rattle.std.proofs.Math.Path.{sym, ap}
use Rattle.std.proofs.Common.{subst, ◌∙◌, arith, ltb-false}
use mathlib.Core.List.{List, [], ◌∷◌, ◌++◌, append_assoc, append-nil}
use Rattle.std.specs.Int.Signed.{non_neg}
use Rattle.sheet.specs.declared.Object.{Object}
use Rattle.sheet.specs.Limits.{reach_size, most, last_tag}
use Rattle.sheet.specs.Figure.{vec, Side, left, bottom, right, top, side_number}
use Rattle.sheet.specs.Refusal.{outside, refusal_of, tag_refusal, object_refusal}
use Rattle.sheet.proofs.RefusalLaws.{Proper, Taken, a_segment, a_ray, a_line, a_side, accepted-taken}
use Rattle.whole.specs.ChoiceLaws.{or-zero}
use Rattle.sheet.specs.Flags.{neither, cond-zero}
use Rattle.whole.specs.Within.{Within}
use Rattle.whole.specs.Bound.{w-sub}
use Rattle.whole.specs.Tests.{eq-eq_z, ne-eq_z, eq_z-false}
use Rattle.number.specs.Number.{number_limit, write_number, write_numbers, zigzag}
use Rattle.number.proofs.WrittenLaws.{number-first, number-alone}
use Rattle.number.specs.ZigzagLaws.{zigzag-small}
use Rattle.store.specs.declared.Form.{Form}
use Rattle.store.specs.declared.Form.TheVariants.{Old, New}
use Rattle.store.specs.Forms.{mark, write_mark, write_tag, origin, origin_of}
use Rattle.store.specs.Stored.{write_coordinate, write_point, write_shape}
use Rattle.store.specs.Bounded.{Bounded, front_numbers, pair_numbers, head_numbers}
use Rattle.store.specs.FormsLaws.{small-as, origin-small}

is-above : (n : ℕ) {z : ℤ} → z ≡ pos n → T (non_neg z)
is-above n e = subst (λ (z : ℤ). T (non_neg z)) (sym e) tt

side-small : (n : Side) → nat_abs (side_number n) ≤ reach_size
side-small left = omega arith
side-small bottom = omega arith
side-small right = omega arith
side-small top = omega arith

pub record SmallTag (t : ℤ) : Type 0 where
  pub is : t ≡ pos (nat_abs t)
  pub small : nat_abs t ≤ nat_abs last_tag

pub small-tag : (t : ℤ) → tag_refusal t ≡ pos 0 → SmallTag t
small-tag (pos n) e =
    let fine = ((cond-zero (outside (pos 0) last_tag (pos n)) (pos 15) (pos 0) refl).0 e).0 in
    record { is = refl; small = ltb-false (nat_abs last_tag) n ((neither (ltb n 0) (ltb (nat_abs last_tag) n)).0 fine).1 }
small-tag (negsuc n) e = absurd (eq_z-false {a = pos 15} {b = pos 0} refl e)

pub accepted-bounded : (o : Object) → object_refusal o ≡ pos 0 → Bounded o
unfolding object_refusal
accepted-bounded o e = go (accepted-taken {o = o} (record { accepted = e }))
  where
    tag : SmallTag o.tag
    tag = small-tag o.tag (or-zero (refusal_of o.kind o.px o.py o.qx o.qy) (tag_refusal o.tag) e).1

    pair : (n : ℕ) → n ≤ reach_size → o.kind ≡ pos n → Proper (record { x = o.px; y = o.py }) (record { x = o.qx; y = o.qy }) → Bounded o
    pair n h k p =
        record {
          above = is-above n k;
          kind = small-as k h;
          px = p.small_p.in_x.within;
          py = p.small_p.in_y.within;
          qx = p.small_q.in_x.within;
          qy = p.small_q.in_y.within;
          tag_above = is-above (nat_abs o.tag) tag.is;
          tag = tag.small;
        }

    go : Taken o → Bounded o
    go (a_segment k f p) = pair 1 (omega arith) k p
    go (a_ray k f p) = pair 2 (omega arith) k p
    go (a_line k f p) = pair 3 (omega arith) k p
    go (a_side k s f) =
        record {
          above = is-above 4 k;
          kind = small-as k (omega arith);
          px = small-as s.number (side-small s.which);
          py = small-as s.rest.0 (omega arith);
          qx = small-as s.rest.1 (omega arith);
          qy = small-as s.rest.2 (omega arith);
          tag_above = is-above (nat_abs o.tag) tag.is;
          tag = tag.small;
        }

-- ---- the numbers of an object, written

-- a coordinate counted from a start within the limits is stored as a number that is not too large
far-small : (start z : ℤ) → nat_abs start ≤ reach_size → nat_abs z ≤ reach_size → zigzag (z -ℤ start) < number_limit
far-small start z s h =
    let start-within : Within reach_size start = record { within = s } in
    let z-within : Within reach_size z = record { within = h } in
    omega (arith, zigzag-small (z -ℤ start) (reach_size + reach_size) (w-sub z-within start-within).within)

-- two numbers that are not too large
two-written : (m n : ℕ) → m < number_limit → n < number_limit → write_numbers (m ∷ n ∷ []) ≡ write_number m ++ write_number n
two-written m n h k = number-first h _ ∙ ap (λ (l : List ℕ). write_number m ++ l) (number-alone k)

module _ (o : Object) (b : Bounded o) where
  pub front-written : (f : Form) → write_numbers (front_numbers f o) ≡ write_number (nat_abs o.kind) ++ write_tag f o.tag
  unfolding write_tag
  front-written Old = number-alone (omega (arith, b.kind)) ∙ sym (append-nil (write_number (nat_abs o.kind)))
  front-written New = two-written _ _ (omega (arith, b.kind)) (omega (arith, b.tag))

  pub side-written : (f : Form) → o.kind ≡ pos 4 → write_numbers (nat_abs o.px ∷ []) ≡ write_shape f o.kind o.px o.py o.qx o.qy
  unfolding write_shape
  side-written f e = number-alone (omega (arith, b.px)) ∙ sym (simp (eq-eq_z e))

  pub pair-written : (f : Form) → (o.kind ≡ pos 4 → ⊥) → write_numbers (pair_numbers f o) ≡ write_shape f o.kind o.px o.py o.qx o.qy
  unfolding write_shape
  pair-written f e =
      let px = write_coordinate (pos 0) o.px in
      let py = write_coordinate (pos 0) o.py in
      let q : write_numbers (zigzag (o.qx -ℤ origin f o.px) ∷ zigzag (o.qy -ℤ origin f o.py) ∷ []) ≡ write_point (origin_of f (vec o.px o.py)) (vec o.qx o.qy) =
      two-written _ _ (far-small (origin f o.px) o.qx (origin-small f o.px b.px) b.qx) (far-small (origin f o.py) o.qy (origin-small f o.py b.py) b.qy) in
      number-first (far-small (pos 0) o.px (omega arith) b.px) _
      ∙ ap (λ (l : List ℕ). px ++ l) (number-first (far-small (pos 0) o.py (omega arith) b.py) _)
      ∙ sym (append_assoc px py _)
      ∙ ap (λ (l : List ℕ). (px ++ py) ++ l) q
      ∙ sym (simp (ne-eq_z e))

pub head-written : (f : Form) (n : ℕ) → n ≤ most → write_numbers (head_numbers f n) ≡ write_mark f ++ write_number n
unfolding write_mark
head-written Old n h = number-alone (omega arith)
head-written New n h = two-written mark n (omega arith) (omega arith)

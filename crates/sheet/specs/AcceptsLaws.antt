-- What holds of numbers that are not refused. To cite:
--   passed                                   a test that refuses by n elsewhere, and does not refuse, holds
--   point-taken                              a refusal of 0 says that it is a point
--   order-taken, turn-taken, side-taken, cross-taken   the same of two points, of three narrow points, of an object with a point, of two objects
--   taken-cross                              two objects that are accepted are not refused
-- Assumes nothing.
use Rattle.std.specs.Prelude.{◌≡◌, refl, Bool, true, false, cond, ◌&&◌, ℕ, pos, nat_abs}
use Rattle.std.proofs.Common.{ap, arith}
use Rattle.sheet.specs.declared.Object.{Object}
use Rattle.sheet.specs.declared.Point.{Point}
use Rattle.sheet.specs.Refusal.{object_refusal, Accepted}
use Rattle.sheet.specs.Points.{is_point, narrow, point_refusal}
use Rattle.sheet.specs.Flags.{both}
use Rattle.sheet.specs.Signs.{order_refusal, wide_refusal, turn_refusal, side_sign_refusal}
use Rattle.sheet.specs.Crossing.{crossing_refusal}
use Rattle.whole.specs.ChoiceLaws.{or-zero}

-- 0 where a test holds, and n elsewhere
pub passed : (t : Bool) {n : ℕ} → (n ≡ 0 → ⊥) → cond t (pos 0) (pos n) ≡ pos 0 → t ≡ true
passed true d e = refl
passed false d e = absurd (d (ap nat_abs e))

pub point-taken : (p : Point) → point_refusal p ≡ pos 0 → is_point p ≡ true
unfolding point_refusal
point-taken p h = passed (is_point p) {n = 5} (λ e. omega arith) h

pub order-taken : (p q : Point) → order_refusal p q ≡ pos 0 → (is_point p ≡ true) × (is_point q ≡ true)
unfolding order_refusal
order-taken p q h =
    let f = or-zero (point_refusal p) (point_refusal q) h in
    (point-taken p f.0, point-taken q f.1)

pub turn-taken :
    (p q s : Point) → turn_refusal p q s ≡ pos 0
    → (is_point p ≡ true) × (is_point q ≡ true) × (is_point s ≡ true) × (narrow p ≡ true) × (narrow q ≡ true) × (narrow s ≡ true)
unfolding turn_refusal
turn-taken p q s h =
    let f = or-zero (point_refusal p) _ h in
    let g = or-zero (point_refusal q) _ f.1 in
    let k = or-zero (point_refusal s) (wide_refusal p q s) g.1 in
    let n = simp both at (passed (narrow p && narrow q && narrow s) {n = 6} (λ e. omega arith) k.1) in
    (point-taken p f.0, point-taken q g.0, point-taken s k.0, n.0.0, n.0.1, n.1)

pub side-taken : (o : Object) (s : Point) → side_sign_refusal o s ≡ pos 0 → Accepted o × (is_point s ≡ true)
unfolding side_sign_refusal
side-taken o s h =
    let f = or-zero (object_refusal o) (point_refusal s) h in
    (record { accepted = f.0 }, point-taken s f.1)

pub cross-taken : (a b : Object) → crossing_refusal a b ≡ pos 0 → Accepted a × Accepted b
unfolding crossing_refusal
cross-taken a b h =
    let f = or-zero (object_refusal a) (object_refusal b) h in
    (record { accepted = f.0 }, record { accepted = f.1 })

pub taken-cross : {a b : Object} → Accepted a → Accepted b → crossing_refusal a b ≡ pos 0
unfolding crossing_refusal
taken-cross h k = simp (h.accepted, k.accepted)

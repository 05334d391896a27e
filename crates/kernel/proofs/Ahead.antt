-- The code that goes from a given point p in a direction d, to the far end there. To cite:
--   k_e, four, direction, by-direction   its numbers px, py, dx, dy as locals 0 to 3: k as the code computes it, their bounds, what an
--                           inner function asks of d and k, and that whatever it says of them it says of the numbers
--   is-flat, is_steep       which form the far end has, by the code's test, and that its w is above 0
--   ahead-out, far-out      p and d as they are handed on
--   outward, on-end, off-end   the way out over a side, handed on; the far end is what the side shares, if it is on it
--   m_e, lengths, full-flag  how far d goes that way, by locals ox, oy, dx, dy, and the code's test of that against w
--   place, pair, way, ahead    a given point as it is handed on; p and q of an object as locals 0 to 3, and the direction from p to q
--   swapped, reversed       p and q changed over, and the direction then
--   size-fits               what `abs` asks of dx and dy
--   signed-k                the bounds of the sign of dx or dy, as `sign` gives it, and of k
use mathlib.Core.Path.{◌≡◌, sym, ◌∙◌, ap, ap₂}
use mathlib.Core.Bool.{Bool, true, false, cond}
use mathlib.Core.List.{[], ◌∷◌}
use lib.Dec.{eqb}
use lib.IntN.{ℤ, pos, neg_ℤ, ◌+ℤ◌, ◌-ℤ◌, ◌*ℤ◌}
use lib.Signed.{◌<ℤ◌}
use mir.Syntax.{w64}
use mir.Val.{SFits, of_z}
use Rattle.whole.specs.Laws.{eq-of-sub}
use Rattle.whole.specs.Ring.{Expr, var, ◌⊕◌, ◌⊖◌, ◌⊗◌, ⊝◌, ring}
use Rattle.whole.specs.Flat.{All, none, ◌also◌, mach, raw, need, gives, raw-is, held, back, within-out}
use Rattle.whole.specs.Within.{Within}
use Rattle.whole.specs.Sign.{sgn}
use Rattle.whole.specs.Bound.{fits64, w-is, w-neg, w-sgn}
use Rattle.whole.specs.Flag.{eq_z}
use Rattle.whole.specs.Tests.{out, eq_flag}
use Rattle.sheet.specs.declared.Point.{Point}
use Rattle.sheet.specs.Figure.{Vec, vec, ◌⇀◌}
use Rattle.sheet.specs.Points.{size}
use Rattle.sheet.proofs.RefusalLaws.{WithinBoth, Proper}
use Rattle.sheet.specs.Ends.{moment, flat, steep, far_raw, far_end, reverse}
use Rattle.sheet.specs.Crossing.{Meeting, point}
use Rattle.kernel.specs.Bounds.{Direction, Ahead, Out}
use Rattle.kernel.specs.Forms.{is_flat, flat-form, steep-form}
use Rattle.kernel.specs.Stretches.{on_by, end_by}
use Rattle.kernel.proofs.Eight.{dx_e, dy_e}

pub signed-k : {r k : ℤ} (s : ℤ) → r ≡ sgn s → Within 16000000 k → All (1 ∷ 16000000 ∷ []) (r ∷ k ∷ [])
signed-k s e h = w-is e (w-sgn _) also h also none

pub size-fits : {z : ℤ} → Within 4000 z → SFits w64 (neg_ℤ (out z))
size-fits h = fits64 (w-neg (within-out h tt)) tt

-- dx py - dy px
abbrev pub k_e : Expr
k_e = var 2 ⊗ var 1 ⊖ var 3 ⊗ var 0

module _ {px py dx dy : ℤ} (h : Ahead px py dx dy) where
  pub four : All (2000 ∷ 2000 ∷ 4000 ∷ 4000 ∷ []) (px ∷ py ∷ dx ∷ dy ∷ [])
  four = h.bpx also h.bpy also h.bdx also h.bdy also none

  pub direction : Direction (out dx) (out dy) (mach (px ∷ py ∷ dx ∷ dy ∷ []) k_e)
  direction = record { bdx = held four (var 2) tt; bdy = held four (var 3) tt; bk = held four k_e tt }

  pub by-direction : {A : Type 0} (f : ℤ → ℤ → ℤ → A)
      → f (out dx) (out dy) (mach (px ∷ py ∷ dx ∷ dy ∷ []) k_e) ≡ f dx dy (moment (vec px py) (vec dx dy))
  by-direction f = λ i. f (back h.bdx tt i) (back h.bdy tt i) (gives four k_e tt i)

  -- what the code's test says
  pub is-flat : {t : Bool} → t ≡ is_flat (out dx) (out dy) (mach (px ∷ py ∷ dx ∷ dy ∷ []) k_e) → t ≡ true
      → let k = moment (vec px py) (vec dx dy) in (far_raw dx dy k ≡ flat dx dy k) × (pos 0 <ℤ size dx)
  is-flat e y = flat-form dx dy (moment (vec px py) (vec dx dy)) h.moves (sym (e ∙ by-direction is_flat) ∙ y)

  pub is_steep : {t : Bool} → t ≡ is_flat (out dx) (out dy) (mach (px ∷ py ∷ dx ∷ dy ∷ []) k_e) → t ≡ false
      → let k = moment (vec px py) (vec dx dy) in (far_raw dx dy k ≡ steep dx dy k) × (pos 0 <ℤ size dy)
  is_steep e n = steep-form dx dy (moment (vec px py) (vec dx dy)) h.moves (sym (e ∙ by-direction is_flat) ∙ n)

  pub ahead-out : Ahead (out px) (out py) (out dx) (out dy)
  ahead-out = record {
    bpx = held four (var 0) tt;
    bpy = held four (var 1) tt;
    bdx = held four (var 2) tt;
    bdy = held four (var 3) tt;
    moves = λ e f. h.moves (sym (back h.bdx tt) ∙ e) (sym (back h.bdy tt) ∙ f);
  }

  pub far-out : far_end (vec (out px) (out py)) (vec (out dx) (out dy)) ≡ far_end (vec px py) (vec dx dy)
  far-out = λ i. far_end (vec (back h.bpx tt i) (back h.bpy tt i)) (vec (back h.bdx tt i) (back h.bdy tt i))

pub outward : {ox oy : ℤ} → Out ox oy → Out (out ox) (out oy)
outward o = record { box = within-out o.box tt; boy = within-out o.boy tt }

-- ox dx + oy dy
abbrev pub m_e : Expr
m_e = var 0 ⊗ var 2 ⊕ var 1 ⊗ var 3

module _ {ox oy dx dy k : ℤ} (h : Out ox oy × Direction dx dy k) where
  pub lengths : All (1 ∷ 1 ∷ 4000 ∷ 4000 ∷ []) (ox ∷ oy ∷ dx ∷ dy ∷ [])
  lengths = h.0.box also h.0.boy also h.1.bdx also h.1.bdy also none

  pub full-flag : {w z : ℤ} → SFits w64 w → w ≡ z
      → eqb (of_z w64 (raw (ox ∷ oy ∷ dx ∷ dy ∷ []) m_e)) (of_z w64 w) ≡ eq_z (ox *ℤ dx +ℤ oy *ℤ dy) z
  full-flag f e = eq_flag (need lengths m_e tt) f ∙ ap₂ eq_z (raw-is lengths m_e tt) e

-- the code's test, and what it says
module _ {ox oy px py dx dy : ℤ} {t : Bool} (o : Out ox oy) (h : Ahead px py dx dy)
    (e : t ≡ on_by (out ox) (out oy) (far_end (vec (out px) (out py)) (vec (out dx) (out dy)))) where
  on-flag : on_by ox oy (far_end (vec px py) (vec dx dy)) ≡ t
  on-flag = sym (e ∙ (λ i. on_by (back o.box tt i) (back o.boy tt i) (far-out h i)))

  pub on-end : {q : Point} (m : Meeting) → q ≡ far_end (vec (out px) (out py)) (vec (out dx) (out dy)) → t ≡ true
      → point q ≡ end_by ox oy (far_end (vec px py) (vec dx dy)) m
  on-end m f y = ap point (f ∙ far-out h) ∙ sym (ap (λ (t : Bool). cond t (point (far_end (vec px py) (vec dx dy))) m) (on-flag ∙ y))

  pub off-end : (m : Meeting) → t ≡ false → m ≡ end_by ox oy (far_end (vec px py) (vec dx dy)) m
  off-end m n = sym (ap (λ (t : Bool). cond t (point (far_end (vec px py) (vec dx dy))) m) (on-flag ∙ n))

-- ---- of an object that is no side

pub swapped : {p q : Vec} → Proper p q → Proper q p
swapped h = record { small_p = h.small_q; small_q = h.small_p; differ = λ e f. h.differ (sym e) (sym f) }

pub reversed : (p q : Vec) → q ⇀ p ≡ reverse (p ⇀ q)
reversed p q = λ i. vec (opposite p.x q.x i) (opposite p.y q.y i)
  where
    opposite : (a b : ℤ) → a -ℤ b ≡ neg_ℤ (b -ℤ a)
    opposite a b = ring (a ∷ b ∷ []) (var 0 ⊖ var 1) (⊝ (var 1 ⊖ var 0)) tt

pub place : {p : Vec} → WithinBoth 2000 p → vec (out p.x) (out p.y) ≡ p
place s = λ i. vec (back s.in_x tt i) (back s.in_y tt i)

module _ {p q : Vec} (h : Proper p q) where
  pub pair : All (2000 ∷ 2000 ∷ 2000 ∷ 2000 ∷ []) (p.x ∷ p.y ∷ q.x ∷ q.y ∷ [])
  pair = h.small_p.in_x also h.small_p.in_y also h.small_q.in_x also h.small_q.in_y also none

  pub way : vec (mach (p.x ∷ p.y ∷ q.x ∷ q.y ∷ []) dx_e) (mach (p.x ∷ p.y ∷ q.x ∷ q.y ∷ []) dy_e) ≡ p ⇀ q
  way = λ i. vec (gives pair dx_e tt i) (gives pair dy_e tt i)

  pub ahead : {a : Vec} → WithinBoth 2000 a
      → Ahead (out a.x) (out a.y)
      (mach (p.x ∷ p.y ∷ q.x ∷ q.y ∷ []) dx_e)
      (mach (p.x ∷ p.y ∷ q.x ∷ q.y ∷ []) dy_e)
  ahead s = record {
    bpx = within-out s.in_x tt;
    bpy = within-out s.in_y tt;
    bdx = held pair dx_e tt;
    bdy = held pair dy_e tt;
    moves =
        λ e f. h.differ
        (sym (eq-of-sub _ _ (sym (gives pair dx_e tt) ∙ e)))
        (sym (eq-of-sub _ _ (sym (gives pair dy_e tt) ∙ f)));
  }

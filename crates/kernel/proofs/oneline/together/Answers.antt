-- `together` meets its contract: the kinds pick the limits of the two stretches; `alike` says which of the second one's is a start.
use mathlib.Core.Path.{◌≡◌, refl, ◌∙◌, ap}
use mathlib.Core.Bool.{cond}
use Prim.Native.Nat.{ℕ, ◌^◌}
use lib.Dec.{T, eqb, ltb}
use lib.IntN.{ℤ, pos, neg_ℤ}
use mir.Syntax.{w64}
use mir.Val.{SFits, of_z}
use Rattle.whole.specs.Ring.{Expr, var, lit, ◌⊕◌, ◌⊗◌}
use Rattle.whole.specs.Flat.{need, gives, lt-gives}
use Rattle.whole.specs.Flag.{eq_z}
use Rattle.whole.specs.Tests.{out, out-is, lit-flag, Fit, gave}
use Rattle.sheet.specs.Crossing.{dot}
use Rattle.sheet.specs.Figure.{Vec, vec, ◌⇀◌}
use Rattle.sheet.specs.Answers.{meeting_numbers}
use Rattle.kernel.specs.Stretches.{far, together-alike, together-opposed}
use Rattle.kernel.proofs.Eight.{dx_e, dy_e, fx_e, fy_e}
use Rattle.kernel.proofs.oneline.together.Goals as goal

-- the inner product of d with the place of the locals i and j, and with f
abbrev at_e : ℕ → ℕ → Expr
at_e i j = dx_e ⊗ var i ⊕ dy_e ⊗ var j

abbrev alike_e : Expr
alike_e = dx_e ⊗ fx_e ⊕ dy_e ⊗ fy_e

-- a limit that the kind picks
limit : (n : ℕ) → T (ltb n (2 ^ 63)) → {kind r x y u v : ℤ} → SFits w64 kind → Fit r
    → r ≡ cond (eqb (of_z w64 kind) n) x y → x ≡ u → y ≡ v → out r ≡ cond (eq_z kind (pos n)) u v
limit n t f h e a b = gave h e ∙ (λ i. cond (lit-flag n t f i) (a i) (b i))

pub overflow_sub-dx : goal.overflow_sub-dx
overflow_sub-dx c = need c.requires.near dx_e tt

pub overflow_sub-dy : goal.overflow_sub-dy
overflow_sub-dy c = need c.requires.near dy_e tt

pub overflow_mul-at_p : goal.overflow_mul-at_p
overflow_mul-at_p c = need c.requires.near (dx_e ⊗ var 0) tt

pub overflow_mul-at_p-2 : goal.overflow_mul-at_p-2
overflow_mul-at_p-2 c = need c.requires.near (dy_e ⊗ var 1) tt

pub overflow_add-at_p : goal.overflow_add-at_p
overflow_add-at_p c = need c.requires.near (at_e 0 1) tt

pub overflow_mul-at_q : goal.overflow_mul-at_q
overflow_mul-at_q c = need c.requires.near (dx_e ⊗ var 2) tt

pub overflow_mul-at_q-2 : goal.overflow_mul-at_q-2
overflow_mul-at_q-2 c = need c.requires.near (dy_e ⊗ var 3) tt

pub overflow_add-at_q : goal.overflow_add-at_q
overflow_add-at_q c = need c.requires.near (at_e 2 3) tt

pub overflow_mul-at_r : goal.overflow_mul-at_r
overflow_mul-at_r c = need c.requires.near (dx_e ⊗ var 4) tt

pub overflow_mul-at_r-2 : goal.overflow_mul-at_r-2
overflow_mul-at_r-2 c = need c.requires.near (dy_e ⊗ var 5) tt

pub overflow_add-at_r : goal.overflow_add-at_r
overflow_add-at_r c = need c.requires.near (at_e 4 5) tt

pub overflow_mul-at_s : goal.overflow_mul-at_s
overflow_mul-at_s c = need c.requires.near (dx_e ⊗ var 6) tt

pub overflow_mul-at_s-2 : goal.overflow_mul-at_s-2
overflow_mul-at_s-2 c = need c.requires.near (dy_e ⊗ var 7) tt

pub overflow_add-at_s : goal.overflow_add-at_s
overflow_add-at_s c = need c.requires.near (at_e 6 7) tt

pub overflow_sub-fx : goal.overflow_sub-fx
overflow_sub-fx c = need c.requires.near fx_e tt

pub overflow_sub-fy : goal.overflow_sub-fy
overflow_sub-fy c = need c.requires.near fy_e tt

pub overflow_mul-alike : goal.overflow_mul-alike
overflow_mul-alike c = need c.requires.near (dx_e ⊗ fx_e) tt

pub overflow_mul-alike-2 : goal.overflow_mul-alike-2
overflow_mul-alike-2 c = need c.requires.near (dy_e ⊗ fy_e) tt

pub overflow_add-alike : goal.overflow_add-alike
overflow_add-alike c = need c.requires.near alike_e tt

pub returns-then-alike-gt0 : goal.returns-then-alike-gt0
returns-then-alike-gt0 c =
    let p : Vec = vec c.args.px c.args.py in
    let q : Vec = vec c.args.qx c.args.qy in
    let lo : out c.pick-lo.result ≡ cond (eq_z c.args.ka (pos 3)) (neg_ℤ far) (dot (p ⇀ q) p) = limit 3 tt c.ranges.ka c.pick-lo.type_inv c.pick-lo.ensures refl (gives c.requires.near (at_e 0 1) tt) in
    let hi : out c.pick-hi.result ≡ cond (eq_z c.args.ka (pos 1)) (dot (p ⇀ q) q) far = limit 1 tt c.ranges.ka c.pick-hi.type_inv c.pick-hi.ensures (gives c.requires.near (at_e 2 3) tt) refl in
    let b = c.requires.near in
    let one = c.pick-low in
    let two = c.pick-high in
    c.overlap.ensures
    ∙ ap meeting_numbers (together-alike
    c.args.ka c.args.px c.args.py c.args.qx c.args.qy
    c.args.kb c.args.rx c.args.ry c.args.sx c.args.sy c.requires
    lo hi (λ i. vec (out-is c.ranges.px i) (out-is c.ranges.py i))
    (limit 3 tt c.ranges.kb one.type_inv one.ensures refl (gives b (at_e 4 5) tt))
    (limit 1 tt c.ranges.kb two.type_inv two.ensures (gives b (at_e 6 7) tt) refl)
    (λ i. vec (out-is c.ranges.rx i) (out-is c.ranges.ry i))
    (lt-gives b (lit 0) alike_e tt tt c.if-alike-gt0.true))

pub returns : goal.returns
returns c =
    let p : Vec = vec c.args.px c.args.py in
    let q : Vec = vec c.args.qx c.args.qy in
    let lo : out c.pick-lo.result ≡ cond (eq_z c.args.ka (pos 3)) (neg_ℤ far) (dot (p ⇀ q) p) = limit 3 tt c.ranges.ka c.pick-lo.type_inv c.pick-lo.ensures refl (gives c.requires.near (at_e 0 1) tt) in
    let hi : out c.pick-hi.result ≡ cond (eq_z c.args.ka (pos 1)) (dot (p ⇀ q) q) far = limit 1 tt c.ranges.ka c.pick-hi.type_inv c.pick-hi.ensures (gives c.requires.near (at_e 2 3) tt) refl in
    let b = c.requires.near in
    let one = c.pick-low-2 in
    let two = c.pick-high-2 in
    c.overlap-2.ensures
    ∙ ap meeting_numbers (together-opposed
    c.args.ka c.args.px c.args.py c.args.qx c.args.qy
    c.args.kb c.args.rx c.args.ry c.args.sx c.args.sy c.requires
    lo hi (λ i. vec (out-is c.ranges.px i) (out-is c.ranges.py i))
    (limit 1 tt c.ranges.kb one.type_inv one.ensures (gives b (at_e 6 7) tt) refl)
    (limit 3 tt c.ranges.kb two.type_inv two.ensures refl (gives b (at_e 4 5) tt))
    (λ i. vec (out-is c.ranges.sx i) (out-is c.ranges.sy i))
    (lt-gives b (lit 0) alike_e tt tt c.if-alike-gt0.false))

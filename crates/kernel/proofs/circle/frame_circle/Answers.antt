-- `frame_circle` meets its contract: products of six coordinates fit; `lead` takes the turn, and then the opposite of two signs' product.
use mathlib.Core.Path.{◌≡◌, sym, ◌∙◌, ap, ap₂}
use mathlib.Core.List.{[], ◌∷◌}
use lib.IntN.{ℤ, neg_ℤ, ◌*ℤ◌, +ℤ_idl}
use Rattle.whole.specs.Sign.{sgn}
use Rattle.whole.specs.SignLaws.{sgn-neg-eq, sgn-mul, sgn-sgn}
use Rattle.whole.specs.Choice.{or_else}
use Rattle.whole.specs.ChoiceLaws.{or-sgn}
use Rattle.whole.specs.Bound.{w-is, w-sgn}
use Rattle.whole.specs.Ring.{var, lit, ◌⊖◌, ◌⊗◌}
use Rattle.whole.specs.Flat.{All, none, ◌also◌, need, gives, held}
use Rattle.sheet.specs.declared.Point.{Point}
use Rattle.sheet.specs.Figure.{vec}
use Rattle.sheet.specs.Points.{given}
use Rattle.sheet.specs.Signs.{turn}
use Rattle.sheet.specs.Expansions.{pair-side-is}
use Rattle.sheet.specs.CircleForms.{turns, inner}
use Rattle.kernel.specs.Forms.{pair_side}
use Rattle.kernel.proofs.Coordinates.{lead_is}
use Rattle.kernel.proofs.Seen.{ax_e, ay_e, bx_e, by_e, turn_e, inner_e}
use Rattle.kernel.proofs.circle.frame_circle.Goals as goal

-- the opposite of a product of signs is a sign
is-sign : (j t : ℤ) → sgn t ≡ t → sgn (neg_ℤ (sgn j *ℤ t)) ≡ neg_ℤ (sgn j *ℤ t)
is-sign j t e = sgn-neg-eq (sgn j *ℤ t) ∙ ap neg_ℤ (sgn-mul (sgn j) t ∙ ap₂ (λ (x y : ℤ). x *ℤ y) (sgn-sgn j) e)

pub overflow_sub-ax : goal.overflow_sub-ax
overflow_sub-ax c = need c.requires.0.near ax_e tt

pub overflow_sub-ay : goal.overflow_sub-ay
overflow_sub-ay c = need c.requires.0.near ay_e tt

pub overflow_sub-bx : goal.overflow_sub-bx
overflow_sub-bx c = need c.requires.0.near bx_e tt

pub overflow_sub-by : goal.overflow_sub-by
overflow_sub-by c = need c.requires.0.near by_e tt

pub overflow_mul-turn_p : goal.overflow_mul-turn_p
overflow_mul-turn_p c = need c.requires.0.near (ax_e ⊗ by_e) tt

pub overflow_mul-turn_p-2 : goal.overflow_mul-turn_p-2
overflow_mul-turn_p-2 c = need c.requires.0.near (ay_e ⊗ bx_e) tt

pub overflow_sub-turn_p : goal.overflow_sub-turn_p
overflow_sub-turn_p c = need c.requires.0.near turn_e tt

pub overflow_mul-inner_p : goal.overflow_mul-inner_p
overflow_mul-inner_p c = need c.requires.0.near (ax_e ⊗ bx_e) tt

pub overflow_mul-inner_p-2 : goal.overflow_mul-inner_p-2
overflow_mul-inner_p-2 c = need c.requires.0.near (ay_e ⊗ by_e) tt

pub overflow_add-inner_p : goal.overflow_add-inner_p
overflow_add-inner_p c = need c.requires.0.near inner_e tt

pub pair_side-requires : goal.pair_side-requires
pair_side-requires c =
    let h = c.requires in
    let b = h.0.near in (
      record { bpx = held b (var 2) tt; bpy = held b (var 3) tt; bqx = held b (var 4) tt; bqy = held b (var 5) tt },
      h.1,
      h.2,
    )

pub overflow_mul-seen : goal.overflow_mul-seen
overflow_mul-seen c =
    let parts : All (1 ∷ 1 ∷ []) (c.sign.result ∷ c.pair_side.result ∷ []) = w-is c.sign.ensures (w-sgn _) also w-is (c.pair_side.ensures ∙ sym (or-sgn _ _)) (w-sgn _) also none in
    need parts (var 0 ⊗ var 1) tt

pub overflow_sub-seen : goal.overflow_sub-seen
overflow_sub-seen c =
    let parts : All (1 ∷ 1 ∷ []) (c.sign.result ∷ c.pair_side.result ∷ []) = w-is c.sign.ensures (w-sgn _) also w-is (c.pair_side.ensures ∙ sym (or-sgn _ _)) (w-sgn _) also none in
    need parts (lit 0 ⊖ var 0 ⊗ var 1) tt

pub returns : goal.returns
returns c =
    let parts : All (1 ∷ 1 ∷ []) (c.sign.result ∷ c.pair_side.result ∷ []) = w-is c.sign.ensures (w-sgn _) also w-is (c.pair_side.ensures ∙ sym (or-sgn _ _)) (w-sgn _) also none in
    let a = c.args in
    let b = c.requires.0.near in
    let p = vec a.px a.py in
    let q = vec a.qx a.qy in
    let r = vec a.sx a.sy in
    let u : Point = a.u in
    let side = pair-side-is q r u in
    let j = c.sign.ensures ∙ ap sgn (gives b inner_e tt) in
    let t =
    c.pair_side.ensures
    ∙ (λ i. pair_side (gives b (var 2) tt i) (gives b (var 3) tt i) (gives b (var 4) tt i) (gives b (var 5) tt i)
    u.mx u.nx u.my u.ny u.w)
    ∙ sym side
    in
    lead_is c.lead.type_inv c.lead.ensures (gives b turn_e tt)
    (gives parts (lit 0 ⊖ var 0 ⊗ var 1) tt ∙ +ℤ_idl (neg_ℤ (c.sign.result *ℤ c.pair_side.result)) ∙ (λ i. neg_ℤ (j i *ℤ t i)))
    ∙ ap (or_else (sgn (turns p q r))) (is-sign (inner p q r) (turn (given q) (given r) u) (ap sgn side ∙ or-sgn _ _ ∙ sym side))

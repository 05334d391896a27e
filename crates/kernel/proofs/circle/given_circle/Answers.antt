-- `given_circle` meets its contract: every product of differences of eight coordinates fits, and its sum is the form of four given points.
use mathlib.Core.Path.{◌∙◌, ap}
use Rattle.whole.specs.Sign.{sgn}
use Rattle.whole.specs.Ring.{Expr, var, ◌⊕◌, ◌⊖◌, ◌⊗◌}
use Rattle.whole.specs.Flat.{need, gives}
use Rattle.whole.specs.Tests.{gave}
use Rattle.kernel.proofs.Seen.{ax_e, ay_e, bx_e, by_e, turn_e, inner_e}
use Rattle.kernel.proofs.circle.given_circle.Goals as goal

-- seen from u, whose numbers are locals 6 and 7
abbrev cx_e : Expr
cx_e = var 2 ⊖ var 6

abbrev cy_e : Expr
cy_e = var 3 ⊖ var 7

abbrev ex_e : Expr
ex_e = var 4 ⊖ var 6

abbrev ey_e : Expr
ey_e = var 5 ⊖ var 7

abbrev turn_ue : Expr
turn_ue = cx_e ⊗ ey_e ⊖ cy_e ⊗ ex_e

abbrev inner_ue : Expr
inner_ue = cx_e ⊗ ex_e ⊕ cy_e ⊗ ey_e

pub overflow_sub-ax : goal.overflow_sub-ax
overflow_sub-ax c = need c.requires.near ax_e tt

pub overflow_sub-ay : goal.overflow_sub-ay
overflow_sub-ay c = need c.requires.near ay_e tt

pub overflow_sub-bx : goal.overflow_sub-bx
overflow_sub-bx c = need c.requires.near bx_e tt

pub overflow_sub-by : goal.overflow_sub-by
overflow_sub-by c = need c.requires.near by_e tt

pub overflow_sub-cx : goal.overflow_sub-cx
overflow_sub-cx c = need c.requires.near cx_e tt

pub overflow_sub-cy : goal.overflow_sub-cy
overflow_sub-cy c = need c.requires.near cy_e tt

pub overflow_sub-ex : goal.overflow_sub-ex
overflow_sub-ex c = need c.requires.near ex_e tt

pub overflow_sub-ey : goal.overflow_sub-ey
overflow_sub-ey c = need c.requires.near ey_e tt

pub overflow_mul-turn_p : goal.overflow_mul-turn_p
overflow_mul-turn_p c = need c.requires.near (ax_e ⊗ by_e) tt

pub overflow_mul-turn_p-2 : goal.overflow_mul-turn_p-2
overflow_mul-turn_p-2 c = need c.requires.near (ay_e ⊗ bx_e) tt

pub overflow_sub-turn_p : goal.overflow_sub-turn_p
overflow_sub-turn_p c = need c.requires.near turn_e tt

pub overflow_mul-inner_p : goal.overflow_mul-inner_p
overflow_mul-inner_p c = need c.requires.near (ax_e ⊗ bx_e) tt

pub overflow_mul-inner_p-2 : goal.overflow_mul-inner_p-2
overflow_mul-inner_p-2 c = need c.requires.near (ay_e ⊗ by_e) tt

pub overflow_add-inner_p : goal.overflow_add-inner_p
overflow_add-inner_p c = need c.requires.near inner_e tt

pub overflow_mul-turn_u : goal.overflow_mul-turn_u
overflow_mul-turn_u c = need c.requires.near (cx_e ⊗ ey_e) tt

pub overflow_mul-turn_u-2 : goal.overflow_mul-turn_u-2
overflow_mul-turn_u-2 c = need c.requires.near (cy_e ⊗ ex_e) tt

pub overflow_sub-turn_u : goal.overflow_sub-turn_u
overflow_sub-turn_u c = need c.requires.near turn_ue tt

pub overflow_mul-inner_u : goal.overflow_mul-inner_u
overflow_mul-inner_u c = need c.requires.near (cx_e ⊗ ex_e) tt

pub overflow_mul-inner_u-2 : goal.overflow_mul-inner_u-2
overflow_mul-inner_u-2 c = need c.requires.near (cy_e ⊗ ey_e) tt

pub overflow_add-inner_u : goal.overflow_add-inner_u
overflow_add-inner_u c = need c.requires.near inner_ue tt

pub overflow_mul-turn_p-3 : goal.overflow_mul-turn_p-3
overflow_mul-turn_p-3 c = need c.requires.near (turn_e ⊗ inner_ue) tt

pub overflow_mul-inner_p-3 : goal.overflow_mul-inner_p-3
overflow_mul-inner_p-3 c = need c.requires.near (inner_e ⊗ turn_ue) tt

pub overflow_sub-turn_p-2 : goal.overflow_sub-turn_p-2
overflow_sub-turn_p-2 c = need c.requires.near (turn_e ⊗ inner_ue ⊖ inner_e ⊗ turn_ue) tt

pub returns : goal.returns
returns c = gave c.sign.type_inv c.sign.ensures ∙ ap sgn (gives c.requires.near (turn_e ⊗ inner_ue ⊖ inner_e ⊗ turn_ue) tt)

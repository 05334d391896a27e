-- `pair_side` meets its contract: the products of nine numbers fit, and b and c are the coefficients of `pair_side`.
use mathlib.Core.List.{[], ◌∷◌}
use Rattle.whole.specs.Ring.{Expr, var, ◌⊖◌, ◌⊗◌}
use Rattle.whole.specs.Flat.{All, none, ◌also◌, need, gives}
use Rattle.kernel.proofs.Eight.{dx_e, dy_e}
use Rattle.kernel.proofs.Coordinates.{lead_is}
use Rattle.kernel.proofs.signs.pair_side.Goals as goal

abbrev k_e : Expr
k_e = dx_e ⊗ var 1 ⊖ dy_e ⊗ var 0

abbrev b_e : Expr
b_e = dx_e ⊗ var 6 ⊖ dy_e ⊗ var 4

abbrev c_e : Expr
c_e = dx_e ⊗ var 7 ⊖ dy_e ⊗ var 5 ⊖ var 8 ⊗ k_e

pub overflow_sub-dx : goal.overflow_sub-dx
overflow_sub-dx c =
    let nine : All (2000 ∷ 2000 ∷ 2000 ∷ 2000 ∷ 4000 ∷ 64000000000 ∷ 4000 ∷ 64000000000 ∷ 32000000 ∷ [])
    (c.args.px ∷ c.args.py ∷ c.args.qx ∷ c.args.qy ∷ c.args.s.mx ∷ c.args.s.nx ∷ c.args.s.my ∷ c.args.s.ny ∷ c.args.s.w ∷ []) =
    c.requires.0.bpx also c.requires.0.bpy also c.requires.0.bqx also c.requires.0.bqy
    also c.requires.1.bm also c.requires.1.bn also c.requires.2.bm also c.requires.2.bn also c.requires.2.bw also none in
    need nine dx_e tt

pub overflow_sub-dy : goal.overflow_sub-dy
overflow_sub-dy c =
    let nine : All (2000 ∷ 2000 ∷ 2000 ∷ 2000 ∷ 4000 ∷ 64000000000 ∷ 4000 ∷ 64000000000 ∷ 32000000 ∷ [])
    (c.args.px ∷ c.args.py ∷ c.args.qx ∷ c.args.qy ∷ c.args.s.mx ∷ c.args.s.nx ∷ c.args.s.my ∷ c.args.s.ny ∷ c.args.s.w ∷ []) =
    c.requires.0.bpx also c.requires.0.bpy also c.requires.0.bqx also c.requires.0.bqy
    also c.requires.1.bm also c.requires.1.bn also c.requires.2.bm also c.requires.2.bn also c.requires.2.bw also none in
    need nine dy_e tt

pub overflow_mul-k : goal.overflow_mul-k
overflow_mul-k c =
    let nine : All (2000 ∷ 2000 ∷ 2000 ∷ 2000 ∷ 4000 ∷ 64000000000 ∷ 4000 ∷ 64000000000 ∷ 32000000 ∷ [])
    (c.args.px ∷ c.args.py ∷ c.args.qx ∷ c.args.qy ∷ c.args.s.mx ∷ c.args.s.nx ∷ c.args.s.my ∷ c.args.s.ny ∷ c.args.s.w ∷ []) =
    c.requires.0.bpx also c.requires.0.bpy also c.requires.0.bqx also c.requires.0.bqy
    also c.requires.1.bm also c.requires.1.bn also c.requires.2.bm also c.requires.2.bn also c.requires.2.bw also none in
    need nine (dx_e ⊗ var 1) tt

pub overflow_mul-k-2 : goal.overflow_mul-k-2
overflow_mul-k-2 c =
    let nine : All (2000 ∷ 2000 ∷ 2000 ∷ 2000 ∷ 4000 ∷ 64000000000 ∷ 4000 ∷ 64000000000 ∷ 32000000 ∷ [])
    (c.args.px ∷ c.args.py ∷ c.args.qx ∷ c.args.qy ∷ c.args.s.mx ∷ c.args.s.nx ∷ c.args.s.my ∷ c.args.s.ny ∷ c.args.s.w ∷ []) =
    c.requires.0.bpx also c.requires.0.bpy also c.requires.0.bqx also c.requires.0.bqy
    also c.requires.1.bm also c.requires.1.bn also c.requires.2.bm also c.requires.2.bn also c.requires.2.bw also none in
    need nine (dy_e ⊗ var 0) tt

pub overflow_sub-k : goal.overflow_sub-k
overflow_sub-k c =
    let nine : All (2000 ∷ 2000 ∷ 2000 ∷ 2000 ∷ 4000 ∷ 64000000000 ∷ 4000 ∷ 64000000000 ∷ 32000000 ∷ [])
    (c.args.px ∷ c.args.py ∷ c.args.qx ∷ c.args.qy ∷ c.args.s.mx ∷ c.args.s.nx ∷ c.args.s.my ∷ c.args.s.ny ∷ c.args.s.w ∷ []) =
    c.requires.0.bpx also c.requires.0.bpy also c.requires.0.bqx also c.requires.0.bqy
    also c.requires.1.bm also c.requires.1.bn also c.requires.2.bm also c.requires.2.bn also c.requires.2.bw also none in
    need nine k_e tt

pub overflow_mul-b : goal.overflow_mul-b
overflow_mul-b c =
    let nine : All (2000 ∷ 2000 ∷ 2000 ∷ 2000 ∷ 4000 ∷ 64000000000 ∷ 4000 ∷ 64000000000 ∷ 32000000 ∷ [])
    (c.args.px ∷ c.args.py ∷ c.args.qx ∷ c.args.qy ∷ c.args.s.mx ∷ c.args.s.nx ∷ c.args.s.my ∷ c.args.s.ny ∷ c.args.s.w ∷ []) =
    c.requires.0.bpx also c.requires.0.bpy also c.requires.0.bqx also c.requires.0.bqy
    also c.requires.1.bm also c.requires.1.bn also c.requires.2.bm also c.requires.2.bn also c.requires.2.bw also none in
    need nine (dx_e ⊗ var 6) tt

pub overflow_mul-b-2 : goal.overflow_mul-b-2
overflow_mul-b-2 c =
    let nine : All (2000 ∷ 2000 ∷ 2000 ∷ 2000 ∷ 4000 ∷ 64000000000 ∷ 4000 ∷ 64000000000 ∷ 32000000 ∷ [])
    (c.args.px ∷ c.args.py ∷ c.args.qx ∷ c.args.qy ∷ c.args.s.mx ∷ c.args.s.nx ∷ c.args.s.my ∷ c.args.s.ny ∷ c.args.s.w ∷ []) =
    c.requires.0.bpx also c.requires.0.bpy also c.requires.0.bqx also c.requires.0.bqy
    also c.requires.1.bm also c.requires.1.bn also c.requires.2.bm also c.requires.2.bn also c.requires.2.bw also none in
    need nine (dy_e ⊗ var 4) tt

pub overflow_sub-b : goal.overflow_sub-b
overflow_sub-b c =
    let nine : All (2000 ∷ 2000 ∷ 2000 ∷ 2000 ∷ 4000 ∷ 64000000000 ∷ 4000 ∷ 64000000000 ∷ 32000000 ∷ [])
    (c.args.px ∷ c.args.py ∷ c.args.qx ∷ c.args.qy ∷ c.args.s.mx ∷ c.args.s.nx ∷ c.args.s.my ∷ c.args.s.ny ∷ c.args.s.w ∷ []) =
    c.requires.0.bpx also c.requires.0.bpy also c.requires.0.bqx also c.requires.0.bqy
    also c.requires.1.bm also c.requires.1.bn also c.requires.2.bm also c.requires.2.bn also c.requires.2.bw also none in
    need nine b_e tt

pub overflow_mul-c : goal.overflow_mul-c
overflow_mul-c c =
    let nine : All (2000 ∷ 2000 ∷ 2000 ∷ 2000 ∷ 4000 ∷ 64000000000 ∷ 4000 ∷ 64000000000 ∷ 32000000 ∷ [])
    (c.args.px ∷ c.args.py ∷ c.args.qx ∷ c.args.qy ∷ c.args.s.mx ∷ c.args.s.nx ∷ c.args.s.my ∷ c.args.s.ny ∷ c.args.s.w ∷ []) =
    c.requires.0.bpx also c.requires.0.bpy also c.requires.0.bqx also c.requires.0.bqy
    also c.requires.1.bm also c.requires.1.bn also c.requires.2.bm also c.requires.2.bn also c.requires.2.bw also none in
    need nine (dx_e ⊗ var 7) tt

pub overflow_mul-c-2 : goal.overflow_mul-c-2
overflow_mul-c-2 c =
    let nine : All (2000 ∷ 2000 ∷ 2000 ∷ 2000 ∷ 4000 ∷ 64000000000 ∷ 4000 ∷ 64000000000 ∷ 32000000 ∷ [])
    (c.args.px ∷ c.args.py ∷ c.args.qx ∷ c.args.qy ∷ c.args.s.mx ∷ c.args.s.nx ∷ c.args.s.my ∷ c.args.s.ny ∷ c.args.s.w ∷ []) =
    c.requires.0.bpx also c.requires.0.bpy also c.requires.0.bqx also c.requires.0.bqy
    also c.requires.1.bm also c.requires.1.bn also c.requires.2.bm also c.requires.2.bn also c.requires.2.bw also none in
    need nine (dy_e ⊗ var 5) tt

pub overflow_sub-c : goal.overflow_sub-c
overflow_sub-c c =
    let nine : All (2000 ∷ 2000 ∷ 2000 ∷ 2000 ∷ 4000 ∷ 64000000000 ∷ 4000 ∷ 64000000000 ∷ 32000000 ∷ [])
    (c.args.px ∷ c.args.py ∷ c.args.qx ∷ c.args.qy ∷ c.args.s.mx ∷ c.args.s.nx ∷ c.args.s.my ∷ c.args.s.ny ∷ c.args.s.w ∷ []) =
    c.requires.0.bpx also c.requires.0.bpy also c.requires.0.bqx also c.requires.0.bqy
    also c.requires.1.bm also c.requires.1.bn also c.requires.2.bm also c.requires.2.bn also c.requires.2.bw also none in
    need nine (dx_e ⊗ var 7 ⊖ dy_e ⊗ var 5) tt

pub overflow_mul-c-3 : goal.overflow_mul-c-3
overflow_mul-c-3 c =
    let nine : All (2000 ∷ 2000 ∷ 2000 ∷ 2000 ∷ 4000 ∷ 64000000000 ∷ 4000 ∷ 64000000000 ∷ 32000000 ∷ [])
    (c.args.px ∷ c.args.py ∷ c.args.qx ∷ c.args.qy ∷ c.args.s.mx ∷ c.args.s.nx ∷ c.args.s.my ∷ c.args.s.ny ∷ c.args.s.w ∷ []) =
    c.requires.0.bpx also c.requires.0.bpy also c.requires.0.bqx also c.requires.0.bqy
    also c.requires.1.bm also c.requires.1.bn also c.requires.2.bm also c.requires.2.bn also c.requires.2.bw also none in
    need nine (var 8 ⊗ k_e) tt

pub overflow_sub-c-2 : goal.overflow_sub-c-2
overflow_sub-c-2 c =
    let nine : All (2000 ∷ 2000 ∷ 2000 ∷ 2000 ∷ 4000 ∷ 64000000000 ∷ 4000 ∷ 64000000000 ∷ 32000000 ∷ [])
    (c.args.px ∷ c.args.py ∷ c.args.qx ∷ c.args.qy ∷ c.args.s.mx ∷ c.args.s.nx ∷ c.args.s.my ∷ c.args.s.ny ∷ c.args.s.w ∷ []) =
    c.requires.0.bpx also c.requires.0.bpy also c.requires.0.bqx also c.requires.0.bqy
    also c.requires.1.bm also c.requires.1.bn also c.requires.2.bm also c.requires.2.bn also c.requires.2.bw also none in
    need nine c_e tt

pub returns : goal.returns
returns c =
    let nine : All (2000 ∷ 2000 ∷ 2000 ∷ 2000 ∷ 4000 ∷ 64000000000 ∷ 4000 ∷ 64000000000 ∷ 32000000 ∷ [])
    (c.args.px ∷ c.args.py ∷ c.args.qx ∷ c.args.qy ∷ c.args.s.mx ∷ c.args.s.nx ∷ c.args.s.my ∷ c.args.s.ny ∷ c.args.s.w ∷ []) =
    c.requires.0.bpx also c.requires.0.bpy also c.requires.0.bqx also c.requires.0.bqy
    also c.requires.1.bm also c.requires.1.bn also c.requires.2.bm also c.requires.2.bn also c.requires.2.bw also none in
    lead_is c.lead.type_inv c.lead.ensures (gives nine b_e tt) (gives nine c_e tt)

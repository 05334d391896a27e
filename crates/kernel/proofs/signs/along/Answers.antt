-- `along` meets its contract: both differences of products fit, and `lead` takes them in turn.
use mathlib.Core.List.{[], ◌∷◌}
use Rattle.whole.specs.Ring.{Expr, var, ◌⊖◌, ◌⊗◌}
use Rattle.whole.specs.Flat.{All, none, ◌also◌, need, gives}
use Rattle.kernel.proofs.Coordinates.{lead_is}
use Rattle.kernel.proofs.signs.along.Goals as goal

abbrev a_e : Expr
a_e = var 0 ⊗ var 5 ⊖ var 3 ⊗ var 2

abbrev b_e : Expr
b_e = var 1 ⊗ var 5 ⊖ var 4 ⊗ var 2

pub overflow_mul-a : goal.overflow_mul-a
overflow_mul-a c =
    let six : All (4000 ∷ 64000000000 ∷ 32000000 ∷ 4000 ∷ 64000000000 ∷ 32000000 ∷ [])
    (c.args.m ∷ c.args.n ∷ c.args.w ∷ c.args.m2 ∷ c.args.n2 ∷ c.args.w2 ∷ []) = c.requires.0.bm also c.requires.0.bn also c.requires.0.bw also c.requires.1.bm also c.requires.1.bn also c.requires.1.bw also none in
    need six (var 0 ⊗ var 5) tt

pub overflow_mul-a-2 : goal.overflow_mul-a-2
overflow_mul-a-2 c =
    let six : All (4000 ∷ 64000000000 ∷ 32000000 ∷ 4000 ∷ 64000000000 ∷ 32000000 ∷ [])
    (c.args.m ∷ c.args.n ∷ c.args.w ∷ c.args.m2 ∷ c.args.n2 ∷ c.args.w2 ∷ []) = c.requires.0.bm also c.requires.0.bn also c.requires.0.bw also c.requires.1.bm also c.requires.1.bn also c.requires.1.bw also none in
    need six (var 3 ⊗ var 2) tt

pub overflow_sub-a : goal.overflow_sub-a
overflow_sub-a c =
    let six : All (4000 ∷ 64000000000 ∷ 32000000 ∷ 4000 ∷ 64000000000 ∷ 32000000 ∷ [])
    (c.args.m ∷ c.args.n ∷ c.args.w ∷ c.args.m2 ∷ c.args.n2 ∷ c.args.w2 ∷ []) = c.requires.0.bm also c.requires.0.bn also c.requires.0.bw also c.requires.1.bm also c.requires.1.bn also c.requires.1.bw also none in
    need six a_e tt

pub overflow_mul-b : goal.overflow_mul-b
overflow_mul-b c =
    let six : All (4000 ∷ 64000000000 ∷ 32000000 ∷ 4000 ∷ 64000000000 ∷ 32000000 ∷ [])
    (c.args.m ∷ c.args.n ∷ c.args.w ∷ c.args.m2 ∷ c.args.n2 ∷ c.args.w2 ∷ []) = c.requires.0.bm also c.requires.0.bn also c.requires.0.bw also c.requires.1.bm also c.requires.1.bn also c.requires.1.bw also none in
    need six (var 1 ⊗ var 5) tt

pub overflow_mul-b-2 : goal.overflow_mul-b-2
overflow_mul-b-2 c =
    let six : All (4000 ∷ 64000000000 ∷ 32000000 ∷ 4000 ∷ 64000000000 ∷ 32000000 ∷ [])
    (c.args.m ∷ c.args.n ∷ c.args.w ∷ c.args.m2 ∷ c.args.n2 ∷ c.args.w2 ∷ []) = c.requires.0.bm also c.requires.0.bn also c.requires.0.bw also c.requires.1.bm also c.requires.1.bn also c.requires.1.bw also none in
    need six (var 4 ⊗ var 2) tt

pub overflow_sub-b : goal.overflow_sub-b
overflow_sub-b c =
    let six : All (4000 ∷ 64000000000 ∷ 32000000 ∷ 4000 ∷ 64000000000 ∷ 32000000 ∷ [])
    (c.args.m ∷ c.args.n ∷ c.args.w ∷ c.args.m2 ∷ c.args.n2 ∷ c.args.w2 ∷ []) = c.requires.0.bm also c.requires.0.bn also c.requires.0.bw also c.requires.1.bm also c.requires.1.bn also c.requires.1.bw also none in
    need six b_e tt

pub returns : goal.returns
returns c =
    let six : All (4000 ∷ 64000000000 ∷ 32000000 ∷ 4000 ∷ 64000000000 ∷ 32000000 ∷ [])
    (c.args.m ∷ c.args.n ∷ c.args.w ∷ c.args.m2 ∷ c.args.n2 ∷ c.args.w2 ∷ []) = c.requires.0.bm also c.requires.0.bn also c.requires.0.bw also c.requires.1.bm also c.requires.1.bn also c.requires.1.bw also none in
    lead_is c.lead.type_inv c.lead.ensures (gives six a_e tt) (gives six b_e tt)

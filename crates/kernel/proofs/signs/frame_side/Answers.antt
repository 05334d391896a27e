-- `frame_side` meets its contract: the tests of n are those of `side_of`, and each answer is that side's expansion.
use mathlib.Core.Path.{sym, ◌∙◌, ap}
use mathlib.Core.List.{[], ◌∷◌}
use lib.IntN.{ℤ, neg_ℤ, +ℤ_idl}
use Rattle.whole.specs.Ring.{var, lit, ◌⊕◌, ◌⊖◌}
use Rattle.whole.specs.Flat.{All, none, ◌also◌, need, gives}
use Rattle.sheet.specs.declared.Point.{Point}
use Rattle.sheet.specs.Figure.{Side, side}
use Rattle.sheet.specs.Signs.{side_of_figure}
use Rattle.sheet.specs.Expansions.{left-side-is, bottom-side-is, right-side-is, top-side-is}
use Rattle.kernel.specs.Kinds.{side-one, side-two, side-three, side-four}
use Rattle.kernel.proofs.Coordinates.{lead_is}
use Rattle.kernel.proofs.signs.frame_side.Goals as goal

pub overflow_add-s : goal.overflow_add-s
overflow_add-s c =
    let five : All (4000 ∷ 64000000000 ∷ 4000 ∷ 64000000000 ∷ 32000000 ∷ []) (c.args.s.mx ∷ c.args.s.nx ∷ c.args.s.my ∷ c.args.s.ny ∷ c.args.s.w ∷ []) = c.requires.0.bm also c.requires.0.bn also c.requires.1.bm also c.requires.1.bn also c.requires.1.bw also none in
    need five (var 0 ⊕ var 4) tt

pub returns-then-n-eq1 : goal.returns-then-n-eq1
returns-then-n-eq1 c =
    let point : Point = c.args.s in
    let sign-for : Side → ℤ = λ n. side_of_figure (side n) point in
    let five : All (4000 ∷ 64000000000 ∷ 4000 ∷ 64000000000 ∷ 32000000 ∷ []) (c.args.s.mx ∷ c.args.s.nx ∷ c.args.s.my ∷ c.args.s.ny ∷ c.args.s.w ∷ []) = c.requires.0.bm also c.requires.0.bn also c.requires.1.bm also c.requires.1.bn also c.requires.1.bw also none in
    lead_is c.lead.type_inv c.lead.ensures (gives five (var 0 ⊕ var 4) tt) (gives five (var 1) tt)
    ∙ sym (ap sign-for (side-one c.ranges.n c.if-n-eq1.true) ∙ left-side-is point)

pub overflow_add-s-then-n-eq2 : goal.overflow_add-s-then-n-eq2
overflow_add-s-then-n-eq2 c =
    let five : All (4000 ∷ 64000000000 ∷ 4000 ∷ 64000000000 ∷ 32000000 ∷ []) (c.args.s.mx ∷ c.args.s.nx ∷ c.args.s.my ∷ c.args.s.ny ∷ c.args.s.w ∷ []) = c.requires.0.bm also c.requires.0.bn also c.requires.1.bm also c.requires.1.bn also c.requires.1.bw also none in
    need five (var 2 ⊕ var 4) tt

pub returns-then-n-eq2 : goal.returns-then-n-eq2
returns-then-n-eq2 c =
    let point : Point = c.args.s in
    let sign-for : Side → ℤ = λ n. side_of_figure (side n) point in
    let five : All (4000 ∷ 64000000000 ∷ 4000 ∷ 64000000000 ∷ 32000000 ∷ []) (c.args.s.mx ∷ c.args.s.nx ∷ c.args.s.my ∷ c.args.s.ny ∷ c.args.s.w ∷ []) = c.requires.0.bm also c.requires.0.bn also c.requires.1.bm also c.requires.1.bn also c.requires.1.bw also none in
    lead_is c.lead-then-n-eq2.type_inv c.lead-then-n-eq2.ensures (gives five (var 2 ⊕ var 4) tt) (gives five (var 3) tt)
    ∙ sym (ap sign-for (side-two c.ranges.n c.if-n-eq2.true) ∙ bottom-side-is point)

pub overflow_sub-s : goal.overflow_sub-s
overflow_sub-s c =
    let five : All (4000 ∷ 64000000000 ∷ 4000 ∷ 64000000000 ∷ 32000000 ∷ []) (c.args.s.mx ∷ c.args.s.nx ∷ c.args.s.my ∷ c.args.s.ny ∷ c.args.s.w ∷ []) = c.requires.0.bm also c.requires.0.bn also c.requires.1.bm also c.requires.1.bn also c.requires.1.bw also none in
    need five (var 4 ⊖ var 0) tt

pub overflow_sub-s-then-n-eq3 : goal.overflow_sub-s-then-n-eq3
overflow_sub-s-then-n-eq3 c =
    let five : All (4000 ∷ 64000000000 ∷ 4000 ∷ 64000000000 ∷ 32000000 ∷ []) (c.args.s.mx ∷ c.args.s.nx ∷ c.args.s.my ∷ c.args.s.ny ∷ c.args.s.w ∷ []) = c.requires.0.bm also c.requires.0.bn also c.requires.1.bm also c.requires.1.bn also c.requires.1.bw also none in
    need five (lit 0 ⊖ var 1) tt

pub returns-then-n-eq3 : goal.returns-then-n-eq3
returns-then-n-eq3 c =
    let point : Point = c.args.s in
    let sign-for : Side → ℤ = λ n. side_of_figure (side n) point in
    let five : All (4000 ∷ 64000000000 ∷ 4000 ∷ 64000000000 ∷ 32000000 ∷ []) (c.args.s.mx ∷ c.args.s.nx ∷ c.args.s.my ∷ c.args.s.ny ∷ c.args.s.w ∷ []) = c.requires.0.bm also c.requires.0.bn also c.requires.1.bm also c.requires.1.bn also c.requires.1.bw also none in
    lead_is c.lead-then-n-eq3.type_inv c.lead-then-n-eq3.ensures (gives five (var 4 ⊖ var 0) tt) (gives five (lit 0 ⊖ var 1) tt ∙ +ℤ_idl (neg_ℤ c.args.s.nx))
    ∙ sym (ap sign-for (side-three c.ranges.n c.if-n-eq3.true) ∙ right-side-is point)

pub overflow_sub-s-2 : goal.overflow_sub-s-2
overflow_sub-s-2 c =
    let five : All (4000 ∷ 64000000000 ∷ 4000 ∷ 64000000000 ∷ 32000000 ∷ []) (c.args.s.mx ∷ c.args.s.nx ∷ c.args.s.my ∷ c.args.s.ny ∷ c.args.s.w ∷ []) = c.requires.0.bm also c.requires.0.bn also c.requires.1.bm also c.requires.1.bn also c.requires.1.bw also none in
    need five (var 4 ⊖ var 2) tt

pub overflow_sub-s-3 : goal.overflow_sub-s-3
overflow_sub-s-3 c =
    let five : All (4000 ∷ 64000000000 ∷ 4000 ∷ 64000000000 ∷ 32000000 ∷ []) (c.args.s.mx ∷ c.args.s.nx ∷ c.args.s.my ∷ c.args.s.ny ∷ c.args.s.w ∷ []) = c.requires.0.bm also c.requires.0.bn also c.requires.1.bm also c.requires.1.bn also c.requires.1.bw also none in
    need five (lit 0 ⊖ var 3) tt

pub returns : goal.returns
returns c =
    let point : Point = c.args.s in
    let sign-for : Side → ℤ = λ n. side_of_figure (side n) point in
    let five : All (4000 ∷ 64000000000 ∷ 4000 ∷ 64000000000 ∷ 32000000 ∷ []) (c.args.s.mx ∷ c.args.s.nx ∷ c.args.s.my ∷ c.args.s.ny ∷ c.args.s.w ∷ []) = c.requires.0.bm also c.requires.0.bn also c.requires.1.bm also c.requires.1.bn also c.requires.1.bw also none in
    lead_is c.lead-2.type_inv c.lead-2.ensures (gives five (var 4 ⊖ var 2) tt) (gives five (lit 0 ⊖ var 3) tt ∙ +ℤ_idl (neg_ℤ c.args.s.ny))
    ∙ sym (ap sign-for (side-four c.args.n c.if-n-eq1.false c.if-n-eq2.false c.if-n-eq3.false) ∙ top-side-is point)

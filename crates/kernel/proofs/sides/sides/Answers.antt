-- `sides` meets its contract: the inner product of the two ways out fits, and its tests are those of `sides_by`.
use mathlib.Core.Path.{◌≡◌, sym, ◌∙◌, ap}
use mathlib.Core.List.{[], ◌∷◌}
use lib.IntN.{ℤ, pos, ◌+ℤ◌, ◌*ℤ◌}
use Rattle.whole.specs.Ring.{Expr, var, lit, ◌⊕◌, ◌⊗◌}
use Rattle.whole.specs.Flat.{All, none, ◌also◌, need, gives, lt-gives, eq-gives, ne-gives}
use Rattle.whole.specs.Tests.{eq-eq_z, ne-eq_z}
use Rattle.sheet.specs.Ends.{corner}
use Rattle.sheet.specs.Crossing.{point}
use Rattle.sheet.specs.Answers.{meeting_numbers}
use Rattle.kernel.specs.Bounds.{Out}
use Rattle.kernel.specs.Stretches.{sides_by}
use Rattle.kernel.proofs.sides.sides.Goals as goal

units : {ox oy ux uy : ℤ} → Out ox oy → Out ux uy → All (1 ∷ 1 ∷ 1 ∷ 1 ∷ []) (ox ∷ oy ∷ ux ∷ uy ∷ [])
units h k = h.box also h.boy also k.box also k.boy also none

abbrev alike_e : Expr
alike_e = var 0 ⊗ var 2 ⊕ var 1 ⊗ var 3

touching : (ox oy ux uy : ℤ) → ox *ℤ ux +ℤ oy *ℤ uy ≡ pos 0 → sides_by ox oy ux uy ≡ point (corner (ox +ℤ ux) (oy +ℤ uy))
touching ox oy ux uy e = simp (eq-eq_z e)

pub overflow_mul-alike : goal.overflow_mul-alike
overflow_mul-alike c = need (units c.requires.out c.requires.out_2) (var 0 ⊗ var 2) tt

pub overflow_mul-alike-2 : goal.overflow_mul-alike-2
overflow_mul-alike-2 c = need (units c.requires.out c.requires.out_2) (var 1 ⊗ var 3) tt

pub overflow_add-alike : goal.overflow_add-alike
overflow_add-alike c = need (units c.requires.out c.requires.out_2) alike_e tt

pub overflow_add-mx : goal.overflow_add-mx
overflow_add-mx c = need (units c.requires.out c.requires.out_2) (var 0 ⊕ var 2) tt

pub overflow_add-my : goal.overflow_add-my
overflow_add-my c = need (units c.requires.out c.requires.out_2) (var 1 ⊕ var 3) tt

pub returns-then-alike-eq0 : goal.returns-then-alike-eq0
returns-then-alike-eq0 c =
    let b = units c.requires.out c.requires.out_2 in
    (λ i. meeting_numbers (point (c.corner-e.ensures i)))
    ∙ (λ i. meeting_numbers (point (corner (gives b (var 0 ⊕ var 2) tt i) (gives b (var 1 ⊕ var 3) tt i))))
    ∙ sym (ap meeting_numbers (touching c.args.ox c.args.oy c.args.ux c.args.uy (eq-gives b alike_e (lit 0) tt tt c.if-alike-eq0.true)))

pub returns-then-alike-gt0 : goal.returns-then-alike-gt0
returns-then-alike-gt0 c =
    let b = units c.requires.out c.requires.out_2 in
    sym (simp (ne-eq_z (ne-gives b alike_e (lit 0) tt tt c.if-alike-eq0.false), lt-gives b (lit 0) alike_e tt tt c.if-alike-gt0.true))

pub returns : goal.returns
returns c =
    let b = units c.requires.out c.requires.out_2 in
    sym (simp (ne-eq_z (ne-gives b alike_e (lit 0) tt tt c.if-alike-eq0.false), lt-gives b (lit 0) alike_e tt tt c.if-alike-gt0.false))

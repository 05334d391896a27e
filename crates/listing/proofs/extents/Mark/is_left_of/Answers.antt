-- `is_left_of` meets its contract: no product reaches a limit, so the two tests are those of the numbers.
use Rattle.std.specs.Prelude.{List, [], ◌∷◌, ℤ, pos}
use Rattle.std.specs.Int.Signed.{lt_z}
use Rattle.whole.specs.Ring.{Expr, var, lit, ◌⊖◌, ◌⊗◌}
use Rattle.whole.specs.Flat.{All, none, ◌also◌, need, gives, eq-gives, ne-gives}
use Rattle.whole.specs.Tests.{eq-eq_z, ne-eq_z}
use Rattle.listing.specs.declared.extents.Mark.{Mark}
use Rattle.listing.specs.Marks.{Sound, is_left_mark}
use Rattle.listing.proofs.extents.Mark.is_left_of.Goals as goal

abbrev numbers : Mark → Mark → List ℤ
numbers a b = a.m ∷ a.n ∷ a.w ∷ b.m ∷ b.n ∷ b.w ∷ []

six : {a b : Mark} → Sound a × Sound b → All (4000 ∷ 8000000 ∷ 4000 ∷ 4000 ∷ 8000000 ∷ 4000 ∷ []) (numbers a b)
six (p, q) = p.in_m also p.in_n also p.in-w also q.in_m also q.in_n also q.in-w also none

abbrev a_e : Expr
a_e = var 0 ⊗ var 5 ⊖ var 3 ⊗ var 2

abbrev b_e : Expr
b_e = var 1 ⊗ var 5 ⊖ var 4 ⊗ var 2

pub overflow_sub-a : goal.overflow_sub-a
overflow_sub-a c = need (six c.requires) a_e tt

pub overflow_mul-b : goal.overflow_mul-b
overflow_mul-b c = need (six c.requires) (var 1 ⊗ var 5) tt

pub overflow_mul-b-2 : goal.overflow_mul-b-2
overflow_mul-b-2 c = need (six c.requires) (var 4 ⊗ var 2) tt

pub overflow_sub-b : goal.overflow_sub-b
overflow_sub-b c = need (six c.requires) b_e tt

pub returns-then-a-eq0 : goal.returns-then-a-eq0
unfolding is_left_mark
returns-then-a-eq0 c =
    let z = eq-eq_z (eq-gives (six c.requires) a_e (lit 0) tt tt c.if-a-eq0.true) in
    simp z (λ i. lt_z (gives (six c.requires) b_e tt i) (pos 0))

pub returns : goal.returns
unfolding is_left_mark
returns c =
    let z = ne-eq_z (ne-gives (six c.requires) a_e (lit 0) tt tt c.if-a-eq0.false) in
    simp z (λ i. lt_z (gives (six c.requires) a_e tt i) (pos 0))

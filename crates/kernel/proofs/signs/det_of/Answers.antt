-- `det_of` meets its contract: every product of the nine numbers fits, and their sum is the determinant.
use Rattle.whole.specs.Ring.{var, ◌⊖◌, ◌⊗◌}
use Rattle.whole.specs.Flat.{need, gives}
use Rattle.kernel.proofs.Det.{rows, one, two, three, det_e}
use Rattle.kernel.proofs.signs.det_of.Goals as goal

pub overflow_mul-one : goal.overflow_mul-one
overflow_mul-one c = need (rows c.requires) (var 4 ⊗ var 8) tt

pub overflow_mul-one-2 : goal.overflow_mul-one-2
overflow_mul-one-2 c = need (rows c.requires) (var 7 ⊗ var 5) tt

pub overflow_sub-one : goal.overflow_sub-one
overflow_sub-one c = need (rows c.requires) one tt

pub overflow_mul-two : goal.overflow_mul-two
overflow_mul-two c = need (rows c.requires) (var 1 ⊗ var 8) tt

pub overflow_mul-two-2 : goal.overflow_mul-two-2
overflow_mul-two-2 c = need (rows c.requires) (var 7 ⊗ var 2) tt

pub overflow_sub-two : goal.overflow_sub-two
overflow_sub-two c = need (rows c.requires) two tt

pub overflow_mul-three : goal.overflow_mul-three
overflow_mul-three c = need (rows c.requires) (var 1 ⊗ var 5) tt

pub overflow_mul-three-2 : goal.overflow_mul-three-2
overflow_mul-three-2 c = need (rows c.requires) (var 4 ⊗ var 2) tt

pub overflow_sub-three : goal.overflow_sub-three
overflow_sub-three c = need (rows c.requires) three tt

pub overflow_mul-result : goal.overflow_mul-result
overflow_mul-result c = need (rows c.requires) (var 0 ⊗ one) tt

pub overflow_mul-result-2 : goal.overflow_mul-result-2
overflow_mul-result-2 c = need (rows c.requires) (var 3 ⊗ two) tt

pub overflow_sub-result : goal.overflow_sub-result
overflow_sub-result c = need (rows c.requires) (var 0 ⊗ one ⊖ var 3 ⊗ two) tt

pub overflow_mul-result-3 : goal.overflow_mul-result-3
overflow_mul-result-3 c = need (rows c.requires) (var 6 ⊗ three) tt

pub overflow_add-result : goal.overflow_add-result
overflow_add-result c = need (rows c.requires) det_e tt

pub returns : goal.returns
returns c = gives (rows c.requires) det_e tt

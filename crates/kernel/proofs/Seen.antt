-- The code that sees q and s from p: its numbers px, py, qx, qy, sx, sy as locals 0 to 5, and what it computes of them. To cite:
--   ax_e, ay_e, bx_e, by_e      the ways from p to q and from p to s, as the code writes them
--   turn_e, inner_e           their turn and their inner product
use Rattle.whole.specs.Ring.{Expr, var, ◌⊕◌, ◌⊖◌, ◌⊗◌}

abbrev pub ax_e : Expr
ax_e = var 2 ⊖ var 0

abbrev pub ay_e : Expr
ay_e = var 3 ⊖ var 1

abbrev pub bx_e : Expr
bx_e = var 4 ⊖ var 0

abbrev pub by_e : Expr
by_e = var 5 ⊖ var 1

abbrev pub turn_e : Expr
turn_e = ax_e ⊗ by_e ⊖ ay_e ⊗ bx_e

abbrev pub inner_e : Expr
inner_e = ax_e ⊗ bx_e ⊕ ay_e ⊗ by_e

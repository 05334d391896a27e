-- `check_one` meets its contract: a given point is a point; of the others `check_point` says it.
use mathlib.Core.Path.{sym, ◌∙◌}
use Rattle.sheet.proofs.CircleLaws.{given-taken}
use Rattle.kernel.proofs.circle.check_one.Goals as goal

pub returns-then-is_given : goal.returns-then-is_given
returns-then-is_given c = sym (given-taken c.args.p (sym c.is_given.ensures ∙ c.if-is_given.true))

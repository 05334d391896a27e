-- `check_point` meets its contract: it is refused by the definition's test.
use mathlib.Core.Path.{sym, ◌∙◌}
use Rattle.sheet.specs.Points.{point_refusal}
use Rattle.kernel.proofs.points.check_point.Goals as goal

pub returns-then-is_point : goal.returns-then-is_point
unfolding point_refusal
returns-then-is_point c = simp (sym c.is_point.ensures ∙ c.if-is_point.true)

pub returns : goal.returns
unfolding point_refusal
returns c = simp (sym c.is_point.ensures ∙ c.if-is_point.false)

-- `object_at` meets its contract: an index past the end gives what stands at the end, which is nothing.
use mathlib.Core.Path.{◌∙◌}
use native.Mathlib.Omega.{arith}
use Rattle.sheet.specs.ListsLaws.{object-past}
use Rattle.sheet.proofs.lists.object_at.Goals as goal

pub object_from-requires : goal.object_from-requires
object_from-requires c = omega arith

pub returns-then-i-count : goal.returns-then-i-count
returns-then-i-count c = c.object_from.ensures

pub returns-then-count-i : goal.returns-then-count-i
returns-then-count-i c = c.object_cut.ensures ∙ object-past c.args.list.now (omega arith) (omega arith)

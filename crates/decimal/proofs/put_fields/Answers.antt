-- `put_fields` meets its contract. The invariant: the numbers before the next one are written.
use mathlib.Core.Path.{sym, ap}
use native.Mathlib.Omega.{arith}
use lib.IntN.{pos}
use lib.ListN.{get_or}
use mir.Syntax.{w64}
use mir.Val.{SFits}
use Rattle.std.proofs.Common.{rules}
use Rattle.whole.specs.Tests.{out-is}
use Rattle.sheet.specs.LentLaws.{wrote_none, wrote-two, wrote_as}
use Rattle.decimal.specs.Decimal.{numbers, field}
use Rattle.decimal.specs.DecimalLaws.{numbers_more}
use Rattle.decimal.proofs.put_fields.Goals as goal

pub loop-n-init : goal.loop-n-init
unfolding numbers
loop-n-init c = wrote_none (omega arith) (omega arith)

pub loop-n-preserved : goal.loop-n-preserved
loop-n-preserved c =
    let list = c.args.list.now in
    let i = c.loop-n.n-index in
    let fits : SFits w64 (get_or list i (pos 0)) = search rules in
    wrote_as (wrote-two c.loop-n.invariant (wrote_as c.put_field-next.ensures (ap field (out-is fits)))) (sym (numbers_more list i (omega arith)))

-- `take_number` meets its contract: the rest is what stands behind the number's bytes.
use mathlib.Core.Path.{sym, ap, ◌∙◌}
use Rattle.std.specs.Prelude.{Ok, Err}
use Rattle.number.specs.Number.{got}
use Rattle.number.proofs.NumberLaws.{number-tells}
use Rattle.store.specs.StepLaws.{rest-is}
use Rattle.store.specs.ToldLaws.{reading-from}
use Rattle.store.proofs.reading.take_number.Goals as goal

pub returns-in_err-number-clause-told : goal.returns-in_err-number-clause-told
returns-in_err-number-clause-told c =
    reading-from _ _ c.from_residual.ensures.1
    ∙ sym (number-tells c.args.bytes.now (Err c.in_err-number.field-0.0) c.in_err-number.ensures.told)

pub returns-clause-told : goal.returns-clause-told
returns-clause-told c =
    let n = c.in_ok-number.number in
    let took = number-tells c.args.bytes.now (Ok n) c.in_ok-number.ensures.told in
    ap (got n.value) (rest-is n.size c.args.bytes.now) ∙ sym took.taken

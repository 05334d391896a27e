-- `put_digits` meets its contract: the digits before the last one are those of a tenth of the number, twice.
use Rattle.std.proofs.Common.{sym, ◌/◌}
use Rattle.sheet.specs.LentLaws.{wrote-two, wrote_as}
use Rattle.decimal.specs.DecimalLaws.{digits-one, digits_more}
use Rattle.decimal.proofs.+put_digits.Goals as goal

pub returns-then-n-lt10 : goal.returns-then-n-lt10
returns-then-n-lt10 t c = wrote_as c.put_byte.ensures (sym (digits-one c.args.n c.if-n-lt10.true))

pub returns-then-tenth-lt10 : goal.returns-then-tenth-lt10
returns-then-tenth-lt10 t c =
    let n = c.args.n in
    let first = wrote_as c.put_byte-second.ensures (sym (digits-one (n / 10) c.if-tenth-lt10.true)) in
    wrote_as (wrote-two first c.put_byte-then-tenth-lt10.ensures) (sym (digits_more n c.if-n-lt10.false))

pub returns : goal.returns
returns t c =
    let n = c.args.n in
    let first = wrote_as (wrote-two c.put_digits-front.ensures c.put_byte-next.ensures) (sym (digits_more (n / 10) c.if-tenth-lt10.false)) in
    wrote_as (wrote-two first c.put_byte-2.ensures) (sym (digits_more n c.if-n-lt10.false))

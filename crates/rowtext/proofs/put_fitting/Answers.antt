-- `put_fitting` meets its contract: what was put into no bytes tells the length, and each of its two ways out is one law of sheet's LentLaws.
use mathlib.Core.Path.{refl}
use native.Mathlib.Omega.{arith}
use Rattle.sheet.specs.LentLaws.{short, done, wrote-size, wrote-short, wrote-room, wrote-front}
use Rattle.rowtext.proofs.put_fitting.Goals as goal

pub returns-then-out-needed : goal.returns-then-out-needed
returns-then-out-needed g c = λ text puts.
    let lent = c.args.out.now in
    let none = puts _ _ _ c.text-needed.ensures in
    short refl (wrote-short none lent c.if-out-needed.true) (wrote-size none)

pub returns : goal.returns
returns g c = λ text puts.
    let put = puts _ _ _ c.text.ensures in
    let room = wrote-room (puts _ _ _ c.text-needed.ensures) c.args.out.now (omega arith) c.if-out-needed.false in
    done refl room (wrote-size put) refl (wrote-front put room)

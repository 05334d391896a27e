-- `put_text` meets its contract. The invariant: the bytes before the next one stand at their place.
use mathlib.Core.Path.{sym, ◌∙◌, ap}
use Prim.Native.Nat.{ℕ}
use native.Mathlib.Omega.{arith}
use native.Mathlib.Numerals.{add-one}
use lib.ListN.{take}
use lib.Seq.{take-suc}
use Rattle.sheet.specs.LentLaws.{wrote_none, wrote-two, wrote_as}
use Rattle.decimal.proofs.put_text.Goals as goal

pub loop-b-init : goal.loop-b-init
loop-b-init c = wrote_none (omega arith) (omega arith)

pub loop-b-preserved : goal.loop-b-preserved
loop-b-preserved c =
    let text = c.args.text.now in
    let i = c.loop-b.b-index in
    wrote_as (wrote-two c.loop-b.invariant c.put_byte-next.ensures)
    (sym (take-suc text i 0 (omega arith)) ∙ ap (λ (k : ℕ). take k text) (sym (add-one i)))

-- `write_front` meets its contract: by the form, the numbers that are stored are put there.
use native.Mathlib.Omega.{arith}
use mathlib.Core.Path.{◌≡◌, sym, ap, ◌∙◌}
use mathlib.Core.List.{List, [], ◌∷◌, ◌++◌}
use Prim.Native.Nat.{ℕ}
use lib.IntN.{nat_abs}
use Rattle.whole.specs.Tests.{out-ok}
use Rattle.sheet.specs.declared.Object.{Object}
use Rattle.sheet.specs.LentLaws.{wrote_as}
use Rattle.number.specs.Number.{write_number, write_numbers}
use Rattle.store.specs.declared.Form.{Form}
use Rattle.store.specs.Forms.{write_tag}
use Rattle.store.specs.Bounded.{Bounded, front_numbers}
use Rattle.store.specs.BoundedLaws.{front-written}
use Rattle.store.proofs.writing.write_front.Goals as goal

-- the numbers of the form that the code found
of-form : (f : Form) {g : Form} (o : Object) {ns : List ℕ} → Bounded o → f ≡ g → ns ≡ front_numbers g o
    → write_numbers ns ≡ write_number (nat_abs o.kind) ++ write_tag f o.tag
of-form f o b e is = ap write_numbers (is ∙ ap (λ (f : Form). front_numbers f o) (sym e)) ∙ front-written o b f

pub returns-in-Old : goal.returns-in-Old
returns-in-Old c =
    let o = c.args.o in
    let kind = ap nat_abs (out-ok o.kind (omega arith)) in
    wrote_as c.put_stored.ensures.put (of-form c.args.form o c.requires c.in-Old.is (λ i. kind i ∷ []))

pub returns-in-New : goal.returns-in-New
returns-in-New c =
    let o = c.args.o in
    let kind = ap nat_abs (out-ok o.kind (omega arith)) in
    let tag = ap nat_abs (out-ok o.tag (omega arith)) in
    wrote_as c.put_stored-in-New.ensures.put (of-form c.args.form o c.requires c.in-New.is (λ i. kind i ∷ tag i ∷ []))

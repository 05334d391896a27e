-- `write_head` meets its contract: by the form, the numbers that are stored are put there.
use mathlib.Core.Path.{◌≡◌, sym, ap, ◌∙◌}
use Prim.Native.Nat.{ℕ, ◌≤◌}
use mathlib.Core.List.{◌++◌}
use Rattle.sheet.specs.Limits.{most}
use Rattle.sheet.specs.LentLaws.{wrote_as}
use Rattle.number.specs.Number.{write_number, write_numbers}
use Rattle.store.specs.declared.Form.{Form}
use Rattle.store.specs.Forms.{write_mark}
use Rattle.store.specs.Bounded.{head_numbers}
use Rattle.store.specs.BoundedLaws.{head-written}
use Rattle.store.proofs.writing.write_head.Goals as goal

-- the numbers of the form that the code found
of-form : {f g : Form} {n : ℕ} → f ≡ g → n ≤ most → write_numbers (head_numbers g n) ≡ write_mark f ++ write_number n
of-form {f} {g} {n} e h = ap (λ (f : Form). write_numbers (head_numbers f n)) (sym e) ∙ head-written f n h

pub returns-in-Old : goal.returns-in-Old
returns-in-Old c = wrote_as c.put_stored.ensures.put (of-form c.in-Old.is c.requires)

pub returns-in-New : goal.returns-in-New
returns-in-New c = wrote_as c.put_stored-in-New.ensures.put (of-form c.in-New.is c.requires)

-- `check_drawing` meets its contract: the form and the count, and then the objects, into no cells.
use mathlib.Core.Path.{sym, ap, ◌∙◌}
use Rattle.sheet.specs.RefusedLaws.{refused-from}
use Rattle.store.specs.Stored.{Drawing}
use Rattle.store.proofs.ObjectsLaws.{drawing-refused, drawing-counted}
use Rattle.store.proofs.check_drawing.Goals as goal

pub returns-in_err-head : goal.returns-in_err-head
returns-in_err-head c =
    refused-from _ _ c.from_residual.ensures.1
    ∙ sym (ap (λ (d : Drawing). d.refusal) (drawing-refused c.args.bytes.now c.in_err-head.ensures.told))

pub returns : goal.returns
returns c =
    c.read_objects.ensures.refusal
    ∙ sym (ap (λ (d : Drawing). d.refusal) (drawing-counted c.args.bytes.now c.in_ok-head.ensures.told))

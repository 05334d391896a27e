-- `order_of` meets its contract: the numbers that it hands on are those of the two x, and then y; `lead` of two signs is the first that is not 0,
-- and the order is that of x, then of y (`order_is`).
use mathlib.Core.Path.{sym, ◌∙◌, ap₂}
use Rattle.whole.specs.Choice.{or_else}
use Rattle.whole.specs.ChoiceLaws.{or-sgn}
use Rattle.whole.specs.Tests.{gave}
use Rattle.sheet.specs.Expansions.{order_is}
use Rattle.kernel.proofs.Coordinates.{x-of, y_of, coordinate-out, along-out, lead_is}
use Rattle.kernel.proofs.signs.order_of.Goals as goal

pub along-x-requires : goal.along-x-requires
along-x-requires c =
    let h = c.requires in
    (coordinate-out (x-of h.0), coordinate-out (x-of h.1))

pub along-y-requires : goal.along-y-requires
along-y-requires c =
    let h = c.requires in
    (coordinate-out (y_of h.0), coordinate-out (y_of h.1))

pub returns : goal.returns
returns c =
    let h = c.requires in
    let x = gave c.along-x.type_inv c.along-x.ensures ∙ along-out (x-of h.0) (x-of h.1) in
    let y = gave c.along-y.type_inv c.along-y.ensures ∙ along-out (y_of h.0) (y_of h.1) in
    lead_is c.lead.type_inv c.lead.ensures x y
    ∙ ap₂ or_else (or-sgn _ _) (or-sgn _ _)
    ∙ sym (order_is c.args.p c.args.q)

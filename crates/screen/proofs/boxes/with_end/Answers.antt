-- `with_end` meets its contract.
use Rattle.std.proofs.Common.{◌≡◌, ◌∙◌, sym, ap, Option, Some, rules}
use Rattle.sheet.specs.Figure.{vec}
use Rattle.screen.specs.declared.boxes.Extremes.{Extremes}
use Rattle.screen.specs.Extremes.{extremes_with, with_end}
use Rattle.screen.proofs.boxes.with_end.Goals as goal

pub returns-in-Some : goal.returns-in-Some
returns-in-Some c =
    let place = vec c.args.x c.args.y in
    let more : c.with.result ≡ extremes_with c.in-Some.e place = search rules in
    ap Some more ∙ ap (λ (e : Option Extremes). with_end e place) (sym c.in-Some.is)

-- `edge_place` meets its contract: `value_along` divides the coordinate along the side (`along-is`).
use Rattle.std.proofs.Common.{◌≡◌, ◌∙◌, ap, [], ◌∷◌, ℤ, pos, rules}
use Rattle.whole.specs.Tests.{gave}
use Rattle.sheet.specs.Figure.{side_number}
use Rattle.screen.specs.Quotient.{quotient}
use Rattle.screen.specs.Places.{side_where}
use Rattle.screen.specs.ByNumber.{along_number}
use Rattle.screen.proofs.PlacesLaws.{along-is}
use Rattle.screen.proofs.places.edge_place.Goals as goal

pub returns : goal.returns
returns c =
    let p = c.args.p in
    let s = side_where p in
    let number = gave c.side_number-side.type_inv c.side_number-side.ensures in
    let slope : c.value_along-slope.result ≡ quotient (along_number (side_number s) p.mx p.my) p.w = search rules in
    let offset : c.value_along-offset.result ≡ quotient (along_number (side_number s) p.nx p.ny) p.w = search rules in
    let m = slope ∙ ap (λ (z : ℤ). quotient z p.w) (along-is s p.mx p.my) in
    let n = offset ∙ ap (λ (z : ℤ). quotient z p.w) (along-is s p.nx p.ny) in
    λ i. record { wholes = pos 0 ∷ number i ∷ []; floats = m i ∷ n i ∷ [] }

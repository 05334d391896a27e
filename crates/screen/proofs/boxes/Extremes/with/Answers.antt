-- `with` meets its contract: the library's lower of two numbers is the one that lies farther below, and its higher the one farther above.
use Rattle.std.proofs.Common.{◌≡◌, ◌∙◌, rules}
use Rattle.whole.specs.Tests.{out, out-is, gave}
use Rattle.screen.specs.Extremes.{extremes_with}
use Rattle.screen.specs.BoxesLaws.{higher-is}
use Rattle.screen.proofs.boxes.Extremes.with.Goals as goal

pub returns : goal.returns
returns c =
    let e = c.args.self in
    let given : record { low_x = out e.low_x; low_y = out e.low_y; high_x = out e.high_x; high_y = out e.high_y } ≡ e = search rules in
    let lx = gave c.min.type_inv c.min.ensures.value in
    let ly = gave c.min-2.type_inv c.min-2.ensures.value in
    let hx = gave c.max.type_inv (c.max.ensures.value ∙ higher-is (out e.high_x) (out c.args.x)) in
    let hy = gave c.max-2.type_inv (c.max-2.ensures.value ∙ higher-is (out e.high_y) (out c.args.y)) in
    (λ i. record { low_x = lx i; low_y = ly i; high_x = hx i; high_y = hy i })
    ∙ (λ i. extremes_with (given i) (record { x = out-is c.ranges.x i; y = out-is c.ranges.y i }))

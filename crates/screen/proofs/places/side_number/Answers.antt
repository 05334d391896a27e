-- `side_number` meets its contract: the tests of the flags are those of `side_where`.
use Rattle.std.proofs.Common.{◌≡◌, true, false, rules}
use Rattle.sheet.specs.Figure.{left, bottom, right}
use Rattle.screen.specs.Places.{goes_to, side_where}
use Rattle.screen.proofs.places.side_number.Goals as goal

pub returns-then-left-bottom : goal.returns-then-left-bottom
unfolding side_where
returns-then-left-bottom c =
    let l : goes_to left c.args.p ≡ true = search rules in
    simp l

pub returns-then-bottom-right : goal.returns-then-bottom-right
unfolding side_where
returns-then-bottom-right c =
    let l : goes_to left c.args.p ≡ false = search rules in
    let b : goes_to bottom c.args.p ≡ true = search rules in
    simp (l, b)

pub returns-then-right-top : goal.returns-then-right-top
unfolding side_where
returns-then-right-top c =
    let l : goes_to left c.args.p ≡ false = search rules in
    let b : goes_to bottom c.args.p ≡ false = search rules in
    let r : goes_to right c.args.p ≡ true = search rules in
    simp (l, b, r)

pub returns : goal.returns
unfolding side_where
returns c =
    let l : goes_to left c.args.p ≡ false = search rules in
    let b : goes_to bottom c.args.p ≡ false = search rules in
    let r : goes_to right c.args.p ≡ false = search rules in
    simp (l, b, r)

-- `stored_size` meets its contract: the sizes of the numbers together are few, and they are the length of the bytes.
use Rattle.std.proofs.Common.{rules, sym, ◌≡◌, ◌∙◌, arith, ◌^◌, length}
use Rattle.std.proofs.lemmas.Iterator.{YieldsList-from_slice}
use Rattle.std.proofs.lemmas.Iterator.Adapters.{fits_from_length, at_most_from_yields_List}
use Rattle.std.specs.List.{sum_by}
use Rattle.std.specs.Prelude.{min}
use Rattle.number.specs.Number.{largest_number, write_number}
use Rattle.number.proofs.GroupsLaws.{number-most}
use Rattle.number.proofs.WrittenLaws.{numbers-sum}
use Rattle.number.proofs.stored_size.Goals as goal

pub sum-requires-clause-fits : goal.sum-requires-clause-fits
sum-requires-clause-fits c =
    let numbers = c.args.numbers.now in
    fits_from_length _ _ (2 ^ 60) (2 ^ 64) (at_most_from_yields_List (YieldsList-from_slice numbers cc) (omega arith)) c.map.ensures.closure (omega arith)
    (λ x r q k.
    let size : r ≡ length (write_number (min x.now largest_number)) = search rules in
    (search rules, omega (arith, size, number-most (min x.now largest_number))))

pub returns : goal.returns
returns c =
    let sum : c.sum.result ≡ sum_by (λ n. length (write_number (min n largest_number))) c.args.numbers.now = search rules in
    sum ∙ sym (numbers-sum c.args.numbers.now)

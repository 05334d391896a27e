-- `ends_of` meets its contract: the numbers and the figure of an object that is not refused are those of `both_ends`.
use mathlib.Core.Path.{sym, ◌∙◌, ap}
use mathlib.Core.List.{List, ◌∷◌, ◌++◌}
use lib.IntN.{ℤ, pos}
use Rattle.sheet.specs.RefusedLaws.{ok-says}
use Rattle.sheet.specs.Points.{numbers}
use Rattle.sheet.specs.Ends.{first_of, last_of, first_end, last_end}
use Rattle.kernel.proofs.Handed.{figure-told, numbers-told}
use Rattle.kernel.proofs.ends.ends_of.Goals as goal

pub both_ends-requires : goal.both_ends-requires
both_ends-requires c = numbers-told c.args.o c.struct_told-1.given (record { accepted = sym c.in_ok-check_object.ensures.value })

pub returns : goal.returns
unfolding first_end last_end
returns c =
    let f = figure-told c.args.o c.struct_told-1.given in
    ap (λ (l : List ℤ). pos 0 ∷ l) (c.both_ends.ensures ∙ (λ i. numbers (first_of (f i)) ++ numbers (last_of (f i))))
    ∙ ok-says _ c.in_ok-check_object.ensures.value

-- `are_storable` meets its contract: it is known of the numbers before the next one.
use Rattle.std.specs.Prelude.{Bool, ℕ, ◌&&◌, leb, get_or}
use Rattle.std.proofs.Common.{sym, ap, ◌∙◌, arith}
use Rattle.std.proofs.lemmas.List.Folds.{list_all_more}
use Rattle.number.specs.Number.{largest_number}
use Rattle.number.proofs.are_storable.Goals as goal

pub loop-n-preserved : goal.loop-n-preserved
loop-n-preserved c =
    let l = c.loop-n in
    let numbers = c.args.numbers.now in
    let i = l.n-index in
    ap (λ (t : Bool). t && leb (get_or numbers i 0) largest_number) l.invariant ∙ sym (list_all_more (λ (n : ℕ). leb n largest_number) numbers i 0 (omega arith))

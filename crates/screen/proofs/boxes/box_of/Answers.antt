-- `box_of` meets its contract: the four of all standard ends of an accepted list are found, and they are within 2,000.
use Rattle.std.proofs.Common.{◌≡◌, ◌∙◌, sym, ap, subst, List, Option, None, ℤ, pos}
use Rattle.sheet.specs.Lists.{list_refusal}
use Rattle.sheet.specs.ListsLaws.{listable}
use Rattle.screen.specs.declared.boxes.Extremes.{Extremes}
use Rattle.screen.specs.ValuesLaws.{float-ok}
use Rattle.screen.specs.Boxes.{ends_of, box_of, box_says}
use Rattle.screen.specs.Extremes.{with_ends}
use Rattle.screen.specs.BoxesLaws.{ends-small, Found, found, found-within, found-box}
use Rattle.screen.proofs.boxes.box_of.Goals as goal

their_extremes : (l : List ℤ) {e : Option Extremes} → pos 0 ≡ list_refusal l → e ≡ with_ends None (ends_of l) → Found (ends_of l) e
their_extremes l taken e = subst (Found (ends_of l)) (sym e) (found (ends_of l) (ends-small (listable l (sym taken))))

pub map-requires : goal.map-requires
map-requires c = found-within (their_extremes c.args.list.now c.in_ok-check_list.ensures c.extremes_of.ensures)

pub returns : goal.returns
returns c =
    let l = c.args.list.now in
    ap box_says (found-box (λ e b g. g) (their_extremes l c.in_ok-check_list.ensures c.extremes_of.ensures) c.map.ensures.cases)
    ∙ float-ok (box_says (box_of (ends_of l))) c.in_ok-check_list.ensures

-- `find_spans` meets its contract: marks, their order, and the ranks in it give the spans.
use native.Mathlib.Omega.{arith}
use Rattle.listing.specs.ExtentsLaws.{left-marked, right-marked}
use Rattle.listing.specs.SpansLaws.{spans-found}
use Rattle.listing.proofs.spans.find_spans.Goals as goal

pub sort-requires : goal.sort-requires
sort-requires c = (left-marked c.requires.0 c.fill_marks.ensures.0, c.requires.0.few)

pub fill_highs-requires : goal.fill_highs-requires
fill_highs-requires c =
    record {
      n_in_bounds = (
        omega (arith, c.requires.0.few, c.sort.ensures.0),
        c.sort.ensures.1,
        right-marked c.requires.0 c.fill_marks.ensures.1,
        omega (arith, c.requires.1, c.fill_lows.ensures.0),
      );
      lows = c.fill_lows.ensures.1;
    }

pub returns : goal.returns
returns c =
    let e = c.fill_marks.ensures in
    let w = c.fill_highs.ensures in
    spans-found c.args.list.now e.0 c.sort.ensures.2 e.1 w.1 w.2 (omega (arith, c.requires.1, c.fill_lows.ensures.0, w.0))

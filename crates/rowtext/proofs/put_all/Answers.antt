-- `put_all` meets its contract: each row that the iterator gives is the next one, and at its end less than a row is left.
use mathlib.Core.Path.{sym, ap, ◌∙◌}
use native.Mathlib.Omega.{arith}
use lib.ListN.{length}
use Rattle.std.proofs.Common.{rules}
use Rattle.std.proofs.lemmas.List.{length_push}
use Rattle.sheet.specs.LentLaws.{wrote_none, wrote-two, wrote_as}
use Rattle.rowtext.specs.Text.{row_text, rows_to, rows_text}
use Rattle.rowtext.specs.TextLaws.{rows_more, next-row, last-row}
use Rattle.rowtext.proofs.put_all.Goals as goal

pub loop-row-init : goal.loop-row-init
unfolding rows_to
loop-row-init c = record {
  width = search rules;
  within = omega arith;
  left = search rules;
  written = wrote_none (omega arith) (omega arith);
}

pub loop-row-preserved : goal.loop-row-preserved
loop-row-preserved c =
    let list = c.args.rows.now in
    let l = c.loop-row in
    let next = c.in-Some.ensures.steps in
    let one = length_push l.yielded c.in-Some.row in
    let row = next-row list (length l.yielded) (sym l.invariant.left ∙ next.1.0) (next.1.1 ∙ l.invariant.width) in
    record {
      width = next.0 ∙ l.invariant.width;
      within = simp one row.2;
      left = simp one row.1;
      written = simp one (wrote_as (wrote-two l.invariant.written (wrote_as c.put_row-next.ensures (ap row_text row.0))) (sym (rows_more list _)));
    }

pub returns : goal.returns
unfolding rows_text
returns c =
    let list = c.args.rows.now in
    let l = c.loop-row in
    let all = last-row list (length l.yielded) l.invariant.within (omega (arith, c.in-None.ensures.steps.1, ap length l.invariant.left)) in
    wrote_as l.invariant.written (ap (rows_to list) all)

-- `put_all` meets its contract. The invariant: the rows so far are written, and the iterator has what stands behind them.
use Rattle.std.proofs.Common.{◌≡◌, ◌*◌, ◌≤◌, length, drop}
use Rattle.sheet.specs.Lent.{Wrote}
use Rattle.sheet.specs.Lists.{row_width}
use Rattle.rowtext.specs.Text.{rows_to}
use Rattle.rowtext.proofs.put_all.Given as goal

abbrev pub invariant-loop-row : goal.invariant-loop-row
invariant-loop-row l = record {
  width : l.row-iterator.size ≡ row_width;
  within : length l.yielded * row_width ≤ length l.rows;
  left : l.row-iterator.rest.now ≡ drop (length l.yielded * row_width) l.rows;
  written : Wrote l.initial.out l.out 0 l.next (rows_to l.rows (length l.yielded));
}

-- `check_index` meets its contract: the list is refused first, and then the index.
use mathlib.Core.Path.{sym, ◌∙◌}
use borrow.Author.Tests.{lt-ltb, le-ltb}
use Rattle.sheet.specs.RefusedLaws.{err-first, ok-next, refused-from}
use Rattle.listing.proofs.check_index.Goals as goal

pub returns-in_err-check_list : goal.returns-in_err-check_list
returns-in_err-check_list c = refused-from _ _ c.from_residual.ensures.1 ∙ err-first _ _ c.in_err-check_list.ensures

pub returns-then-i-list : goal.returns-then-i-list
returns-then-i-list c = sym (ok-next _ c.in_ok-check_list.ensures ∙ simp (lt-ltb _ _ c.if-i-list.true))

pub returns : goal.returns
returns c = sym (ok-next _ c.in_ok-check_list.ensures ∙ simp (le-ltb _ _ c.if-i-list.false))

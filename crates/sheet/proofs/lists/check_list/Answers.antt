-- `check_list` meets its contract: its tests of the length and of the count are those of `list_refusal`; then come the objects in turn.
use borrow.Author.Tests.{eq-eqb, ne_eqb, lt-ltb, le-ltb}
use Rattle.sheet.specs.Lists.{list_refusal}
use Rattle.sheet.proofs.lists.check_list.Goals as goal

pub returns-then-list-ne0 : goal.returns-then-list-ne0
unfolding list_refusal
returns-then-list-ne0 c = simp (ne_eqb _ _ c.if-list-ne0.true)

pub returns-then-list-gt-MOST : goal.returns-then-list-gt-MOST
unfolding list_refusal
returns-then-list-gt-MOST c = simp (eq-eqb _ _ c.if-list-ne0.false, lt-ltb _ _ c.if-list-gt-MOST.true)

pub returns : goal.returns
unfolding list_refusal
returns c = simp (eq-eqb _ _ c.if-list-ne0.false, le-ltb _ _ c.if-list-gt-MOST.false) c.check_objects.ensures

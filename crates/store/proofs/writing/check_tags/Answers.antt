-- `check_tags` meets its contract: by the form, and in the old one by the tags.
use mathlib.Core.Path.{sym, ap, ◌∙◌}
use Rattle.store.specs.declared.Form.{Form}
use Rattle.store.specs.Stored.{tags_refusal}
use Rattle.store.proofs.writing.check_tags.Goals as goal

pub returns-then-all_untagged : goal.returns-then-all_untagged
unfolding tags_refusal
returns-then-all_untagged c =
    let u = c.all_untagged in
    let l = c.args.list.now in
    sym (ap (λ (f : Form). tags_refusal f l) c.in-Old.is ∙ simp (sym u.ensures ∙ c.if-all_untagged.true))

pub returns-else-all_untagged : goal.returns-else-all_untagged
unfolding tags_refusal
returns-else-all_untagged c =
    let u = c.all_untagged in
    let l = c.args.list.now in
    sym (ap (λ (f : Form). tags_refusal f l) c.in-Old.is ∙ simp (sym u.ensures ∙ c.if-all_untagged.false))

pub returns-in-New : goal.returns-in-New
unfolding tags_refusal
returns-in-New c = sym (ap (λ (f : Form). tags_refusal f c.args.list.now) c.in-New.is)

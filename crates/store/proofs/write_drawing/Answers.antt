-- `write_drawing` meets its contract: every drawing fits where there is room for the longest; else what is put into no bytes has the length of
-- the drawing. Each way out is one of the three ends.
use mathlib.Core.Path.{◌≡◌, refl, sym, ◌∙◌}
use mathlib.Core.List.{List}
use Prim.Native.Nat.{ℕ, ◌≤◌}
use native.Mathlib.Omega.{arith}
use lib.IntN.{ℤ, pos}
use lib.ListN.{length}
use Rattle.sheet.specs.Listable.{Listable}
use Rattle.sheet.specs.Lent.{Wrote}
use Rattle.sheet.specs.LentLaws.{short, done, clipped-is, wrote-size, wrote-front}
use Rattle.sheet.specs.ListsLaws.{listable}
use Rattle.store.specs.declared.Form.{Form}
use Rattle.store.specs.Stored.{write_drawing, write_refusal}
use Rattle.store.proofs.TagsLaws.{taken-kept}
use Rattle.store.specs.AnswersLaws.{write-ends, write-refused}
use Rattle.store.proofs.LongestLaws.{longest-most, write-no-longer}
use Rattle.store.proofs.write_drawing.Goals as goal
use Rattle.store.proofs.write_drawing.Goals.{then-out-longest_of+else-out-needed, else-out-longest_of}

accepted : (f : Form) (list : List ℤ) → write_refusal f list ≡ pos 0 → Listable list
accepted f list z = listable list (taken-kept list f z).0

-- what was put tells the length of the drawing
long :
    (f : Form) (list : List ℤ) {d d' : List ℕ} {size : ℕ} → write_refusal f list ≡ pos 0 → Wrote d d' 0 size (write_drawing f list)
    → size ≡ length (write_drawing f list)
long f list z w = wrote-size w ∙ clipped-is (omega (arith, write-no-longer f list z, longest-most f))

pub returns-in_err-check_writing : goal.returns-in_err-check_writing
returns-in_err-check_writing c =
    let both = write-refused c.args.form c.args.list.now c.args.out.now _ _ c.from_residual.ensures.1 c.in_err-check_writing.ensures in
    record { answer = both.0; cells = both.1 }

pub write_all-needed-requires : goal.write_all-needed-requires
write_all-needed-requires c = accepted c.args.form c.args.list.now (sym c.in_ok-check_writing.ensures)

pub returns-then-out-needed : goal.returns-then-out-needed
returns-then-out-needed c =
    let z = sym c.in_ok-check_writing.ensures in
    let size = long c.args.form c.args.list.now z c.write_all-needed.ensures in
    let both = write-ends c.args.form c.args.list.now c.args.out.now (short z (omega (arith, c.if-out-needed.true)) size) in
    record { answer = both.0; cells = both.1 }

pub write_all-requires : goal.write_all-requires
write_all-requires c = accepted c.args.form c.args.list.now (sym c.in_ok-check_writing.ensures)

pub returns : goal.returns
returns c =
    let f = c.args.form in
    let list = c.args.list.now in
    let lent = c.args.out.now in
    let z = sym c.in_ok-check_writing.ensures in
    let w = c.write_all.ensures in
    let room : length (write_drawing f list) ≤ length lent =
    elim c.if-out-longest_of.branch [
      | then-out-longest_of+else-out-needed n ↦ omega (arith, long f list z n.write_all-needed.ensures, n.if-out-needed.false)
      | else-out-longest_of n ↦ omega (arith, write-no-longer f list z, c.longest_of.ensures, n.if-out-longest_of.false)
    ] in
    let both = write-ends f list lent (done z room (long f list z w) refl (wrote-front w room)) in
    record { answer = both.0; cells = both.1 }

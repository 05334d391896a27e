-- `move_drawing` meets its contract: what is read into a list with room for every drawing is written.
use mathlib.Core.Path.{refl, sym, ap, ◌∙◌}
use mathlib.Core.List.{List}
use native.Mathlib.Omega.{arith}
use lib.IntN.{ℤ}
use Rattle.std.proofs.lemmas.Grind.{common_steps}
use Rattle.store.specs.Answers.{write_answer, write_into}
use Rattle.store.proofs.RoomyLaws.{roomy, moves-refused, moves-as-written}
use Rattle.store.proofs.move_drawing.Goals as goal

pub returns-in_err-read : goal.returns-in_err-read
returns-in_err-read c =
    let both = moves-refused c.args.form c.args.bytes.now c.args.out.now _ _ _ refl c.in_err-read.ensures.answer c.from_residual.ensures.1 in
    record { answer = both.0; cells = both.1 }

pub slice_bounds-write_drawing-end : goal.slice_bounds-write_drawing-end
slice_bounds-write_drawing-end c =
    let read = roomy c.args.bytes.now _ refl c.in_ok-read.ensures.answer c.in_ok-read.ensures.cells in
    let few = read.few (sym read.refusal) in
    grind (arith, common_steps, few)

pub slice_bounds-list-end : goal.slice_bounds-list-end
slice_bounds-list-end c =
    let read = roomy c.args.bytes.now _ refl c.in_ok-read.ensures.answer c.in_ok-read.ensures.cells in
    omega (arith, read.few (sym read.refusal))

pub returns : goal.returns
returns c =
    let a = c.args in
    let lent = a.out.now in
    let read = roomy a.bytes.now _ refl c.in_ok-read.ensures.answer c.in_ok-read.ensures.cells in
    let fine = sym read.refusal in
    let handed = read.front fine in
    let w = c.write_drawing.ensures in
    let same = moves-as-written a.form a.bytes.now lent fine in
    record {
      answer = w.answer ∙ ap (λ (l : List ℤ). write_answer a.form l lent) handed ∙ same.0;
      cells = w.cells ∙ ap (λ (l : List ℤ). write_into a.form l lent) handed ∙ same.1;
    }

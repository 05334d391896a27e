-- `read_drawing` meets its contract: the form and the count, and then the objects, first into no cells; each way out is one of the three ends.
use mathlib.Core.Path.{◌≡◌, sym, ap, ◌∙◌}
use mathlib.Core.List.{List}
use Prim.Native.Nat.{ℕ, ◌*◌, ◌≤◌}
use native.Mathlib.Omega.{arith}
use lib.IntN.{pos}
use lib.ListN.{length}
use lib.Seq.{sets}
use Rattle.sheet.specs.LentLaws.{short, done, sets-front}
use Rattle.sheet.specs.Lists.{width, count_of}
use Rattle.number.specs.Number.{got}
use Rattle.store.specs.declared.reading.Head.{Head}
use Rattle.store.specs.Stored.{Drawing, read_head, read_drawing}
use Rattle.store.proofs.ObjectsLaws.{objects-length, drawing-refused, drawing-counted}
use Rattle.store.specs.AnswersLaws.{read-ends, read-refused}
use Rattle.store.proofs.read_drawing.Goals as goal

-- six numbers for each object that the head counts
long :
    (bs : List ℕ) {h : Head} {rest : List ℕ} → got h rest ≡ read_head bs → (read_drawing bs).refusal ≡ pos 0
    → length (read_drawing bs).objects ≡ h.count * width
long bs {h} {rest} told fine =
    let all = drawing-counted bs told in
    ap (λ (d : Drawing). length d.objects) all
    ∙ objects-length h.form h.count rest (sym (ap (λ (d : Drawing). d.refusal) all) ∙ fine)

pub returns-in_err-front : goal.returns-in_err-front
returns-in_err-front c =
    let no = sym (ap (λ (d : Drawing). d.refusal) (drawing-refused c.args.bytes.now c.in_err-front.ensures.told)) in
    let both = read-refused _ c.args.out.now _ _ c.from_residual.ensures.1 no in
    record { answer = both.0; cells = both.1 }

pub returns-in_err-read_objects : goal.returns-in_err-read_objects
returns-in_err-read_objects c =
    let is = drawing-counted c.args.bytes.now c.in_ok-front.ensures.told in
    let no = c.in_err-read_objects.ensures.refusal ∙ sym (ap (λ (d : Drawing). d.refusal) is) in
    let both = read-refused _ c.args.out.now _ _ c.from_residual-in_err-read_objects.ensures.1 no in
    record { answer = both.0; cells = both.1 }

pub returns-then-out-length : goal.returns-then-out-length
returns-then-out-length c =
    let bs = c.args.bytes.now in
    let told = c.in_ok-front.ensures.told in
    let fine = ap (λ (d : Drawing). d.refusal) (drawing-counted bs told) ∙ sym c.in_ok-read_objects.ensures.refusal in
    let size = long bs told fine in
    let both = read-ends (read_drawing bs) c.args.out.now (short fine (omega (arith, size, c.if-out-length.true)) (sym size)) in
    record { answer = both.0; cells = both.1 }

pub returns : goal.returns
returns c =
    let bs = c.args.bytes.now in
    let lent = c.args.out.now in
    let d = read_drawing bs in
    let told = c.in_ok-front.ensures.told in
    let fine = ap (λ (d : Drawing). d.refusal) (drawing-counted bs told) ∙ sym c.in_ok-read_objects.ensures.refusal in
    let size = long bs told fine in
    let room : length d.objects ≤ length lent = omega (arith, size, c.if-out-length.false) in
    let count : c.in_ok-front.front.value.count ≡ count_of d.objects = omega (arith, size) in
    let cells = c.read_objects-2.ensures.cells ∙ ap (λ (d : Drawing). sets lent 0 d.objects) (sym (drawing-counted bs told)) ∙ sets-front d.objects lent room in
    let both = read-ends d lent (done fine room (sym size) count cells) in
    record { answer = both.0; cells = both.1 }

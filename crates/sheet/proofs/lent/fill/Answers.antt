-- `fill` meets its contract: of the first i numbers those are put for which there is a cell.
use mir.Syntax.{w64}
use mir.Val.{SFits}
use Rattle.std.specs.Prelude.{ℤ, pos}
use Rattle.std.proofs.Common.{rules, ◌≡◌, refl, sym, ap, ◌∙◌, arith, add-one, take-suc, take_all, ℕ, ◌+◌, ◌<◌, ◌≤◌, List, [], ◌∷◌, ◌++◌, length, take, get_or, set, drop, length-take}
use Rattle.std.proofs.lemmas.List.Edits.{sets}
use Rattle.std.proofs.Math.Seq.{length-sets, take-append_seam}
use Rattle.whole.specs.Tests.{out-is}
use Rattle.sheet.specs.LentLaws.{sets-two, sets-front, sets-past, sets-short}
use Rattle.sheet.proofs.lent.fill.Goals as goal
use Rattle.sheet.proofs.lent.fill.Goals.{then-i-cells, else-i-cells}

-- the cells once the numbers before i are there, and the next one
more :
    (cells numbers : List ℤ) (i : ℕ) → i < length numbers → let n = get_or numbers i (pos 0) in
    sets (sets cells 0 (take i numbers)) i (n ∷ []) ≡ sets cells 0 (take (i + 1) numbers)
more cells numbers i h =
    let front = take i numbers in
    let n = get_or numbers i (pos 0) in
    let long : i ≡ 0 + length front = omega (arith, length-take i numbers) in
    ap (λ (k : ℕ). sets (sets cells 0 front) k (n ∷ [])) long
    ∙ sets-two front (n ∷ []) cells 0
    ∙ ap (sets cells 0) (sym (ap (λ (k : ℕ). take k numbers) (add-one i) ∙ take-suc numbers i (pos 0) h))

-- numbers that are as many as the cells, or more: the front of them
all : (cells numbers : List ℤ) → length cells ≤ length numbers → sets cells 0 numbers ≡ take (length cells) numbers
all cells numbers h =
    let front = take (length cells) numbers in
    let long : length front ≡ length cells = omega (arith, length-take (length cells) numbers) in
    let put = sets cells 0 front in
    sym (sets-short cells numbers 0 (length cells) (omega arith) h)
    ∙ sym (take_all (length front) put (omega (arith, length-sets cells 0 front)))
    ∙ ap (take (length front)) (sets-front front cells (omega arith))
    ∙ take-append_seam front (drop (length front) cells)

pub loop-i-preserved : goal.loop-i-preserved
loop-i-preserved c =
    let l = c.loop-i in
    let numbers = c.args.numbers.now in
    let n = get_or numbers l.i (pos 0) in
    let next = more c.args.cells.now numbers l.i c.loop-i-test.true in
    elim c.if-i-cells.branch [
      | then-i-cells w ↦
          let fits : SFits w64 n = search rules in
          w.cells-is ∙ ap (set l.cells l.i) (out-is fits) ∙ ap (λ (d : List ℤ). sets d l.i (n ∷ [])) l.invariant ∙ next
      | else-i-cells w ↦
          w.cells-is ∙ sym (sets-past l.cells (n ∷ []) l.i (omega (arith, w.if-i-cells.false))) ∙ ap (λ (d : List ℤ). sets d l.i (n ∷ [])) l.invariant ∙ next
    ]

pub returns : goal.returns
returns c =
    let l = c.loop-i in
    let cells = c.args.cells.now in
    let numbers = c.args.numbers.now in
    l.invariant ∙ ap (sets cells 0) (take_all l.i numbers (omega (arith, c.loop-i-test.false))) ∙ all cells numbers c.requires

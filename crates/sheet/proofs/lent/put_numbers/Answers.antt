-- `put_numbers` meets its contract: none has a cell, some have, or all.
use mathlib.Core.Path.{◌≡◌, refl, sym, ap, ◌∙◌}
use mathlib.Core.List.{List, ◌++◌}
use native.Mathlib.Omega.{arith}
use Prim.Native.Nat.{ℕ, ◌+◌, ◌-◌, ◌≤◌}
use borrow.Rule.Slice.PartMut.{put_mid}
use lib.IntN.{ℤ}
use lib.ListN.{length, take, drop, length-take, length-drop}
use lib.Seq.{sets, sets-eq, take_all}
use Rattle.std.proofs.lemmas.Slice.{put_mid-paste}
use Rattle.sheet.specs.LentLaws.{clipped-is, sets-short, wrote-past}
use Rattle.sheet.proofs.lent.put_numbers.Goals as goal

-- a piece that is written over a part of the cells
put-part :
    (cells : List ℤ) (at k : ℕ) {now piece : List ℤ} → at + k ≤ length cells → now ≡ piece → length piece ≡ k
    → put_mid at k cells now ≡ sets cells at piece
put-part cells at k {now} {piece} h e l =
    let room : at + length piece ≤ length cells = omega (arith, l) in
    put_mid-paste at k cells now piece k e refl (sym l)
    ∙ (λ i. take at cells ++ take (sym l i) piece ++ drop (at + sym l i) cells)
    ∙ ap (λ (p : List ℤ). take at cells ++ p ++ drop (at + length piece) cells) (take_all (length piece) piece (omega arith))
    ∙ sym (sets-eq piece cells at room)

-- as many cells are lent from a place on as stand there
room-is : (cells : List ℤ) (at : ℕ) → length (take (length cells - at) (drop at cells)) ≡ length cells - at
room-is cells at = omega (arith, length-take (length cells - at) (drop at cells), length-drop at cells)

pub returns-then-out-at : goal.returns-then-out-at
returns-then-out-at c = wrote-past (omega arith) (omega arith) c.behind.ensures

pub returns-then-room-count : goal.returns-then-room-count
returns-then-room-count c =
    record {
      cells = put-part c.args.out.now c.args.at _ (omega arith) (c.fill.ensures ∙ ap (λ (k : ℕ). take k c.args.numbers.now) (room-is c.args.out.now c.args.at)) (omega (arith, length-take (length c.args.out.now - c.args.at) c.args.numbers.now))
          ∙ sets-short c.args.out.now c.args.numbers.now c.args.at (length c.args.out.now - c.args.at) (omega arith) (omega arith);
      place = c.behind-then-room-count.ensures;
      lent = omega arith;
    }

pub returns : goal.returns
returns c =
    record {
      cells = put-part c.args.out.now c.args.at _ (omega arith) c.copy_from_slice.ensures.after (omega arith);
      place = sym (clipped-is (omega arith));
      lent = omega arith;
    }

-- `with_line` meets its contract: the far end is shared where it is on the side; else `with_end` answers for the other direction.
use mathlib.Core.Path.{sym, ◌∙◌, ap}
use lib.IntN.{pos, neg_ℤ, +ℤ_idl}
use Rattle.whole.specs.Laws.{eq-of-sub}
use Rattle.whole.specs.Ring.{var, lit, ◌⊖◌}
use Rattle.whole.specs.Flat.{need, gives, held}
use Rattle.whole.specs.Tests.{out-is}
use Rattle.sheet.specs.Figure.{vec}
use Rattle.sheet.specs.Ends.{far_end, reverse}
use Rattle.sheet.specs.Crossing.{Meeting, none}
use Rattle.sheet.specs.Answers.{meeting_numbers}
use Rattle.kernel.specs.Stretches.{end_by}
use Rattle.kernel.proofs.Ahead.{four, ahead-out, outward, on-end, off-end}
use Rattle.kernel.proofs.sides.with_line.Goals as goal

pub is_on-requires : goal.is_on-requires
is_on-requires c = record { out = outward c.requires.out; ahead = ahead-out c.requires.ahead }

pub far_end-e-requires : goal.far_end-e-requires
far_end-e-requires c = ahead-out c.requires.ahead

pub returns-then-is_on : goal.returns-then-is_on
returns-then-is_on c =
    let otherwise : Meeting = end_by c.args.ox c.args.oy (far_end (vec c.args.px c.args.py) (reverse (vec c.args.dx c.args.dy))) none in
    ap meeting_numbers (on-end c.requires.out c.requires.ahead c.is_on.ensures otherwise c.far_end-e.ensures c.if-is_on.true)

pub overflow_sub-back : goal.overflow_sub-back
overflow_sub-back c = need (four c.requires.ahead) (lit 0 ⊖ var 2) tt

pub overflow_sub-down : goal.overflow_sub-down
overflow_sub-down c = need (four c.requires.ahead) (lit 0 ⊖ var 3) tt

pub with_end-requires : goal.with_end-requires
with_end-requires c =
    let h = c.requires in
    let b = four h.ahead in record {
      out = outward h.out;
      ahead = record {
        bpx = held b (var 0) tt;
        bpy = held b (var 1) tt;
        bdx = held b (lit 0 ⊖ var 2) tt;
        bdy = held b (lit 0 ⊖ var 3) tt;
        moves =
            λ e f. h.ahead.moves
            (sym (eq-of-sub (pos 0) _ (sym (gives b (lit 0 ⊖ var 2) tt) ∙ e)))
            (sym (eq-of-sub (pos 0) _ (sym (gives b (lit 0 ⊖ var 3) tt) ∙ f)));
      };
    }

pub returns : goal.returns
returns c =
    let otherwise : Meeting = end_by c.args.ox c.args.oy (far_end (vec c.args.px c.args.py) (reverse (vec c.args.dx c.args.dy))) none in
    let b = four c.requires.ahead in
    let back = gives b (lit 0 ⊖ var 2) tt ∙ +ℤ_idl (neg_ℤ c.args.dx) in
    let down = gives b (lit 0 ⊖ var 3) tt ∙ +ℤ_idl (neg_ℤ c.args.dy) in
    c.with_end.ensures
    ∙ (λ i. meeting_numbers (end_by (out-is c.ranges.ox i) (out-is c.ranges.oy i)
    (far_end (vec (out-is c.ranges.px i) (out-is c.ranges.py i)) (vec (back i) (down i))) none))
    ∙ ap meeting_numbers (off-end c.requires.out c.requires.ahead c.is_on.ensures otherwise c.if-is_on.false)

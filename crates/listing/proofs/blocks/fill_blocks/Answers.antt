-- `fill_blocks` meets its contract: the blocks hold the objects before j.
use Prim.Native.Nat.{◌%◌}
use native.Mathlib.Omega.{arith}
use borrow.Author.Tests.{eqb-true}
use Rattle.listing.specs.Spans.{block_size}
use Rattle.listing.specs.BlocksLaws.{block_more}
use Rattle.listing.proofs.blocks.fill_blocks.Goals as goal

pub loop-j-preserved : goal.loop-j-preserved
loop-j-preserved c =
    let j = c.loop-j.j in
    block_more c.args.near c.args.spans.now c.loop-j.blocks j _ (omega (arith, c.requires)) (λ e. eqb-true (j % block_size) 0 e) c.widen.ensures
    c.widen-in-loop-j.ensures c.loop-j.invariant

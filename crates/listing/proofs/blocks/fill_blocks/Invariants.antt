-- `fill_blocks` meets its contract: the blocks hold the objects before j.
use Prim.Native.Nat.{ℕ, ◌<◌}
use Rattle.listing.specs.BlocksLaws.{InBlock}
use Rattle.listing.proofs.blocks.fill_blocks.Given as goal

abbrev pub invariant-loop-j : goal.invariant-loop-j
invariant-loop-j l = (k : ℕ) → k < l.j → InBlock l.near l.spans l.blocks k

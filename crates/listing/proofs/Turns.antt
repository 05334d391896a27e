-- What the loops that put rows share. To cite:
--   wrote-first, wrote-next   of what f gives from a place on, in turn, nothing is put; the next one behind the others
-- Assumes nothing.
use Rattle.std.specs.Prelude.{List, ℕ, ◌+◌, ◌≤◌, ℤ, length}
use Rattle.std.proofs.Common.{sym}
use Rattle.whole.specs.InTurn.{all_between}
use Rattle.whole.specs.InTurnLaws.{between_none, between_more}
use Rattle.sheet.specs.Lent.{Wrote, largest}
use Rattle.sheet.specs.LentLaws.{wrote_none, wrote-two, wrote_as}

module _ (f : ℕ → List ℤ) (a : ℕ) where
  pub wrote-first : {lent : List ℤ} {at : ℕ} → length lent ≤ largest → at ≤ largest → Wrote lent lent at at (all_between f a a)
  wrote-first h m = wrote_as (wrote_none h m) (sym (between_none f a))

  pub wrote-next : {lent after last : List ℤ} {at next end j : ℕ} → a ≤ j → Wrote lent after at next (all_between f a j) → Wrote after last next end (f j)
      → Wrote lent last at end (all_between f a (j + 1))
  wrote-next {j = j} h w v = wrote_as (wrote-two w v) (sym (between_more f a j h))

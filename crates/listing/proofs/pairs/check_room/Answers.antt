-- `check_room` meets its contract: no more rows than pairs; and what was put into no cells tells the length.
use mathlib.Core.Path.{◌≡◌, ap, ◌∙◌}
use mathlib.Core.List.{List}
use mathlib.Core.Bool.{Bool}
use Prim.Native.Nat.{ℕ}
use native.Mathlib.Omega.{arith}
use lib.IntN.{ℤ}
use lib.ListN.{length}
use Rattle.std.specs.Prelude.{Err}
use Rattle.sheet.specs.declared.refusal.Unfilled.TheVariants as unfilled
use Rattle.sheet.specs.Lent.{Wrote}
use Rattle.sheet.specs.LentLaws.{clipped-is, wrote-size}
use Rattle.listing.specs.Pairs.{Section, rows_between}
use Rattle.listing.specs.RowsLaws.{between-most, between-fits}
use Rattle.listing.specs.ListingLaws.{room-enough, room-lacks}
use Rattle.listing.proofs.pairs.check_room.Goals as goal

counted :
    (joints : Bool) {l : List ℤ} {from to : ℕ} → Section l from to → {lent after : List ℤ} {need : ℕ}
    → Wrote lent after 0 need (rows_between joints l from to) → need ≡ length (rows_between joints l from to)
counted joints s w = wrote-size w ∙ clipped-is (omega (arith, between-fits joints s))

pub returns-then-pairs-room-clause-room : goal.returns-then-pairs-room-clause-room
returns-then-pairs-room-clause-room g c =
    room-enough (length (rows_between c.args.joints c.args.list.now c.args.run.from c.args.run.to)) c.args.room
    (omega (arith, between-most c.args.joints c.requires.section, c.pairs_of.ensures, c.pairs_of-2.ensures))

pub returns-then-need-room-clause-room : goal.returns-then-need-room-clause-room
returns-then-need-room-clause-room g c =
    room-enough (length (rows_between c.args.joints c.args.list.now c.args.run.from c.args.run.to)) c.args.room
    (omega (arith, counted c.args.joints c.requires.section c.put_rows-need.ensures.rows))

pub returns-clause-room : goal.returns-clause-room
returns-clause-room g c =
    let e = counted c.args.joints c.requires.section c.put_rows-need.ensures.rows in
    ap (λ (n : ℕ). Err (unfilled.NoRoom n)) e
    ∙ room-lacks (length (rows_between c.args.joints c.args.list.now c.args.run.from c.args.run.to)) c.args.room (omega (arith, e))

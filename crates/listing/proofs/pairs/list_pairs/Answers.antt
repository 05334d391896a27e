-- `list_pairs` meets its contract: it lacks room, or the rows stand at the front.
use mathlib.Core.Path.{◌≡◌, refl, sym, ap, subst, ◌∙◌}
use mathlib.Core.List.{List}
use Prim.Native.Nat.{ℕ, ◌/◌, ◌<◌}
use native.Mathlib.Omega.{arith}
use lib.IntN.{ℤ}
use lib.ListN.{length}
use Rattle.std.specs.Prelude.{Result, Err}
use Rattle.sheet.specs.declared.refusal.Unfilled.{Unfilled}
use Rattle.sheet.specs.declared.refusal.Unfilled.TheVariants as unfilled
use Rattle.sheet.specs.RefusedLaws.{unfilled-from}
use Rattle.sheet.specs.Lists.{row_width}
use Rattle.sheet.specs.LentLaws.{short, done, clipped-is, wrote-size, wrote-front}
use Rattle.listing.specs.declared.Listed.{Listed}
use Rattle.listing.specs.Listing.{listed_told}
use Rattle.listing.specs.Pairs.{rows_between, Listing}
use Rattle.listing.specs.RowsLaws.{between-fits}
use Rattle.listing.specs.ListingLaws.{has_room, has-none}
use Rattle.listing.proofs.pairs.list_pairs.Goals as goal

lacks-room :
    {rows lent : List ℤ} {a : Result Listed Unfilled} → a ≡ Err (unfilled.NoRoom (length rows)) → length lent < length rows
    → Listing rows lent (listed_told a) lent
lacks-room {rows} {lent} e h = subst (λ (a : Result Listed Unfilled). Listing rows lent (listed_told a) lent) (sym e) (short refl h refl)

pub returns-in_err-check_room : goal.returns-in_err-check_room
returns-in_err-check_room g c =
    let x = has-none (length (rows_between c.args.joints c.args.list.now c.args.run.from c.args.run.to)) (length c.args.out.now) c.in_err-check_room.ensures.room in
    lacks-room (unfilled-from _ _ c.from_residual.ensures.1 ∙ ap Err x.1) x.0

pub returns : goal.returns
returns g c =
    let w = c.put_rows-length.ensures.rows in
    let fits = has_room (length (rows_between c.args.joints c.args.list.now c.args.run.from c.args.run.to)) (length c.args.out.now) c.in_ok-check_room.ensures.room in
    let long = wrote-size w ∙ clipped-is (omega (arith, between-fits c.args.joints c.requires.section)) in
    done refl fits long (ap (λ (n : ℕ). n / row_width) long) (wrote-front w fits)

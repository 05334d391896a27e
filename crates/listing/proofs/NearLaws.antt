-- The laws of pairs that stand apart. To cite:
--   apart-row      they make no row, joints asked for or not
--   chosen-rows    the rows with the later objects that an object is compared with are its rows with all later ones
-- Assumes nothing.
use Rattle.std.specs.Prelude.{◌≡◌, Bool, false, List, [], ℕ, ◌<◌, ℤ}
use Rattle.std.proofs.Math.Path.{sym}
use Rattle.sheet.proofs.JointLaws.{kept-none}
use Rattle.sheet.specs.Lists.{count_of, object_at}
use Rattle.sheet.specs.Listable.{Listable}
use Rattle.cut.proofs.ExtentAt.{apart_none}
use Rattle.listing.specs.Rows.{meeting_of, row_of, rows_with}
use Rattle.listing.specs.RowsLaws.{row-none}
use Rattle.listing.specs.declared.runs.Run.{Run}
use Rattle.listing.specs.Near.{near_of}
use Rattle.listing.specs.Runs.{in_runs, Chosen}

module _ (joints : Bool) {l : List ℤ} (L : Listable l) where
  pub apart-row : (i j : ℕ) → i < count_of l → j < count_of l → near_of l i j ≡ false → row_of joints l i j ≡ []
  unfolding meeting_of
  apart-row i j a b e =
      sym (row-none joints l i j (sym (kept-none (object_at l i) (object_at l j) joints (apart_none (L.each i a) (L.each j b) e))))

  pub chosen-rows : {i : ℕ} {runs : List Run} {m : ℕ} → i < count_of l → Chosen l i runs m → in_runs (row_of joints l i) runs m ≡ rows_with joints l i
  chosen-rows {i} h c = c.enough (row_of joints l i) (λ j a b e. apart-row i j h b e)

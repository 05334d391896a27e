-- How a listing ends. To cite:
--   room-enough, room-lacks      there is room for so many numbers, or not;  has_room, has-none   what it tells
--   told-one                     answers that are told by the same numbers are equal
--   listing-is                   what the rows of accepted objects end with is what is said of a listing
--   listing-refused              a listing that is refused before its rows are looked for
--   all_listed, all-refused      the same of the rows of all objects;  one_listed, one-refused  of one object
--   all-section, one-section     objects of a list that is not refused
-- Assumes nothing.
use Rattle.std.specs.Prelude.{◌≡◌, refl, Bool, true, false, cond, List, ℕ, ◌+◌, ◌*◌, ◌/◌, ◌≤◌, ◌<◌, ltb, ℤ, pos, length, Result, Ok, Err, IsErrAnd}
use Rattle.std.proofs.Common.{sym, ap, subst, ◌∙◌, arith, lt-ltb, le-ltb, ltb-true, ltb-false}
use Rattle.whole.specs.ChoiceLaws.{or-zero}
use Rattle.whole.specs.InTurnLaws.{between-one, between-all}
use Rattle.sheet.specs.Lent.{room_refusal, other_number, length_given, filled}
use Rattle.sheet.specs.declared.refusal.Refusal.{Refusal}
use Rattle.sheet.specs.declared.refusal.Unfilled.{Unfilled}
use Rattle.sheet.specs.declared.refusal.Unfilled.TheVariants as unfilled
use Rattle.sheet.specs.Refused.{no_of}
use Rattle.sheet.specs.RefusedLaws.{unfilled-one, unfilled-zero, unfilled-from, err-ends}
use Rattle.sheet.specs.Lists.{row_width, count_of, list_refusal, index_refusal}
use Rattle.sheet.specs.ListsLaws.{listable, index_below}
use Rattle.listing.specs.declared.Listed.{Listed}
use Rattle.listing.specs.Listing.{ListedTold, one_refusal, listed_told, listed}
use Rattle.listing.specs.Rows.{rows_with, rows_of, sharing_with, sharing}
use Rattle.listing.specs.RowsLaws.{length-rows-with, length-rows}
use Rattle.listing.specs.Pairs.{Section, rows_between, room_for, Listing}

pub room-enough : (size room : ℕ) → size ≤ room → Ok tt ≡ room_for size room
room-enough size room h = simp (le-ltb room size h)

pub room-lacks : (size room : ℕ) → room < size → Err (unfilled.NoRoom size) ≡ room_for size room
room-lacks size room h = simp (lt-ltb room size h)

-- what it tells
abbrev room_if : ℕ → Bool → Result Unit Unfilled
room_if size t = cond t (Err (unfilled.NoRoom size)) (Ok tt)

pub has_room : (size room : ℕ) → Ok tt ≡ room_for size room → size ≤ room
has_room size room e = go (ltb room size) (ltb-false room size) e
  where
    go : (t : Bool) → (t ≡ false → size ≤ room) → Ok tt ≡ room_if size t → size ≤ room
    go true f e = cc
    go false f e = f refl

pub has-none : (size room : ℕ) {u : Unfilled} → Err u ≡ room_for size room → (room < size) × (u ≡ unfilled.NoRoom size)
has-none size room {u} e = go (ltb room size) (ltb-true room size) e
  where
    go : (t : Bool) → (t ≡ true → room < size) → Err u ≡ room_if size t → (room < size) × (u ≡ unfilled.NoRoom size)
    go true f e = let g : u ≡ unfilled.NoRoom size = cc in (f refl, g)
    go false f e = cc

pub told-one : (r s : Result Listed Unfilled) → listed_told r ≡ listed_told s → r ≡ s
told-one (Ok l) (Ok m) e = ap Ok (λ i. record { rows = (e i).rows; length = (e i).length })
told-one (Ok l) (Err u) e = absurd (unfilled-zero u (ap (λ (t : ListedTold). t.refusal) (sym e)))
told-one (Err u) (Ok l) e = absurd (unfilled-zero u (ap (λ (t : ListedTold). t.refusal) e))
told-one (Err u) (Err v) e = ap Err (unfilled-one u v (ap (λ (t : ListedTold). t.refusal) e) (ap (λ (t : ListedTold). t.length) e))

pub listing-is :
    {r : ℤ} (n : ℕ) (rows : List ℤ) {lent after : List ℤ} {a : ListedTold} → r ≡ pos 0 → length rows ≡ n * row_width → Listing rows lent a after
    → (a ≡ listed r n (length lent)) × (after ≡ filled r rows lent)
listing-is {r} n rows {lent} {after} {a} z long e =
    let count : length rows / row_width ≡ n = omega arith in (
      (λ i. record {
        refusal = e.refusal i;
        rows = e.other i;
        length = e.given i;
      })
          ∙ (λ i. record {
            refusal = room_refusal (sym z i) (long i) (length lent);
            rows = other_number (room_refusal (sym z i) (long i) (length lent)) (count i);
            length = length_given (sym z i) (long i);
          }),
      e.cells ∙ (λ i. filled (sym z i) rows lent),
    )

pub listing-refused :
    {r : ℤ} (n : ℕ) (rows lent : List ℤ) → length rows ≡ n * row_width → (a : Result Listed Unfilled) (refusal : Refusal)
    → IsErrAnd a (λ u. u ≡ unfilled.Refused refusal) → no_of refusal ≡ r → (listed_told a ≡ listed r n (length lent)) × (lent ≡ filled r rows lent)
listing-refused {r} n rows lent long a refusal is e =
    let x = err-ends {n = r} {result = rows} {lent = lent} {size = n * row_width} {v = n} refusal e in (
      ap listed_told (unfilled-from _ a is) ∙ (λ i. record {
        refusal = (x.refusal ∙ ap (λ (k : ℕ). room_refusal r k (length lent)) long) i;
        rows = (x.other ∙ ap (λ (k : ℕ). other_number (room_refusal r k (length lent)) n) long) i;
        length = x.given i;
      }),
      x.cells,
    )

-- the rows of all objects, and a whole listing that is refused before them
module _ (joints : Bool) (l : List ℤ) {lent : List ℤ} where
  pub all_listed : {after : List ℤ} {a : ListedTold} → list_refusal l ≡ pos 0 → Listing (rows_between joints l 0 (count_of l)) lent a after
      → (a ≡ listed (list_refusal l) (sharing joints l) (length lent)) × (after ≡ filled (list_refusal l) (rows_of joints l) lent)
  all_listed {after} {a} z e =
      listing-is (sharing joints l) (rows_of joints l) z (length-rows joints l)
      (subst (λ (rows : List ℤ). Listing rows lent a after) (between-all (λ i. rows_with joints l i) (count_of l)) e)

  pub all-refused : (a : Result Listed Unfilled) (refusal : Refusal) → IsErrAnd a (λ u. u ≡ unfilled.Refused refusal) → no_of refusal ≡ list_refusal l
      → (listed_told a ≡ listed (list_refusal l) (sharing joints l) (length lent)) × (lent ≡ filled (list_refusal l) (rows_of joints l) lent)
  all-refused = listing-refused (sharing joints l) (rows_of joints l) lent (length-rows joints l)

  -- the same of one object
  module _ (i : ℕ) where
    pub one_listed : {after : List ℤ} {a : ListedTold} → one_refusal l i ≡ pos 0 → Listing (rows_between joints l i (i + 1)) lent a after
        → (a ≡ listed (one_refusal l i) (sharing_with joints l i) (length lent)) × (after ≡ filled (one_refusal l i) (rows_with joints l i) lent)
    one_listed {after} {a} z e =
        listing-is (sharing_with joints l i) (rows_with joints l i) z (length-rows-with joints l i)
        (subst (λ (rows : List ℤ). Listing rows lent a after) (between-one (λ i. rows_with joints l i) i) e)

    pub one-refused : (a : Result Listed Unfilled) (refusal : Refusal) → IsErrAnd a (λ u. u ≡ unfilled.Refused refusal) → no_of refusal ≡ one_refusal l i
        → (listed_told a ≡ listed (one_refusal l i) (sharing_with joints l i) (length lent))
        × (lent ≡ filled (one_refusal l i) (rows_with joints l i) lent)
    one-refused = listing-refused (sharing_with joints l i) (rows_with joints l i) lent (length-rows-with joints l i)

-- what is not refused can be listed
pub all-section : {l : List ℤ} → list_refusal l ≡ pos 0 → Section l 0 (count_of l)
all-section {l} z = record { list = listable l z; order = omega arith; end = omega arith }

pub one-section : {l : List ℤ} {i : ℕ} → one_refusal l i ≡ pos 0 → Section l i (i + 1)
one-section {l} {i} e =
    let z = or-zero (list_refusal l) (index_refusal l i) e in
    record { list = listable l z.0; order = omega arith; end = omega (arith, index_below l i z.1) }

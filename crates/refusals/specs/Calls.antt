-- Something said of the number that each public call refuses by, 0 where it does not refuse: whatever it is called with, of any answer that
-- meets its contract (`Post`). The calls that never refuse have no line: those of `whole` and `decimal`; of `sheet` a given point, a corner, the
-- reach test, the test whether p and q are equal, an object of a list, what is put into lent cells and the length that they need; stored_size and
-- put_stored of `number` and the call of `trial` for it; start and open_reader of `store`; the box around nothing of `screen`.
use Rattle.std.specs.Prelude.{◌≡◌, Bool, cond, ◌||◌, List, ℕ, ℤ, pos, ◌-ℤ◌, Option, Result, Ok, Err}
use Rattle.std.specs.Int.Signed.{lt_z}
use contract.Lifetimes.{Lfts}
use Rattle.std.specs.Borrow.{Bor, MutBor}
use denote.Triple.Clauses.{AtExit}
use Rattle.whole.specs.Flag.{eq_z}
use Rattle.sheet.specs.declared.Object.{Object}
use Rattle.sheet.specs.declared.Point.{Point}
use Rattle.sheet.specs.declared.Ends.{Ends}
use Rattle.sheet.specs.declared.Crossing.{Crossing}
use Rattle.sheet.specs.declared.refusal.Refusal.{Refusal}
use Rattle.sheet.specs.declared.refusal.Unfilled.{Unfilled}
use Rattle.sheet.specs.Points.{within}
use Rattle.sheet.specs.Refused.{refused_by, unfilled_no}
use Rattle.number.specs.declared.Number.{Number}
use Rattle.store.specs.declared.Form.{Form}
use Rattle.store.specs.declared.Form.TheVariants.{Old, New}
use Rattle.store.specs.declared.Read.{Read}
use Rattle.store.specs.declared.Bookmark.{Bookmark}
use Rattle.store.specs.declared.Stepped.{Stepped}
use Rattle.store.specs.declared.Reader.{Reader}
use Rattle.store.specs.declared.Taken.{Taken}
use Rattle.store.specs.Answers.{form_number}
use Rattle.listing.specs.declared.Listed.{Listed}
use Rattle.screen.specs.declared.OnScreen.{OnScreen}
use Rattle.screen.specs.declared.SheetBox.{SheetBox}
use Rattle.trial.specs.declared.RowCounts.{RowCounts}
use Rattle.trial.specs.declared.TwoNumbers.{TwoNumbers}
use Rattle.trial.specs.declared.ThreeNumbers.{ThreeNumbers}
use Rattle.trial.specs.declared.SixNumbers.{SixNumbers}
use Rattle.spot.specs.declared.TwoEnds.{TwoEnds}
use Rattle.spot.specs.declared.Answer.{Answer}
use Rattle.sheet.proofs.Object.segment.Reads as segment
use Rattle.sheet.proofs.Object.ray.Reads as ray
use Rattle.sheet.proofs.Object.line.Reads as line
use Rattle.sheet.proofs.Object.side.Reads as side
use Rattle.sheet.proofs.check_object.Reads as check-object
use Rattle.sheet.proofs.lists.check_list.Reads as check-list
use Rattle.kernel.proofs.points.check_point.Reads as check-point
use Rattle.kernel.proofs.ends.ends_of.Reads as ends_of
use Rattle.kernel.proofs.signs.order_points.Reads as order-points
use Rattle.kernel.proofs.signs.turn_points.Reads as turn-points
use Rattle.kernel.proofs.signs.side_of.Reads as side-of
use Rattle.kernel.proofs.circle.side_of_circle.Reads as side-of-circle
use Rattle.kernel.proofs.crossing.cross.Reads as cross
use Rattle.kernel.proofs.crossing.cross_kept.Reads as cross-kept
use Rattle.store.proofs.check_drawing.Reads as check-drawing
use Rattle.store.proofs.read_drawing.Reads as read-drawing
use Rattle.store.proofs.form_of.Reads as form_of
use Rattle.store.proofs.write_drawing.Reads as write-drawing
use Rattle.store.proofs.move_drawing.Reads as move-drawing
use Rattle.store.proofs.step.Reads as step
use Rattle.number.proofs.read_number.Reads as read_number
use Rattle.store.specs.contracts.next as next
use Rattle.store.proofs.ReaderPosts.{NextPost}
use Rattle.listing.proofs.list_one.Reads as list-one
use Rattle.listing.proofs.list_all.Reads as list_all
use Rattle.listing.proofs.list_near.Reads as list-near
use Rattle.rowtext.proofs.put_rows.Reads as put-rows
use Rattle.rowtext.proofs.put_objects.Reads as put-objects
use Rattle.rowtext.proofs.put_count.Reads as put_count
use Rattle.rowtext.proofs.put_refused.Reads as Put-refused
use Rattle.screen.proofs.places.place_of.Reads as place_of
use Rattle.screen.proofs.boxes.box_of.Reads as box_of
use Rattle.viewer.proofs.silvanelga_check.Reads as viewer-check
use Rattle.viewer.proofs.silvanelga_side.Reads as viewer-side
use Rattle.trial.proofs.silvanelga_trial_list.Reads as trial-list
use Rattle.trial.proofs.silvanelga_trial_near.Reads as trial-near
use Rattle.trial.proofs.silvanelga_trial_one.Reads as trial-one
use Rattle.trial.proofs.silvanelga_trial_read.Reads as trial-read
use Rattle.trial.proofs.silvanelga_trial_write.Reads as trial-write
use Rattle.trial.proofs.silvanelga_trial_form.Reads as trial-form
use Rattle.trial.proofs.silvanelga_trial_move.Reads as trial-move
use Rattle.trial.proofs.silvanelga_trial_number.Reads as trial-number
use Rattle.trial.proofs.silvanelga_trial_place.Reads as trial-place
use Rattle.trial.proofs.silvanelga_trial_box.Reads as trial-box
use Rattle.spot.proofs.silvanelga_spot_ends.Reads as spot-ends
use Rattle.spot.proofs.silvanelga_spot_order.Reads as spot-order
use Rattle.spot.proofs.silvanelga_spot_side.Reads as spot-side
use Rattle.spot.proofs.silvanelga_spot_cross.Reads as spot-cross
use Rattle.spot.proofs.silvanelga_spot_circle.Reads as spot-circle

-- two or five numbers, as a call takes them
abbrev pub Two : Type 0
Two = ℤ × (ℤ × Unit {0})

abbrev pub Five : Type 0
Five = ℤ × (ℤ × (ℤ × Two))

-- what an answer that is a number refuses by, where a refusal has 100 added to it; a number that is neither that nor an answer counts as it is
abbrev pub behind_hundred : Bool → ℤ → ℤ
behind_hundred answers r = cond (lt_z (pos 100) r) (r -ℤ pos 100) (cond answers (pos 0) r)

-- "-1, 0, 1, or 100 plus the refusal": of silvanelga_side
abbrev pub side_refusal_in : ℤ → ℤ
side_refusal_in r = behind_hundred (within (pos 1) r) r

-- 1, 2, or 100 plus the refusal: of silvanelga_trial_form
abbrev pub form_refusal_in : ℤ → ℤ
form_refusal_in r = behind_hundred (eq_z r (form_number Old) || eq_z r (form_number New)) r

-- what a call that fills lent cells refuses by, 0 where it does not refuse
abbrev pub unfilled_by : {A : Type 0} → Result A Unfilled → ℤ
unfilled_by (Ok a) = pos 0
unfilled_by (Err u) = unfilled_no u

pub record Calls (P : ℤ → Type 0) : Type 0 where
  -- sheet: objects made, objects and lists checked
  pub of_segment : (κs : Lfts 0) (a : Five) (r : Result Object Refusal) → segment.Post κs a r a → P (refused_by r)
  pub of_ray : (κs : Lfts 0) (a : Five) (r : Result Object Refusal) → ray.Post κs a r a → P (refused_by r)
  pub of_line : (κs : Lfts 0) (a : Five) (r : Result Object Refusal) → line.Post κs a r a → P (refused_by r)
  pub of-side : (κs : Lfts 0) (a : Two) (r : Result Object Refusal) → side.Post κs a r a → P (refused_by r)
  pub of_check_object : (κs : Lfts 0) (o : Object) (r : Result Unit Refusal) → check-object.Post κs (o, tt) r (o, tt) → P (refused_by r)
  pub of_check_list : (κs : Lfts 1) (l : Bor (List ℤ)) (r : Result Unit Refusal) → check-list.Post κs (l, tt) r (l, tt) → P (refused_by r)
  -- kernel: checks, ends, signs, crossing
  pub of_check_point : (κs : Lfts 0) (p : Point) (r : Result Unit Refusal) → check-point.Post κs (p, tt) r (p, tt) → P (refused_by r)
  pub of_ends_of : (κs : Lfts 0) (o : Object) (r : Result Ends Refusal) → ends_of.Post κs (o, tt) r (o, tt) → P (refused_by r)
  pub of_order_points : (κs : Lfts 0) (p q : Point) (r : Result ℤ Refusal) → order-points.Post κs (p, (q, tt)) r (p, (q, tt)) → P (refused_by r)
  pub of_turn_points : (κs : Lfts 0) (p q s : Point) (r : Result ℤ Refusal)
      → turn-points.Post κs (p, (q, (s, tt))) r (p, (q, (s, tt))) → P (refused_by r)
  pub of_side_of : (κs : Lfts 0) (o : Object) (s : Point) (r : Result ℤ Refusal) → side-of.Post κs (o, (s, tt)) r (o, (s, tt)) → P (refused_by r)
  pub of_side_of_circle : (κs : Lfts 0) (p q s u : Point) (r : Result ℤ Refusal)
      → side-of-circle.Post κs (p, (q, (s, (u, tt)))) r (p, (q, (s, (u, tt)))) → P (refused_by r)
  pub of_cross : (κs : Lfts 0) (a b : Object) (r : Result Crossing Refusal) → cross.Post κs (a, (b, tt)) r (a, (b, tt)) → P (refused_by r)
  pub of_cross_kept : (κs : Lfts 0) (a b : Object) (joints : Bool) (r : Result Crossing Refusal)
      → cross-kept.Post κs (a, (b, (joints, tt))) r (a, (b, (joints, tt))) → P (refused_by r)
  -- number: a stored number
  pub of_read_number : (κs : Lfts 1) (bytes : Bor (List ℕ)) (r : Result Number Refusal) → read_number.Post κs (bytes, tt) r (bytes, tt) → P (refused_by r)
  -- store: drawings checked, read, told by their form, written and moved, and read one object a call
  pub of_check_drawing : (κs : Lfts 1) (bytes : Bor (List ℕ)) (r : Result Unit Refusal) → check-drawing.Post κs (bytes, tt) r (bytes, tt) → P (refused_by r)
  pub of_read_drawing : (κs : Lfts 2) (bytes : Bor (List ℕ)) (out after : MutBor (List ℤ)) (r : Result Read Unfilled)
      → read-drawing.Post κs (bytes, (out, tt)) r (bytes, (after, tt)) → P (unfilled_by r)
  pub of_form_of : (κs : Lfts 1) (bytes : Bor (List ℕ)) (r : Result Form Refusal) → form_of.Post κs (bytes, tt) r (bytes, tt) → P (refused_by r)
  pub of_write_drawing : (κs : Lfts 2) (form : Form) (list : Bor (List ℤ)) (out after : MutBor (List ℕ)) (r : Result ℕ Unfilled)
      → write-drawing.Post κs (form, (list, (out, tt))) r (form, (list, (after, tt))) → P (unfilled_by r)
  pub of_move_drawing : (κs : Lfts 2) (bytes : Bor (List ℕ)) (form : Form) (out after : MutBor (List ℕ)) (r : Result ℕ Unfilled)
      → move-drawing.Post κs (bytes, (form, (out, tt))) r (bytes, (form, (after, tt))) → P (unfilled_by r)
  pub of_step : (κs : Lfts 1) (bytes : Bor (List ℕ)) (place : Bookmark) (r : Stepped)
      → step.Post κs (bytes, (place, tt)) r (bytes, (place, tt)) → P (refused_by r.item)
  pub of_next : (κs : Lfts 1) (reader : Reader) (r : Taken) (e : AtExit next.ended κs) → NextPost κs reader r e → P (refused_by r.item)
  -- listing: rows of one object, and of all pairs
  pub of_list_one : (κs : Lfts 2) (list : Bor (List ℤ)) (i : ℕ) (joints : Bool) (out after : MutBor (List ℤ)) (r : Result Listed Unfilled)
      → list-one.Post κs (list, (i, (joints, (out, tt)))) r (list, (i, (joints, (after, tt)))) → P (unfilled_by r)
  pub of_list_all : (κs : Lfts 2) (list : Bor (List ℤ)) (joints : Bool) (out after : MutBor (List ℤ)) (r : Result Listed Unfilled)
      → list_all.Post κs (list, (joints, (out, tt))) r (list, (joints, (after, tt))) → P (unfilled_by r)
  pub of_list_near : (κs : Lfts 2) (list : Bor (List ℤ)) (joints : Bool) (out after : MutBor (List ℤ)) (r : Result Listed Unfilled)
      → list-near.Post κs (list, (joints, (out, tt))) r (list, (joints, (after, tt))) → P (unfilled_by r)
  -- rowtext: the lines of a listing
  pub of_put_rows : (κs : Lfts 2) (rows : Bor (List ℤ)) (out after : MutBor (List ℕ)) (r : Result ℕ Unfilled)
      → put-rows.Post κs (rows, (out, tt)) r (rows, (after, tt)) → P (unfilled_by r)
  pub of_put_objects : (κs : Lfts 1) (n : ℕ) (out after : MutBor (List ℕ)) (r : Result ℕ Unfilled)
      → put-objects.Post κs (n, (out, tt)) r (n, (after, tt)) → P (unfilled_by r)
  pub of_put_count : (κs : Lfts 1) (n : ℕ) (out after : MutBor (List ℕ)) (r : Result ℕ Unfilled)
      → put_count.Post κs (n, (out, tt)) r (n, (after, tt)) → P (unfilled_by r)
  pub of_put_refused : (κs : Lfts 1) (n : ℤ) (out after : MutBor (List ℕ)) (r : Result ℕ Unfilled)
      → Put-refused.Post κs (n, (out, tt)) r (n, (after, tt)) → P (unfilled_by r)
  -- screen: places and boxes
  pub of_place_of : (κs : Lfts 0) (p : Point) (r : Result OnScreen Refusal) → place_of.Post κs (p, tt) r (p, tt) → P (refused_by r)
  pub of_box_of : (κs : Lfts 1) (l : Bor (List ℤ)) (r : Result (Option SheetBox) Refusal) → box_of.Post κs (l, tt) r (l, tt) → P (refused_by r)
  -- viewer: the calls for C
  pub of_viewer_check : (κs : Lfts 1) (bytes : Bor (List ℕ)) (r : ℤ) → viewer-check.Post κs (bytes, tt) r (bytes, tt) → P r
  pub of_viewer_side : (κs : Lfts 1) (bytes : Bor (List ℕ)) (i x y r : ℤ)
      → viewer-side.Post κs (bytes, (i, (x, (y, tt)))) r (bytes, (i, (x, (y, tt)))) → P (side_refusal_in r)
  -- trial: the calls for bench/ and tests/
  pub of_trial_list : (κs : Lfts 2) (list : Bor (List ℤ)) (joints : Bool) (out after : MutBor (List ℤ)) (r : RowCounts)
      → trial-list.Post κs (list, (joints, (out, tt))) r (list, (joints, (after, tt))) → P r.refusal
  pub of_trial_near : (κs : Lfts 2) (list : Bor (List ℤ)) (joints : Bool) (out after : MutBor (List ℤ)) (r : RowCounts)
      → trial-near.Post κs (list, (joints, (out, tt))) r (list, (joints, (after, tt))) → P r.refusal
  pub of_trial_one : (κs : Lfts 2) (list : Bor (List ℤ)) (i : ℕ) (joints : Bool) (out after : MutBor (List ℤ)) (r : RowCounts)
      → trial-one.Post κs (list, (i, (joints, (out, tt)))) r (list, (i, (joints, (after, tt)))) → P r.refusal
  pub of_trial_read : (κs : Lfts 2) (bytes : Bor (List ℕ)) (out after : MutBor (List ℤ)) (r : ℤ)
      → trial-read.Post κs (bytes, (out, tt)) r (bytes, (after, tt)) → P r
  pub of_trial_write : (κs : Lfts 2) (form : ℤ) (list : Bor (List ℤ)) (out after : MutBor (List ℕ)) (r : ℤ)
      → trial-write.Post κs (form, (list, (out, tt))) r (form, (list, (after, tt))) → P r
  pub of_trial_form : (κs : Lfts 1) (bytes : Bor (List ℕ)) (r : ℤ) → trial-form.Post κs (bytes, tt) r (bytes, tt) → P (form_refusal_in r)
  pub of_trial_move : (κs : Lfts 2) (bytes : Bor (List ℕ)) (form : ℤ) (out after : MutBor (List ℕ)) (r : TwoNumbers)
      → trial-move.Post κs (bytes, (form, (out, tt))) r (bytes, (form, (after, tt))) → P r.refusal
  pub of_trial_number : (κs : Lfts 1) (bytes : Bor (List ℕ)) (r : ThreeNumbers) → trial-number.Post κs (bytes, tt) r (bytes, tt) → P r.refusal
  pub of_trial_place : (κs : Lfts 0) (a : Five) (r : SixNumbers) → trial-place.Post κs a r a → P r.refusal
  pub of_trial_box : (κs : Lfts 1) (l : Bor (List ℤ)) (r : SixNumbers) → trial-box.Post κs (l, tt) r (l, tt) → P r.refusal
  -- spot: the calls for tests/spot_check.c and tests/circle.c
  pub of_spot_ends : (κs : Lfts 0) (o : Object) (r : TwoEnds) → spot-ends.Post κs (o, tt) r (o, tt) → P r.refusal
  pub of_spot_order : (κs : Lfts 0) (p q : Point) (r : Answer) → spot-order.Post κs (p, (q, tt)) r (p, (q, tt)) → P r.refusal
  pub of_spot_side : (κs : Lfts 0) (o : Object) (s : Point) (r : Answer) → spot-side.Post κs (o, (s, tt)) r (o, (s, tt)) → P r.refusal
  pub of_spot_cross : (κs : Lfts 0) (a b : Object) (r : Answer) → spot-cross.Post κs (a, (b, tt)) r (a, (b, tt)) → P r.refusal
  pub of_spot_circle : (κs : Lfts 0) (p q s u : Point) (r : Answer)
      → spot-circle.Post κs (p, (q, (s, (u, tt)))) r (p, (q, (s, (u, tt)))) → P r.refusal

-- no call refuses by n
abbrev pub Never : ℕ → Type 0
Never n = Calls (λ z. z ≡ pos n → ⊥)

-- Every number of the table is given, each by an example: what the contracts name (a crossing's refusal, a turn's, a side of circle's, that of
-- one object's rows, of reading into a lent list, of writing into lent bytes) computed on it. And what the answers of silvanelga_side refuse by.
use Rattle.std.specs.Prelude.{◌≡◌, refl, List, [], ◌∷◌, ℕ, ℤ, pos, replicate}
use Rattle.whole.specs.InTurn.{in_turn}
use Rattle.whole.specs.Sign.{sgn}
use Rattle.whole.specs.Divisor.{steps, gcd, gcd_of}
use Rattle.sheet.specs.declared.Object.{Object}
use Rattle.sheet.specs.declared.Point.{Point}
use Rattle.sheet.specs.Refusal.{pair_refusal, side_refusal, object_refusal}
use Rattle.sheet.specs.RefusalTable.{refusals}
use Rattle.sheet.specs.Points.{standard, narrow, frame, is_point, point_refusal}
use Rattle.sheet.specs.Signs.{turn_refusal}
use Rattle.sheet.specs.Circle.{is_given, given_refusal, circle_refusal}
use Rattle.sheet.specs.Crossing.{crossing_refusal}
use Rattle.sheet.specs.Answers.{object_numbers}
use Rattle.sheet.specs.Lists.{list_refusal}
use Rattle.sheet.specs.Tags.{tagged}
use Rattle.sheet.specs.Cases.{minus, object, segment, side, point, at}
use Rattle.store.specs.declared.Form.{Form}
use Rattle.store.specs.declared.Form.TheVariants.{Old}
use Rattle.store.specs.Forms.{read_tag}
use Rattle.store.specs.Stored.{read_coordinate, read_point, read_side, read_to, read_pair, read_shape, read_object, read_objects, read_form, read_count, read_head, read_drawing, tags_refusal, write_refusal}
use Rattle.number.specs.Number.{value_of, needless, read_groups}
use Rattle.store.specs.Answers.{read_answer, write_answer}
use Rattle.listing.specs.Listing.{one_refusal}
use Rattle.refusals.specs.Calls.{side_refusal_in, form_refusal_in}

pub data Met (n : ℕ) : Type 0 where
  by_crossing : (a b : Object) → crossing_refusal a b ≡ pos n → Met n
  by_turn : (p q s : Point) → turn_refusal p q s ≡ pos n → Met n
  by_circle : (p q s u : Point) → circle_refusal p q s u ≡ pos n → Met n
  by_rows : (l : List ℤ) (i : ℕ) → one_refusal l i ≡ pos n → Met n
  by_reading : (bytes : List ℕ) (lent : List ℤ) → (read_answer (read_drawing bytes) lent).refusal ≡ pos n → Met n
  by_writing : (f : Form) (l : List ℤ) (lent : List ℕ) → (write_answer f l lent).refusal ≡ pos n → Met n

pub data EachMet : List ℕ → Type 0 where
  none : EachMet []
  more : {n : ℕ} {ns : List ℕ} → Met n → EachMet ns → EachMet (n ∷ ns)

abbrev fine : Object
fine = segment (pos 0) (pos 0) (pos 1) (pos 1)

abbrev origin : Point
origin = at (pos 0) (pos 0)

pub each-met : EachMet refusals
unfolding sgn steps gcd gcd_of pair_refusal side_refusal object_refusal standard narrow frame is_point point_refusal turn_refusal is_given given_refusal circle_refusal crossing_refusal in_turn list_refusal value_of needless read_groups read_coordinate read_point read_side read_to read_pair read_tag read_shape read_object read_objects read_form read_count read_head read_drawing read_answer tags_refusal write_refusal write_answer
each-met =
    more (by_crossing (object (pos 5) (pos 0) (pos 0) (pos 1) (pos 1)) fine refl)
    (more (by_crossing fine (segment (pos 0) (pos 0) (pos 2001) (pos 1)) refl)
    (more (by_crossing fine (segment (pos 7) (pos 8) (pos 7) (pos 8)) refl)
    (more (by_crossing (side (pos 5)) fine refl)
    (more (by_turn origin origin (point (pos 0) (pos 0) (pos 0) (pos 0) (pos 2)) refl)
    (more (by_turn origin origin (point (pos 0) (pos 1) (pos 0) (pos 1) (pos 4001)) refl)
    (more (by_reading [] [] refl)
    (more (by_reading (128 ∷ 0 ∷ []) [] refl)
    (more (by_reading (0 ∷ 0 ∷ []) [] refl)
    (more (by_reading (1 ∷ 4 ∷ 1 ∷ []) [] refl)
    (more (by_rows (replicate 3078 (pos 0)) 0 refl)
    (more (by_rows (object_numbers fine) 1 refl)
    (more (by_rows (pos 4 ∷ []) 0 refl)
    (more (by_crossing fine (tagged (pos 2000001) fine) refl)
    (more (by_writing Old (object_numbers (tagged (pos 1) fine)) [] refl)
    (more (by_circle (at (pos 2001) (pos 0)) origin origin origin refl) none)))))))))))))))

pub record WorkedForm : Type 0 where
  -- 1, 2, or 100 plus the refusal
  told : (form_refusal_in (pos 1) ≡ pos 0) × (form_refusal_in (pos 2) ≡ pos 0) × (form_refusal_in (pos 115) ≡ pos 15)
  -- what is none of these is seen as it is
  form_neither : (form_refusal_in (pos 3) ≡ pos 3) × (form_refusal_in (pos 12) ≡ pos 12) × (form_refusal_in (pos 100) ≡ pos 100)

pub worked-form : WorkedForm
worked-form = record { told = (refl, refl, refl); form_neither = (refl, refl, refl) }

pub record WorkedSide : Type 0 where
  -- "-1, 0, 1, or 100 plus the refusal"
  signs : (side_refusal_in (minus 1) ≡ pos 0) × (side_refusal_in (pos 0) ≡ pos 0) × (side_refusal_in (pos 1) ≡ pos 0)
  hundred_more : (side_refusal_in (pos 101) ≡ pos 1) × (side_refusal_in (pos 113) ≡ pos 13)
  -- 12 is seen as it is and behind the hundred; what is neither a sign nor above 100 is no refusal of the table
  twelve_seen : (side_refusal_in (pos 12) ≡ pos 12) × (side_refusal_in (pos 112) ≡ pos 12)
  neither : (side_refusal_in (pos 100) ≡ pos 100) × (side_refusal_in (pos 2) ≡ pos 2) × (side_refusal_in (minus 2) ≡ minus 2)

pub worked-side : WorkedSide
worked-side = record { signs = (refl, refl, refl); hundred_more = (refl, refl); twelve_seen = (refl, refl); neither = (refl, refl, refl) }

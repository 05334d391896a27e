-- What C can take by value: a form as a number; what a listing answers; a stored number as three numbers; what moving answers as two; a place or a
-- box as six, those of what is told, in their order, and 0 for those that it has not.
use Rattle.std.specs.Prelude.{cond, List, ℕ, ℤ, pos, ◌+ℤ◌, get_or}
use Rattle.whole.specs.Flag.{eq_z}
use Rattle.sheet.specs.declared.Point.{Point}
use Rattle.sheet.specs.Points.{point_refusal}
use Rattle.screen.specs.Quotient.{zero+}
use Rattle.screen.specs.Values.{Values, float_answer}
use Rattle.screen.specs.Places.{place_of}
use Rattle.sheet.specs.Lists.{list_refusal}
use Rattle.number.specs.Number.{Said}
use Rattle.screen.specs.Boxes.{ends_of, box_of, box_says}
use Rattle.store.specs.declared.Form.{Form}
use Rattle.store.specs.declared.Form.TheVariants.{Old, New}
use Rattle.store.specs.Stored.{read_drawing, form_of}
use Rattle.store.specs.Answers.{WriteSays, form_number}
use Rattle.listing.specs.Listing.{ListedTold}
use Rattle.trial.specs.declared.RowCounts.{RowCounts}
use Rattle.trial.specs.declared.TwoNumbers.{TwoNumbers}
use Rattle.trial.specs.declared.SixNumbers.{SixNumbers}
use Rattle.trial.specs.declared.ThreeNumbers.{ThreeNumbers}

-- the form of a number: any but the new one's is the old one's
abbrev pub form_from : ℤ → Form
form_from n = cond (eq_z n (form_number New)) New Old

-- the number of a drawing's form, or 100 plus the refusal
abbrev pub form_told : List ℕ → ℤ
form_told bytes = cond (eq_z (read_drawing bytes).refusal (pos 0)) (form_number (form_of bytes)) (pos 100 +ℤ (read_drawing bytes).refusal)

abbrev pub counts_of : ListedTold → RowCounts
counts_of r = record { refusal = r.refusal; rows = r.rows; length = r.length }

abbrev pub two_of : WriteSays → TwoNumbers
two_of r = record { refusal = r.refusal; length = r.length }

abbrev pub three_of : Said → ThreeNumbers
three_of n = record { refusal = n.refusal; value = n.value; size = n.size }

abbrev pub six_of : Values → SixNumbers
six_of t = record {
  refusal = get_or t.wholes 0 (pos 0);
  number = get_or t.wholes 1 (pos 0);
  first = get_or t.floats 0 zero+;
  second = get_or t.floats 1 zero+;
  third = get_or t.floats 2 zero+;
  fourth = get_or t.floats 3 zero+;
}

-- of a place, the side number, 0 where it has none, and its two values
abbrev pub place_answer : Point → SixNumbers
place_answer p = six_of (float_answer (point_refusal p) (place_of p))

-- of a box, the flag and its four values
abbrev pub box_answer : List ℤ → SixNumbers
box_answer l = six_of (float_answer (list_refusal l) (box_says (box_of (ends_of l))))

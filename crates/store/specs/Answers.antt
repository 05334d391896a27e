-- What reading, writing and moving a drawing answer, and what the lent cells hold afterwards; and what is told of a drawing's form.
use Rattle.std.specs.Prelude.{List, [], ◌∷◌, ℕ, ℤ, pos, length, Result}
use Rattle.sheet.specs.declared.refusal.Refusal.{Refusal}
use Rattle.sheet.specs.Refused.{says}
use Rattle.sheet.specs.Answers.{answer}
use Rattle.sheet.specs.Lent.{room_refusal, other_number, length_given, filled}
use Rattle.sheet.specs.Lists.{count_of}
use Rattle.store.specs.declared.Form.{Form}
use Rattle.store.specs.declared.Form.TheVariants.{Old, New}
use Rattle.store.specs.Stored.{Drawing, write_drawing, write_refusal, read_drawing, form_of, move_refusal, moved}

-- the numbers of what reading answers, and of what writing or moving does
pub record ReadSays : Type 0 where
  pub refusal : ℤ
  pub count : ℕ
  pub length : ℕ

pub record WriteSays : Type 0 where
  pub refusal : ℤ
  pub length : ℕ

unfoldable pub read_answer : Drawing → List ℤ → ReadSays
read_answer d lent =
    let refusal = room_refusal d.refusal (length d.objects) (length lent) in
    record {
      refusal = refusal;
      count = other_number refusal (count_of d.objects);
      length = length_given d.refusal (length d.objects);
    }

unfoldable pub read_into : Drawing → List ℤ → List ℤ
read_into d lent = filled d.refusal d.objects lent

-- what is answered where bytes are put into lent ones, and n is the refusal before 10
abbrev pub bytes_answer : ℤ → List ℕ → List ℕ → WriteSays
bytes_answer n bytes lent = record { refusal = room_refusal n (length bytes) (length lent); length = length_given n (length bytes) }

unfoldable pub write_answer : Form → List ℤ → List ℕ → WriteSays
write_answer f list lent = bytes_answer (write_refusal f list) (write_drawing f list) lent

unfoldable pub write_into : Form → List ℤ → List ℕ → List ℕ
write_into f list lent = filled (write_refusal f list) (write_drawing f list) lent

unfoldable pub move_answer : Form → List ℕ → List ℕ → WriteSays
move_answer f bytes lent = bytes_answer (move_refusal f bytes) (moved f bytes) lent

unfoldable pub move_into : Form → List ℕ → List ℕ → List ℕ
move_into f bytes lent = filled (move_refusal f bytes) (moved f bytes) lent

-- ---- which form

abbrev pub form_number : Form → ℤ
form_number Old = pos 1
form_number New = pos 2

-- what is told of a form, as numbers: 0 and the form's, or the number of a refusal
abbrev pub formed_says : Result Form Refusal → List ℤ
formed_says = says (λ f. form_number f ∷ [])

-- "which form accepted bytes have", or the bytes' own refusal
unfoldable pub form_answer : List ℕ → List ℤ
form_answer bytes = answer (read_drawing bytes).refusal (form_number (form_of bytes) ∷ [])

-- A list of objects, object by object. To cite:
--   objects-more    what is written for one more object at the end
--   objects-first   what is written for one more object in front: the first, and then those of the rest of the list
-- Assumes nothing.
use Rattle.std.specs.Prelude.{◌≡◌, List, [], ◌++◌, ℕ, zero, suc, ◌+◌, ℤ, drop}
use Rattle.std.proofs.Common.{sym, ap, ◌∙◌, append_assoc, append-nil}
use Rattle.whole.specs.InTurn.{in_turn, all_of}
use Rattle.whole.specs.InTurnLaws.{turn_more}
use Rattle.sheet.specs.Lists.{width, object_at}
use Rattle.sheet.specs.ListsLaws.{object-next}
use Rattle.store.specs.declared.Form.{Form}
use Rattle.store.specs.Stored.{write_object, write_objects}

pub objects-more : (f : Form) (n : ℕ) (l : List ℤ) → write_objects f (n + 1) l ≡ write_objects f n l ++ write_object f (object_at l n)
objects-more f n l = turn_more ◌++◌ [] (λ i. write_object f (object_at l i)) n

all_first : {A : Type 0} (f : ℕ → List A) (n : ℕ) → all_of f (suc n) ≡ f 0 ++ all_of (λ i. f (suc i)) n
unfolding in_turn
all_first f zero = sym (append-nil (f 0))
all_first f (suc n) =
    ap (λ l. l ++ f (suc n)) (all_first f n) ∙ append_assoc (f 0) (all_of (λ i. f (suc i)) n) (f (suc n))

pub objects-first : (f : Form) (n : ℕ) (l : List ℤ) → write_objects f (suc n) l ≡ write_object f (object_at l 0) ++ write_objects f n (drop width l)
objects-first f n l =
    all_first (λ i. write_object f (object_at l i)) n
    ∙ (λ j. write_object f (object_at l 0) ++ all_of (λ i. write_object f (sym (object-next l i) j)) n)

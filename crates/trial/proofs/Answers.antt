-- Two answers that meet a function's contract are equal, and so are the two contents of a lent list afterwards: stated of the
-- contract itself (`Post`), at any arguments.
use mathlib.Core.Path.{◌≡◌, sym, ◌∙◌}
use mathlib.Core.Bool.{Bool}
use mathlib.Core.List.{List}
use Prim.Native.Nat.{ℕ}
use lib.IntN.{ℤ}
use contract.Lifetimes.{Lfts}
use denote.Ref.{Bor}
use denote.MutBor.{MutBor}
use Rattle.trial.specs.declared.RowCounts.{RowCounts}
use Rattle.trial.specs.declared.TwoNumbers.{TwoNumbers}
use Rattle.trial.specs.declared.ThreeNumbers.{ThreeNumbers}
use Rattle.trial.specs.declared.SixNumbers.{SixNumbers}
use Rattle.trial.proofs.silvanelga_trial_list.Reads as trial-list
use Rattle.trial.proofs.silvanelga_trial_near.Reads as trial-near
use Rattle.trial.proofs.silvanelga_trial_one.Reads as trial-one
use Rattle.trial.proofs.silvanelga_trial_read.Reads as trial-read
use Rattle.trial.proofs.silvanelga_trial_write.Reads as trial-write
use Rattle.trial.proofs.silvanelga_trial_form.Reads as trial-form
use Rattle.trial.proofs.silvanelga_trial_move.Reads as trial-move
use Rattle.trial.proofs.silvanelga_trial_number.Reads as trial-number
use Rattle.trial.proofs.silvanelga_trial_put.Reads as trial-put
use Rattle.trial.proofs.silvanelga_trial_place.Reads as trial-place
use Rattle.trial.proofs.silvanelga_trial_box.Reads as trial-box

pub trial-list-answer :
    (κs : Lfts 2) (list : Bor (List ℤ)) (joints : Bool) (rows : MutBor (List ℤ)) (r s : RowCounts) (l m : MutBor (List ℤ))
    → trial-list.Post κs (list, (joints, (rows, tt))) r (list, (joints, (l, tt))) → trial-list.Post κs (list, (joints, (rows, tt))) s (list, (joints, (m, tt)))
    → (r ≡ s) × (l.now ≡ m.now)
trial-list-answer κs list joints rows r s l m p q = (p.0 ∙ sym q.0, p.1 ∙ sym q.1)

pub trial-near-answer :
    (κs : Lfts 2) (list : Bor (List ℤ)) (joints : Bool) (rows : MutBor (List ℤ)) (r s : RowCounts) (l m : MutBor (List ℤ))
    → trial-near.Post κs (list, (joints, (rows, tt))) r (list, (joints, (l, tt))) → trial-near.Post κs (list, (joints, (rows, tt))) s (list, (joints, (m, tt)))
    → (r ≡ s) × (l.now ≡ m.now)
trial-near-answer κs list joints rows r s l m p q = (p.0 ∙ sym q.0, p.1 ∙ sym q.1)

pub trial-one-answer :
    (κs : Lfts 2) (list : Bor (List ℤ)) (i : ℕ) (joints : Bool) (rows : MutBor (List ℤ)) (r s : RowCounts) (l m : MutBor (List ℤ))
    → trial-one.Post κs (list, (i, (joints, (rows, tt)))) r (list, (i, (joints, (l, tt))))
    → trial-one.Post κs (list, (i, (joints, (rows, tt)))) s (list, (i, (joints, (m, tt))))
    → (r ≡ s) × (l.now ≡ m.now)
trial-one-answer κs list i joints rows r s l m p q = (p.0 ∙ sym q.0, p.1 ∙ sym q.1)

pub trial-read-answer :
    (κs : Lfts 2) (bytes : Bor (List ℕ)) (list : MutBor (List ℤ)) (r s : ℤ) (l m : MutBor (List ℤ))
    → trial-read.Post κs (bytes, (list, tt)) r (bytes, (l, tt)) → trial-read.Post κs (bytes, (list, tt)) s (bytes, (m, tt))
    → (r ≡ s) × (l.now ≡ m.now)
trial-read-answer κs bytes list r s l m p q = (p.0 ∙ sym q.0, p.1 ∙ sym q.1)

pub trial-write-answer :
    (κs : Lfts 2) (form : ℤ) (list : Bor (List ℤ)) (bytes : MutBor (List ℕ)) (r s : ℤ) (l m : MutBor (List ℕ))
    → trial-write.Post κs (form, (list, (bytes, tt))) r (form, (list, (l, tt))) → trial-write.Post κs (form, (list, (bytes, tt))) s (form, (list, (m, tt)))
    → (r ≡ s) × (l.now ≡ m.now)
trial-write-answer κs form list bytes r s l m p q = (p.0 ∙ sym q.0, p.1 ∙ sym q.1)

pub trial-form-answer :
    (κs : Lfts 1) (bytes : Bor (List ℕ)) (r s : ℤ) → trial-form.Post κs (bytes, tt) r (bytes, tt) → trial-form.Post κs (bytes, tt) s (bytes, tt) → r ≡ s
trial-form-answer κs bytes r s p q = p ∙ sym q

pub trial-move-answer :
    (κs : Lfts 2) (bytes : Bor (List ℕ)) (form : ℤ) (out : MutBor (List ℕ)) (r s : TwoNumbers) (l m : MutBor (List ℕ))
    → trial-move.Post κs (bytes, (form, (out, tt))) r (bytes, (form, (l, tt))) → trial-move.Post κs (bytes, (form, (out, tt))) s (bytes, (form, (m, tt)))
    → (r ≡ s) × (l.now ≡ m.now)
trial-move-answer κs bytes form out r s l m p q = (p.0 ∙ sym q.0, p.1 ∙ sym q.1)

pub trial-number-answer :
    (κs : Lfts 1) (bytes : Bor (List ℕ)) (r s : ThreeNumbers)
    → trial-number.Post κs (bytes, tt) r (bytes, tt) → trial-number.Post κs (bytes, tt) s (bytes, tt) → r ≡ s
trial-number-answer κs bytes r s p q = p ∙ sym q

pub trial-put-answer :
    (κs : Lfts 2) (numbers : Bor (List ℕ)) (out d e : MutBor (List ℕ)) (at r s : ℕ)
    → trial-put.Post κs (numbers, (out, (at, tt))) r (numbers, (d, (at, tt))) → trial-put.Post κs (numbers, (out, (at, tt))) s (numbers, (e, (at, tt)))
    → (r ≡ s) × (d.now ≡ e.now)
trial-put-answer κs numbers out d e at r s p q = (p.place ∙ sym q.place, p.cells ∙ sym q.cells)

pub trial-place-answer :
    (κs : Lfts 0) (mx nx my ny w : ℤ) (r s : SixNumbers)
    → trial-place.Post κs (mx, (nx, (my, (ny, (w, tt))))) r (mx, (nx, (my, (ny, (w, tt)))))
    → trial-place.Post κs (mx, (nx, (my, (ny, (w, tt))))) s (mx, (nx, (my, (ny, (w, tt)))))
    → r ≡ s
trial-place-answer κs mx nx my ny w r s p q = p ∙ sym q

pub trial-box-answer :
    (κs : Lfts 1) (l : Bor (List ℤ)) (r s : SixNumbers)
    → trial-box.Post κs (l, tt) r (l, tt) → trial-box.Post κs (l, tt) s (l, tt) → r ≡ s
trial-box-answer κs l r s p q = p ∙ sym q

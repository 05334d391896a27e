-- The points of an object, read one after the other, as the code reads them: each counted from the one before, or, in the old form, from 0. To cite:
--   read_points, points-start   so many points are left, behind the last two that were read; before the first
--   points-next, points-refused   one more is read, behind i of them; it is refused
--   points-equal, points-done   both are read, and are equal; and are not
-- Assumes nothing.
use Rattle.std.specs.Prelude.{◌≡◌, true, false, List, ℕ, zero, suc, ◌+◌, ◌-◌, ◌<◌, ◌≤◌, ℤ, pos}
use Rattle.std.proofs.Common.{sym, ap, ◌∙◌, arith}
use Rattle.sheet.specs.declared.Object.{Object}
use Rattle.sheet.specs.Figure.{Vec}
use Rattle.sheet.specs.Refusal.{equal}
use Rattle.number.specs.Number.{Reading, got, no, next, checked}
use Rattle.store.specs.declared.Form.{Form}
use Rattle.store.specs.Forms.{nought, origin_of}
use Rattle.store.specs.Stored.{object_of, read_point, read_to, read_pair}
use Rattle.store.specs.FormsLaws.{origin-nought}

-- what is read where `left` points are to be read, and p and q are the last two before them
abbrev pub read_points : Form → ℕ → ℤ → ℕ → Vec → Vec → List ℕ → Reading Object
read_points f kind tag zero p q bs =
    checked (equal p.x p.y q.x q.y) (pos 3) (object_of (pos kind) tag p.x p.y q.x q.y) bs
read_points f kind tag (suc left) p q bs = next (read_point (origin_of f q) bs) (λ r rest. read_points f kind tag left q r rest)

-- before the first point stands 0
pub points-start : (f : Form) (kind : ℕ) (tag : ℤ) (bs : List ℕ) (p : Vec) → read_pair f kind tag bs ≡ read_points f kind tag 2 p nought bs
unfolding read_pair read_to
points-start f kind tag bs p =
    ap (λ (start : Vec). next (read_point start bs) (λ p rest. read_points f kind tag 1 nought p rest)) (sym (origin-nought f))

module _ (f : Form) (kind : ℕ) (tag : ℤ) (i : ℕ) (p q : Vec) (bs : List ℕ) where
  pub points-next :
      {r : Vec} {rest : List ℕ} → i < 2 → got r rest ≡ read_point (origin_of f q) bs
      → read_points f kind tag (2 - i) p q bs ≡ read_points f kind tag (2 - (i + 1)) q r rest
  points-next h t =
      let e : 2 - i ≡ suc (2 - (i + 1)) = omega arith in
      ap (λ (left : ℕ). read_points f kind tag left p q bs) e
      ∙ ap (λ (x : Reading Vec). next x (λ r rest. read_points f kind tag (2 - (i + 1)) q r rest)) (sym t)

  pub points-refused : {n : ℤ} → i < 2 → no n ≡ read_point (origin_of f q) bs → read_points f kind tag (2 - i) p q bs ≡ no n
  points-refused h t =
      let e : 2 - i ≡ suc (2 - (i + 1)) = omega arith in
      ap (λ (left : ℕ). read_points f kind tag left p q bs) e
      ∙ ap (λ (x : Reading Vec). next x (λ r rest. read_points f kind tag (2 - (i + 1)) q r rest)) (sym t)

  pub points-equal : 2 ≤ i → equal p.x p.y q.x q.y ≡ true → read_points f kind tag (2 - i) p q bs ≡ no (pos 3)
  points-equal h d =
      let e : 2 - i ≡ 0 = omega arith in
      ap (λ (left : ℕ). read_points f kind tag left p q bs) e ∙ simp d

  pub points-done :
      2 ≤ i → equal p.x p.y q.x q.y ≡ false → read_points f kind tag (2 - i) p q bs ≡ got (object_of (pos kind) tag p.x p.y q.x q.y) bs
  points-done h d =
      let e : 2 - i ≡ 0 = omega arith in
      ap (λ (left : ℕ). read_points f kind tag left p q bs) e ∙ simp d

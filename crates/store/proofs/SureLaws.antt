-- What each reading is: what was read has P and some bytes in front of the rest, or the refusal is one of stored bytes. To cite:
--   Sure, Any       such a reading; P that holds of all
--   Kept, Fits      a tag that a form keeps; an accepted object with such a tag
--   not-nought      such a refusal is not 0
--   rest-within     the rest behind what was read is no longer than the bytes
--   sure-number, sure-coordinate, sure-point, sure-fits, sure-object, sure-count, sure-head   each reading is so
-- Assumes nothing.
use Rattle.std.specs.Prelude.{◌≡◌, Bool, true, false, cond, List, [], ◌++◌, ℕ, zero, suc, ◌≤◌, ltb, eqb, ℤ, pos, ◌+ℤ◌, length}
use Rattle.std.proofs.Math.Path.{refl}
use Rattle.std.proofs.Common.{sym, ap, ◌∙◌, true≢false, append_assoc, arith, length-append, ltb-false, ne_eqb}
use Rattle.whole.specs.Flag.{eq_z}
use Rattle.sheet.specs.declared.Object.{Object}
use Rattle.sheet.specs.Figure.{vec, Vec}
use Rattle.sheet.specs.Limits.{most, last_tag}
use Rattle.sheet.specs.Refusal.{outside, beyond, equal, pair_refusal, side_refusal, tag_refusal, object_refusal, Accepted}
use Rattle.sheet.specs.RefusalTable.{among}
use Rattle.number.specs.Number.{Reading, got, no, next, checked, read_number, unzigzag}
use Rattle.store.specs.declared.Form.{Form}
use Rattle.store.specs.declared.Form.TheVariants.{Old, New}
use Rattle.store.specs.Forms.{mark, untagged, read_tag, nought, origin_of}
use Rattle.store.specs.Stored.{head_of, read_coordinate, read_point, read_side, read_to, read_pair, read_shape, read_tagged, read_object, read_form, read_count, read_head}
use Rattle.number.proofs.NumberLaws.{Numbered, number, ends, wrong, number_is}
use Rattle.store.specs.Refusals.{of_bytes}

pub data Sure {A : Type 0} (P : A → Type 0) (bs : List ℕ) : Reading A → Type 0 where
  read : (a : A) (front rest : List ℕ) → bs ≡ front ++ rest → P a → Sure P bs (got a rest)
  refused : (n : ℕ) → among n of_bytes ≡ true → Sure P bs (no (pos n))

pub not-nought : (n : ℕ) → among n of_bytes ≡ true → eq_z (pos n) (pos 0) ≡ false
not-nought zero e = absurd (true≢false (sym e))
not-nought (suc n) e = ne_eqb (suc n) 0 (λ z. omega arith)

same-rest : {A : Type 0} {a b : A} {rest rest' : List ℕ} → got a rest ≡ got b rest' → length rest ≡ length rest'
same-rest {A} {a} {b} {rest} {rest'} e = let f : rest ≡ rest' = cc in ap length f

pub rest-within : {A : Type 0} {P : A → Type 0} {bs rest : List ℕ} {a : A} {r : Reading A} → Sure P bs r → got a rest ≡ r → length rest ≤ length bs
rest-within (read b front rest' e p) t = omega (arith, ap length e, length-append front rest', same-rest t)
rest-within (refused n z) t = cc

sure_next :
    {A B : Type 0} {P : A → Type 0} {Q : B → Type 0} {bs : List ℕ} {r : Reading A} {f : A → List ℕ → Reading B} → Sure P bs r
    → ((a : A) (rest : List ℕ) → P a → Sure Q rest (f a rest)) → Sure Q bs (next r f)
sure_next (refused n z) h = refused n z
sure_next {A} {B} {P} {Q} {bs} (read a front rest e p) h = go (h a rest p)
  where
    go : {s : Reading B} → Sure Q rest s → Sure Q bs s
    go (refused n z) = refused n z
    go (read b front' rest' e' q) =
        read b (front ++ front') rest' (e ∙ ap (λ (l : List ℕ). front ++ l) e' ∙ sym (append_assoc front front' rest')) q

sure-cond : {A : Type 0} {P : A → Type 0} {bs : List ℕ} (t : Bool) {r s : Reading A} → Sure P bs r → (t ≡ false → Sure P bs s) → Sure P bs (cond t r s)
sure-cond true h k = h
sure-cond false h k = k refl

sure-checked :
    {A : Type 0} {P : A → Type 0} (t : Bool) (n : ℕ) (a : A) (rest : List ℕ) → among n of_bytes ≡ true → (t ≡ false → P a)
    → Sure P rest (checked t (pos n) a rest)
sure-checked t n a rest e f = sure-cond t (refused n e) (λ z. read a [] rest refl (f z))

-- ---- numbers and points

abbrev pub Any : {A : Type 0} → A → Type 0
Any a = Unit {0}

pub sure-number : (bs : List ℕ) → Sure Any bs (read_number bs)
sure-number bs = go (number_is bs)
  where
    go : {r : Reading ℕ} → Numbered bs r → Sure Any bs r
    go (number n front rest e) = read n front rest e tt
    go ends = refused 7 refl
    go wrong = refused 8 refl

pub sure-coordinate : (start : ℤ) (bs : List ℕ) → Sure (λ z. beyond z ≡ false) bs (read_coordinate start bs)
unfolding read_coordinate
sure-coordinate start bs = sure_next (sure-number bs) (λ n rest u. sure-checked (beyond (start +ℤ unzigzag n)) 2 _ rest refl (λ e. e))

abbrev pub NotBeyond : Vec → Type 0
NotBeyond p = (beyond p.x ≡ false) × (beyond p.y ≡ false)

pub sure-point : (start : Vec) (bs : List ℕ) → Sure NotBeyond bs (read_point start bs)
unfolding read_point
sure-point start bs =
    sure_next (sure-coordinate start.x bs)
    (λ x rest e. sure_next (sure-coordinate start.y rest) (λ y rest f. read (vec x y) [] rest refl (e, f)))

-- ---- objects

-- a tag that a form keeps: the old one has a place for 0 alone
pub data Kept : Form → ℤ → Type 0 where
  kept_old : {t : ℤ} → t ≡ untagged → Kept Old t
  kept_new : {t : ℤ} → Kept New t

abbrev pub Fits : Form → Object → Type 0
Fits f o = Accepted o × Kept f o.tag

-- it is not refused, and the form keeps it
abbrev TagFits : Form → ℤ → Type 0
TagFits f t = (tag_refusal t ≡ pos 0) × Kept f t

sure-tag : (f : Form) (bs : List ℕ) → Sure (TagFits f) bs (read_tag f bs)
unfolding read_tag
sure-tag Old bs = read untagged [] bs refl (refl, kept_old refl)
sure-tag New bs =
    sure_next (sure-number bs) (λ n rest u. sure-checked (outside (pos 0) last_tag (pos n)) 15 _ rest refl (λ e. (simp e, kept_new)))

module _ (f : Form) (tag : ℤ) (fine : TagFits f tag) where
  sure-side : (bs : List ℕ) → Sure (Fits f) bs (read_side tag bs)
  unfolding read_side object_refusal side_refusal
  sure-side bs =
      sure_next (sure-number bs)
      (λ n rest u. sure-checked (outside (pos 1) (pos 4) (pos n)) 4 _ rest refl (λ e. (record { accepted = simp (e, fine.0) }, fine.1)))

  module _ (kind : ℕ) (in-range : outside (pos 1) (pos 4) (pos kind) ≡ false) (other : eqb kind 4 ≡ false) where
    sure-to : (p : Vec) (bs : List ℕ) → NotBeyond p → Sure (Fits f) bs (read_to f kind tag p bs)
    unfolding read_to object_refusal pair_refusal
    sure-to p bs h =
        sure_next (sure-point (origin_of f p) bs)
        (λ q rest k. sure-checked (equal p.x p.y q.x q.y) 3 _ rest refl
        (λ e. (record { accepted = simp (in-range, other, h.0, h.1, k.0, k.1, e, fine.0) }, fine.1)))

    sure-pair : (bs : List ℕ) → Sure (Fits f) bs (read_pair f kind tag bs)
    unfolding read_pair
    sure-pair bs = sure_next (sure-point nought bs) (λ p rest h. sure-to p rest h)

  sure-shape : (kind : ℕ) (bs : List ℕ) → outside (pos 1) (pos 4) (pos kind) ≡ false → Sure (Fits f) bs (read_shape f kind tag bs)
  unfolding read_shape
  sure-shape kind bs e = sure-cond (eqb kind 4) (sure-side bs) (λ z. sure-pair kind e z bs)

sure-tagged : (f : Form) (kind : ℕ) (bs : List ℕ) → outside (pos 1) (pos 4) (pos kind) ≡ false → Sure (Fits f) bs (read_tagged f kind bs)
sure-tagged f kind bs e = sure_next (sure-tag f bs) (λ tag rest fine. sure-shape f tag fine kind rest e)

pub sure-fits : (f : Form) (bs : List ℕ) → Sure (Fits f) bs (read_object f bs)
unfolding read_object
sure-fits f bs =
    sure_next (sure-number bs)
    (λ kind rest u. sure-cond (outside (pos 1) (pos 4) (pos kind)) (refused 1 refl) (λ e. sure-tagged f kind rest e))

pub sure-object : (f : Form) (bs : List ℕ) → Sure Accepted bs (read_object f bs)
sure-object f bs = go (sure-fits f bs)
  where
    go : {r : Reading Object} → Sure (Fits f) bs r → Sure Accepted bs r
    go (read o front rest e k) = read o front rest e k.0
    go (refused n z) = refused n z

-- ---- what stands before the objects

sure-form : (bs : List ℕ) → Sure Any bs (read_form bs)
unfolding read_form
sure-form bs = go (sure-number bs)
  where
    go : {r : Reading ℕ} → Sure Any bs r → Sure Any bs (next r (λ n rest. cond (eqb n mark) (got New rest) (got Old bs)))
    go (refused n z) = refused n z
    go (read n front rest e u) = sure-cond (eqb n mark) (read New front rest e tt) (λ _. read Old [] bs refl tt)

pub sure-count : (bs : List ℕ) → Sure (λ n. n ≤ most) bs (read_count bs)
unfolding read_count
sure-count bs = sure_next (sure-number bs) (λ n rest u. sure-checked (ltb most n) 11 _ rest refl (λ e. ltb-false most n e))

pub sure-head : (bs : List ℕ) → Sure (λ h. h.count ≤ most) bs (read_head bs)
unfolding read_head
sure-head bs =
    sure_next (sure-form bs) (λ f rest u. sure_next (sure-count rest) (λ n rest few. read (head_of f n) [] rest refl few))

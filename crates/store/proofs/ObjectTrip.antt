-- Objects in a form, written and read again, and back. To cite:
--   object-back   an accepted object whose tag the form keeps is read as it was, its first point first
--   object-from   what is written for what is read is what was read
-- Assumes nothing.
use Rattle.std.specs.Prelude.{◌≡◌, Bool, ◌||◌, ℕ, ◌≤◌, ltb, eqb, ℤ, negsuc, nat_abs}
use Rattle.std.proofs.Math.Path.{refl, sym, ap, subst}
use Rattle.std.proofs.Common.{◌∙◌, true≢false, arith, eqb-true, ltb-false}
use Rattle.std.proofs.Math.Bool.{true, false, cond}
use mathlib.Core.List.{List, ◌++◌, append_assoc}
use Rattle.std.proofs.Math.IntN.{pos}
use Rattle.whole.specs.Tests.{eq_z-true}
use Rattle.whole.specs.ChoiceLaws.{or-zero}
use Rattle.sheet.specs.declared.Object.{Object}
use Rattle.sheet.specs.Figure.{vec, Vec}
use Rattle.sheet.specs.Limits.{last_tag}
use Rattle.sheet.specs.Refusal.{outside, beyond, any_beyond, equal, pair_refusal, side_refusal, refusal_of, tag_refusal, object_refusal}
use Rattle.sheet.proofs.RefusalLaws.{by-numbers}
use Rattle.sheet.specs.Flags.{neither, isnt-not, cond-zero}
use Rattle.number.specs.Number.{Reading, got, no, next, checked, write_number, Bytes}
use Rattle.store.specs.declared.Form.{Form}
use Rattle.store.specs.declared.Form.TheVariants.{Old, New}
use Rattle.store.specs.Forms.{write_tag, read_tag, untagged, nought, origin_of}
use Rattle.store.specs.Stored.{write_point, write_pair, write_shape, write_object, object_of, side_object, read_side, read_to, read_pair, read_shape, read_tagged, read_object}
use Rattle.number.proofs.TripLaws.{behind-bytes, From, from, not, from-checked, number-back, number-from}
use Rattle.store.proofs.SureLaws.{Kept, kept_old, kept_new, Fits}
use Rattle.store.specs.BoundedLaws.{small-tag}
use Rattle.store.specs.Trip.{InReach, point-back, point-from, near-nought, near-origin}

-- ---- what refusal 0 says, as flags

pub record PairFlags (px py qx qy : ℤ) : Type 0 where
  pub near_p : InReach (vec px py)
  pub near_q : InReach (vec qx qy)
  pub differ : equal px py qx qy ≡ false

pair-flags : (px py qx qy : ℤ) → pair_refusal px py qx qy ≡ pos 0 → PairFlags px py qx qy
unfolding pair_refusal
pair-flags px py qx qy h =
    let a = (cond-zero (any_beyond px py qx qy) (pos 2) _ refl).0 h in
    let d = (cond-zero (equal px py qx qy) (pos 3) (pos 0) refl).0 a.1 in
    let c = (neither (beyond px || beyond py || beyond qx) (beyond qy)).0 a.0 in
    let e = (neither (beyond px || beyond py) (beyond qx)).0 c.0 in
    let f = (neither (beyond px) (beyond py)).0 e.0 in
    record { near_p = record { in_x = f.0; in_y = f.1 }; near_q = record { in_x = e.1; in_y = c.1 }; differ = d.0 }

-- a number from 1 to 4 is a natural number
natural : (z : ℤ) → outside (pos 1) (pos 4) z ≡ false → z ≡ pos (nat_abs z)
natural (pos n) e = refl
natural (negsuc n) e = absurd (true≢false e)

small-natural : (n : ℕ) → outside (pos 1) (pos 4) (pos n) ≡ false → n ≤ 4
small-natural n e = ltb-false 4 n ((neither (ltb n 1) (ltb 4 n)).0 e).1

-- ---- back

tag_back : (f : Form) (t : ℤ) (rest : List ℕ) → tag_refusal t ≡ pos 0 → Kept f t → read_tag f (write_tag f t ++ rest) ≡ got t rest
unfolding read_tag write_tag
tag_back Old t rest e (kept_old k) = ap (λ (t : ℤ). got t rest) (sym k)
tag_back New t rest e kept_new =
    let small = small-tag t e in
    let fine : outside (pos 0) last_tag (pos (nat_abs t)) ≡ false =
    sym (ap (outside (pos 0) last_tag) small.is) ∙ ((cond-zero (outside (pos 0) last_tag t) (pos 15) (pos 0) refl).0 e).0 in
    simp (number-back (nat_abs t) rest (omega (arith, small.small)), fine) (ap (λ (t : ℤ). got t rest) (sym small.is))

module _ (tag : ℤ) where
  side-back :
      (px py qx qy : ℤ) (rest : List ℕ) → side_refusal px py qx qy ≡ pos 0
      → read_side tag (write_number (nat_abs px) ++ rest) ≡ got (object_of (pos 4) tag px py qx qy) rest
  unfolding side_refusal read_side
  side-back px py qx qy rest h =
      let a = ((cond-zero _ (pos 4) (pos 0) refl).0 h).0 in
      let c = (neither _ _).0 a in
      let d = (neither _ _).0 c.0 in
      let e = (neither _ _).0 d.0 in
      let n = natural px e.0 in
      let in-range : outside (pos 1) (pos 4) (pos (nat_abs px)) ≡ false = sym (ap (outside (pos 1) (pos 4)) n) ∙ e.0 in
      let small = small-natural (nat_abs px) in-range in
      simp (number-back (nat_abs px) rest (omega arith), in-range)
      (λ i. got
      (object_of (pos 4) tag (sym n i) (sym (eq_z-true {a = py} ((isnt-not _).0 e.1)) i) (sym (eq_z-true {a = qx} ((isnt-not _).0 d.1)) i)
      (sym (eq_z-true {a = qy} ((isnt-not _).0 c.1)) i))
      rest)

  module _ (f : Form) where
    pair-back :
        (kind : ℕ) (px py qx qy : ℤ) (rest : List ℕ) → pair_refusal px py qx qy ≡ pos 0
        → read_pair f kind tag (write_pair f (vec px py) (vec qx qy) ++ rest) ≡ got (object_of (pos kind) tag px py qx qy) rest
    unfolding read_pair read_to
    pair-back kind px py qx qy rest h =
        let p = vec px py in
        let q = vec qx qy in
        let l = pair-flags px py qx qy h in
        simp (
          append_assoc (write_point nought p) (write_point (origin_of f p) q) rest,
          point-back nought p (write_point (origin_of f p) q ++ rest) near-nought l.near_p,
          point-back (origin_of f p) q rest (near-origin f l.near_p) l.near_q,
          l.differ,
        )

    shape-back :
        (kind : ℕ) (px py qx qy : ℤ) (rest : List ℕ)
        → cond (eqb kind 4) (side_refusal px py qx qy) (pair_refusal px py qx qy) ≡ pos 0
        → read_shape f kind tag (write_shape f (pos kind) px py qx qy ++ rest) ≡ got (object_of (pos kind) tag px py qx qy) rest
    unfolding read_shape write_shape
    shape-back kind px py qx qy rest h = go (eqb kind 4) (eqb-true kind 4) h
      where
        go : (t : Bool) → (t ≡ true → kind ≡ 4) → cond t (side_refusal px py qx qy) (pair_refusal px py qx qy) ≡ pos 0
            → cond t (read_side tag (cond t (write_number (nat_abs px)) (write_pair f (vec px py) (vec qx qy)) ++ rest))
            (read_pair f kind tag (cond t (write_number (nat_abs px)) (write_pair f (vec px py) (vec qx qy)) ++ rest))
            ≡ got (object_of (pos kind) tag px py qx qy) rest
        go true y h = side-back px py qx qy rest h ∙ ap (λ (k : ℕ). got (object_of (pos k) tag px py qx qy) rest) (sym (y refl))
        go false y h = pair-back kind px py qx qy rest h

pub object-back : (f : Form) (o : Object) (rest : List ℕ) → Fits f o → read_object f (write_object f o ++ rest) ≡ got o rest
unfolding read_object write_object object_refusal
object-back f o rest h =
    let five = by-numbers h.0 in
    let e = natural o.kind ((cond-zero _ (pos 1) _ refl).0 five).0 in
    subst
    (λ (z : ℤ). refusal_of z o.px o.py o.qx o.qy ≡ pos 0
    → read_object f (write_object f (of z) ++ rest) ≡ got (of z) rest)
    (sym e) (at (nat_abs o.kind)) five
  where
    of : ℤ → Object
    of z = object_of z o.tag o.px o.py o.qx o.qy

    at : (k : ℕ) → refusal_of (pos k) o.px o.py o.qx o.qy ≡ pos 0
        → read_object f (write_object f (of (pos k)) ++ rest) ≡ got (of (pos k)) rest
    at k g =
        let l = (cond-zero (outside (pos 1) (pos 4) (pos k)) (pos 1) _ refl).0 g in
        let small = small-natural k l.0 in
        let tag = write_tag f o.tag in
        let shape = write_shape f (pos k) o.px o.py o.qx o.qy in
        let fine = (or-zero (refusal_of o.kind o.px o.py o.qx o.qy) (tag_refusal o.tag) h.0.accepted).1 in
        simp (
          append_assoc (write_number k) (tag ++ shape) rest,
          append_assoc tag shape rest,
          number-back k (tag ++ (shape ++ rest)) (omega arith),
          l.0,
          tag_back f o.tag (shape ++ rest) fine h.1,
        )
        (shape-back o.tag f k o.px o.py o.qx o.qy rest l.1)

-- ---- from

-- the third of three pieces is read behind the first two
third : (a b c rest : List ℕ) {bs : List ℕ} → bs ≡ c ++ rest → a ++ (b ++ bs) ≡ (a ++ (b ++ c)) ++ rest
third a b c rest e =
    ap (λ (l : List ℕ). a ++ (b ++ l)) e
    ∙ ap (λ (l : List ℕ). a ++ l) (sym (append_assoc b c rest))
    ∙ sym (append_assoc a (b ++ c) rest)

module _ (f : Form) where
  tag-from : (bs : List ℕ) → Bytes bs → From (write_tag f) bs (read_tag f bs)
  unfolding read_tag write_tag
  tag-from bs h = at f
    where
      go : {r : Reading ℕ} → From write_number bs r
          → From (write_tag New) bs (next r (λ n rest. checked (outside (pos 0) last_tag (pos n)) (pos 15) (pos n) rest))
      go (not n) = not n
      go (from n rest e) = from-checked (outside (pos 0) last_tag (pos n)) (pos 15) (pos n) rest e

      at : (f : Form) → From (write_tag f) bs (read_tag f bs)
      at Old = from untagged bs refl
      at New = go (number-from bs h)

  module _ (tag : ℤ) where
    -- the bytes of an object's kind and tag, in front of others
    abbrev front : ℕ → List ℕ → List ℕ
    front kind bs = write_number kind ++ (write_tag f tag ++ bs)

    side-from : (bs : List ℕ) → Bytes bs → From (write_object f) (front 4 bs) (read_side tag bs)
    unfolding read_side write_shape write_object
    side-from bs h = go (number-from bs h)
      where
        go : {r : Reading ℕ} → From write_number bs r
            → From (write_object f) (front 4 bs)
            (next r (λ n rest. checked (outside (pos 1) (pos 4) (pos n)) (pos 4) (side_object tag (pos n)) rest))
        go (not n) = not n
        go (from n rest e) =
            from-checked (outside (pos 1) (pos 4) (pos n)) (pos 4) (side_object tag (pos n)) rest
            (third (write_number 4) (write_tag f tag) (write_number n) rest e)

    module _ (kind : ℕ) (other : eqb kind 4 ≡ false) where
      to-from :
          (bs rest : List ℕ) (p : Vec) → bs ≡ write_point nought p ++ rest → Bytes rest
          → From (write_object f) (front kind bs) (read_to f kind tag p rest)
      unfolding read_to write_shape write_object
      to-from bs rest p e h = go (point-from (origin_of f p) rest h)
        where
          go : {r : Reading Vec} → From (write_point (origin_of f p)) rest r
              → From (write_object f) (front kind bs)
              (next r (λ q rest. checked (equal p.x p.y q.x q.y) (pos 3) (object_of (pos kind) tag p.x p.y q.x q.y) rest))
          go (not n) = not n
          go (from q rest' g) =
              let both = e
              ∙ ap (λ (l : List ℕ). write_point nought p ++ l) g
              ∙ sym (append_assoc (write_point nought p) (write_point (origin_of f p) q) rest') in
              from-checked (equal p.x p.y q.x q.y) (pos 3) (object_of (pos kind) tag p.x p.y q.x q.y) rest'
              (simp other (third (write_number kind) (write_tag f tag) (write_pair f p q) rest' both))

      pair-from : (bs : List ℕ) → Bytes bs → From (write_object f) (front kind bs) (read_pair f kind tag bs)
      unfolding read_pair
      pair-from bs h = go (point-from nought bs h)
        where
          go : {r : Reading Vec} → From (write_point nought) bs r → From (write_object f) (front kind bs) (next r (λ p rest. read_to f kind tag p rest))
          go (not n) = not n
          go (from p rest e) = to-from bs rest p e (behind-bytes (write_point nought p) e h)

    shape-from : (kind : ℕ) (bs : List ℕ) → Bytes bs → From (write_object f) (front kind bs) (read_shape f kind tag bs)
    unfolding read_shape
    shape-from kind bs h = go (eqb kind 4) (eqb-true kind 4) (λ e. pair-from kind e bs h)
      where
        go : (t : Bool) → (t ≡ true → kind ≡ 4) → (t ≡ false → From (write_object f) (front kind bs) (read_pair f kind tag bs))
            → From (write_object f) (front kind bs) (cond t (read_side tag bs) (read_pair f kind tag bs))
        go true y m = subst (λ (k : ℕ). From (write_object f) (front k bs) (read_side tag bs)) (sym (y refl)) (side-from bs h)
        go false y m = m refl

  tagged-from : (kind : ℕ) (bs : List ℕ) → Bytes bs → From (write_object f) (write_number kind ++ bs) (read_tagged f kind bs)
  tagged-from kind bs h = go (tag-from bs h)
    where
      go : {r : Reading ℤ} → From (write_tag f) bs r → From (write_object f) (write_number kind ++ bs) (next r (λ tag rest. read_shape f kind tag rest))
      go (not n) = not n
      go (from tag rest e) =
          subst (λ (l : List ℕ). From (write_object f) (write_number kind ++ l) (read_shape f kind tag rest)) (sym e)
          (shape-from tag kind rest (behind-bytes (write_tag f tag) e h))

  pub object-from : (bs : List ℕ) → Bytes bs → From (write_object f) bs (read_object f bs)
  unfolding read_object
  object-from bs h = go (number-from bs h)
    where
      go : {r : Reading ℕ} → From write_number bs r
          → From (write_object f) bs (next r (λ kind rest. cond (outside (pos 1) (pos 4) (pos kind)) (no (pos 1)) (read_tagged f kind rest)))
      go (not n) = not n
      go (from kind rest e) = second (outside (pos 1) (pos 4) (pos kind))
        where
          second : (t : Bool) → From (write_object f) bs (cond t (no (pos 1)) (read_tagged f kind rest))
          second true = not (pos 1)
          second false =
              subst (λ (l : List ℕ). From (write_object f) l (read_tagged f kind rest)) (sym e)
              (tagged-from kind rest (behind-bytes (write_number kind) e h))

-- How a call that fills lent cells ends, and pieces that are put into them. To cite:
--   End, refused, short, done   the three ends of such a call, each with all that it answers and leaves
--   filled-front     a call that is not refused has its whole result at the front
--   sets-two         one piece behind the other is both at once
--   sets-front       a piece at the front: the piece, and then what stood behind it
--   sets-past, sets-short   what has no cell is not put; a piece is put as far as there are cells
--   clipped-is, clipped-past          a place up to the largest is answered as it is, and one past it as the largest
--   wrote_none, wrote_one, wrote-past, wrote-two  nothing was put; one number; a piece for which there are no cells; one piece behind the other
--   wrote-named, wrote_as   the cells and the place under other names; the piece in other words
--   wrote-length, wrote-place   as many cells as before; a place that can be answered
--   wrote-size, wrote-short, wrote-room   a piece that was put at the front tells its length, and whether other cells have room for it
--   wrote-front      what stands there when a piece that fits was put at the front
-- Assumes nothing.
use Rattle.std.specs.Prelude.{◌≡◌, refl, Bool, true, false, cond, List, [], ◌∷◌, ◌++◌, ℕ, zero, suc, ◌+◌, ◌≤◌, ◌<◌, ltb, ℤ, pos, length, set, take, drop}
use Rattle.std.proofs.Common.{sym, ap, subst, ◌∙◌, zero-add, arith, lt-ltb, le-ltb, ltb-true, ltb-false, length-append, length-take, take-append-drop, of_z}
use Rattle.std.proofs.Math.Nat.{min-le_left, min-le_right, min-eq_left, min-eq_right}
use Rattle.std.proofs.lemmas.List.Edits.{sets, sets-eq}
use Rattle.std.proofs.Math.Seq.{length-sets, take-append_seam}
use Rattle.std.specs.Int.{w64}
use Rattle.whole.specs.Tests.{Fit, out, out-ok, eq-left, eq-eq_z, ne-eq_z}
use Rattle.whole.specs.ChoiceLaws.{or-zero}
use Rattle.sheet.specs.Lent.{room_refusal, other_number, length_given, filled, largest, clipped, Wrote}

-- ---- the three ends

module _ {A : Type 0} where
  -- A call has answered the refusal r, the length l and another number o, and left `after` in the lent cells. This is what it is to answer
  -- and leave, where n is the refusal before 10, `result` what it fills in, size its length as it is answered, and v the other number.
  pub record End (n : ℤ) (result lent : List A) (size v : ℕ) (r : ℤ) (l o : ℕ) (after : List A) : Type 0 where
    pub refusal : r ≡ room_refusal n (length result) (length lent)
    pub given : l ≡ length_given n size
    pub other : o ≡ other_number (room_refusal n (length result) (length lent)) v
    pub cells : after ≡ filled n result lent

  module _ {n : ℤ} {result lent : List A} {size v : ℕ} where
    -- r is a call's result, and the code tests whether it is 0
    pub refused : {r : ℤ} → Fit r → r ≡ n → (of_z w64 r ≡ 0 → ⊥) → End n result lent size v (out r) 0 0 lent
    refused {r} f e t =
        let z = ne-eq_z {a = n} {b = pos 0} (λ y. eq-left {x = r} {y = pos 0} t (e ∙ y)) in
        record { refusal = out-ok r f ∙ e ∙ sym (simp z); given = simp z; other = simp z; cells = simp z }

    pub short : n ≡ pos 0 → length lent < length result → {l : ℕ} → l ≡ size → End n result lent size v (pos 10) l 0 lent
    short e h f =
        let q = lt-ltb (length lent) (length result) h in
        record { refusal = simp (eq-eq_z e, q); given = f ∙ sym (simp (eq-eq_z e)); other = simp (eq-eq_z e, q); cells = simp (eq-eq_z e, q) }

    pub done : n ≡ pos 0 → length result ≤ length lent → {l o : ℕ} → l ≡ size → o ≡ v → {after : List A} → after ≡ result ++ drop (length result) lent
        → End n result lent size v (pos 0) l o after
    done e h f g a =
        let q = le-ltb (length lent) (length result) h in
        record { refusal = simp (eq-eq_z e, q); given = f ∙ sym (simp (eq-eq_z e)); other = g ∙ sym (simp (eq-eq_z e, q)); cells = a ∙ sym (simp (eq-eq_z e, q)) }

  pub filled-front :
      (n : ℤ) (result lent : List A) → room_refusal n (length result) (length lent) ≡ pos 0
      → (n ≡ pos 0) × (take (length_given n (length result)) (filled n result lent) ≡ result)
  filled-front n result lent h =
      let z = (or-zero n _ h).0 in
      let rest = drop (length result) lent in (
        z,
        (λ i. take (cond (eq-eq_z z i) (length result) 0) (cond (eq-eq_z h i) (result ++ rest) lent)) ∙ take-append_seam result rest,
      )

-- ---- places

pub clipped-is : {n : ℕ} → n ≤ largest → clipped n ≡ n
unfolding clipped
clipped-is h = min-eq_left h

pub clipped-past : {n : ℕ} → largest ≤ n → clipped n ≡ largest
unfolding clipped
clipped-past h = min-eq_right h

pub clipped-no-more : (n : ℕ) → clipped n ≤ n
unfolding clipped
clipped-no-more n = min-le_left n largest

clipped-most : (n : ℕ) → clipped n ≤ largest
unfolding clipped
clipped-most n = min-le_right n largest

-- a place is answered as it is, or it is too large
data Clip (n : ℕ) : Type 0 where
  whole : n ≤ largest → clipped n ≡ n → Clip n
  cut : largest ≤ n → clipped n ≡ largest → Clip n

clip : (n : ℕ) → Clip n
clip n = go (ltb largest n) (ltb-true largest n) (ltb-false largest n)
  where
    go : (t : Bool) → (t ≡ true → largest < n) → (t ≡ false → n ≤ largest) → Clip n
    go true f g = let h = f refl in let past : largest ≤ n = omega arith in cut past (clipped-past past)
    go false f g = whole (g refl) (clipped-is (g refl))

clipped-more : (a b : ℕ) → clipped (clipped a + b) ≡ clipped (a + b)
clipped-more a b = go (clip a)
  where
    go : Clip a → clipped (clipped a + b) ≡ clipped (a + b)
    go (whole h e) = ap (λ (k : ℕ). clipped (k + b)) e
    go (cut h e) = ap (λ (k : ℕ). clipped (k + b)) e ∙ clipped-past (omega arith) ∙ sym (clipped-past (omega arith))

-- ---- pieces

module _ {A : Type 0} where
  pub sets-two : (vs us d : List A) (at : ℕ) → sets (sets d at vs) (at + length vs) us ≡ sets d at (vs ++ us)
  sets-two [] us d at = ap (λ (k : ℕ). sets d k us) (omega arith)
  sets-two (v ∷ vs) us d at =
      let e : at + suc (length vs) ≡ suc at + length vs = omega arith in
      ap (λ (k : ℕ). sets (sets (set d at v) (suc at) vs) k us) e ∙ sets-two vs us (set d at v) (suc at)

  pub sets-front : (vs d : List A) → length vs ≤ length d → sets d 0 vs ≡ vs ++ drop (length vs) d
  sets-front vs d h =
      let e : 0 + length vs ≡ length vs = omega arith in
      sets-eq vs d 0 (omega arith) ∙ ap (λ (k : ℕ). vs ++ drop k d) e

  set_past : (d : List A) (i : ℕ) (b : A) → length d ≤ i → set d i b ≡ d
  set_past [] i b h = refl
  set_past (x ∷ d) zero b h = absurd (omega arith)
  set_past (x ∷ d) (suc i) b h = ap (λ (l : List A). x ∷ l) (set_past d i b (omega arith))

  pub sets-past : (d s : List A) (i : ℕ) → length d ≤ i → sets d i s ≡ d
  sets-past d [] i h = refl
  sets-past d (x ∷ s) i h = ap (λ (l : List A). sets l (suc i) s) (set_past d i x h) ∙ sets-past d s (suc i) (omega arith)

  -- as far as there are cells
  pub sets-short : (d s : List A) (at k : ℕ) → at + k ≡ length d → k ≤ length s → sets d at (take k s) ≡ sets d at s
  sets-short d s at k e h =
      let front = take k s in
      let end : length (sets d at front) ≤ at + length front = omega (arith, length-sets d at front, length-take k s) in
      sym (ap (sets d at) (sym (take-append-drop k s)) ∙ sym (sets-two front (drop k s) d at) ∙ sets-past (sets d at front) (drop k s) (at + length front) end)

  -- a place that is too large to be answered is behind the lent cells, as the largest is
  sets-clipped : (d s t : List A) (i : ℕ) → length d ≤ largest → sets (sets d i s) (clipped (i + length s)) t ≡ sets d i (s ++ t)
  sets-clipped d s t i h = go (clip (i + length s))
    where
      go : Clip (i + length s) → sets (sets d i s) (clipped (i + length s)) t ≡ sets d i (s ++ t)
      go (whole m e) = ap (λ (k : ℕ). sets (sets d i s) k t) e ∙ sets-two s t d i
      go (cut m e) =
          ap (λ (k : ℕ). sets (sets d i s) k t) e
          ∙ sets-past (sets d i s) t largest (omega (arith, length-sets d i s))
          ∙ sym (sets-past (sets d i s) t (i + length s) (omega (arith, length-sets d i s)))
          ∙ sets-two s t d i

  pub wrote_none : {d : List A} {at : ℕ} → length d ≤ largest → at ≤ largest → Wrote d d at at []
  wrote_none {d} {at} h m =
      let e : at + 0 ≡ at = omega arith in
      record { cells = refl; place = sym (ap clipped e ∙ clipped-is m); lent = h }

  pub wrote_one : {d : List A} {at : ℕ} {x : A} → length d ≤ largest → at < length d → Wrote d (set d at x) at (at + 1) (x ∷ [])
  wrote_one h m = record { cells = refl; place = sym (clipped-is (omega arith)); lent = h }

  pub wrote-past : {d b : List A} {at next : ℕ} → length d ≤ largest → length d ≤ at → next ≡ clipped (at + length b) → Wrote d d at next b
  wrote-past {d} {b} {at} h past e = record { cells = sym (sets-past d b at past); place = e; lent = h }

  module _ {d d' : List A} {at next : ℕ} {b : List A} (w : Wrote d d' at next b) where
    pub wrote-length : length d' ≡ length d
    wrote-length = ap length w.cells ∙ length-sets d at b

    pub wrote-place : next ≤ largest
    wrote-place = omega (arith, w.place, clipped-most (at + length b))

    pub wrote-two : {d'' : List A} {end : ℕ} {b' : List A} → Wrote d' d'' next end b' → Wrote d d'' at end (b ++ b')
    wrote-two {d''} {end} {b'} v =
        let long : at + length b + length b' ≡ at + length (b ++ b') = omega (arith, length-append b b') in
        record {
          cells = v.cells ∙ (λ i. sets (w.cells i) (w.place i) b') ∙ sets-clipped d b b' at w.lent;
          place = v.place ∙ ap (λ (k : ℕ). clipped (k + length b')) w.place ∙ clipped-more (at + length b) (length b') ∙ ap clipped long;
          lent = w.lent;
        }

    pub wrote-named : {out : List A} {to : ℕ} → out ≡ d' → to ≡ next → Wrote d out at to b
    wrote-named e f = record { cells = e ∙ w.cells; place = f ∙ w.place; lent = w.lent }

    pub wrote_as : {b' : List A} → b ≡ b' → Wrote d d' at next b'
    wrote_as e = subst (Wrote d d' at next) e w

  module _ {d d' : List A} {size : ℕ} {b : List A} (w : Wrote d d' 0 size b) where
    pub wrote-size : size ≡ clipped (length b)
    wrote-size = w.place ∙ ap clipped (zero-add (length b))

    -- what was put into no cells, or into any others, tells whether there is room in these
    pub wrote-short : (lent : List A) → length lent < size → length lent < length b
    wrote-short lent h = omega (arith, wrote-size, clipped-no-more (length b))

    pub wrote-room : (lent : List A) → length lent < largest → size ≤ length lent → length b ≤ length lent
    wrote-room lent m h = go (clip (length b))
      where
        go : Clip (length b) → length b ≤ length lent
        go (whole k e) = omega (arith, wrote-size)
        go (cut k e) = absurd (omega (arith, wrote-size))

    pub wrote-front : length b ≤ length d → d' ≡ b ++ drop (length b) d
    wrote-front h = w.cells ∙ sets-front b d h

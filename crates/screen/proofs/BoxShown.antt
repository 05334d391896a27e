-- What every answer that meets the contract of `box_of` shows of its list, by the answer's cases. To cite:
--   box-shown   "lowest and highest x and y over its standard ends; with none, all four are +0 and a flag says so"; the list's own refusal is
--               said of a refused list alone
-- Assumes nothing.
use Rattle.std.specs.Prelude.{◌≡◌, ◌⊎◌, Bool, cond, List, [], ◌∷◌, ◌++◌, eqb, ℤ, pos, Option, Some, Result, Ok, Err}
use Rattle.std.proofs.Math.Path.{refl}
use Rattle.std.proofs.Common.{sym, ap, subst, ◌∙◌, inl, inr, ⊎_elim, true≢false, arith, eqb-true}
use Rattle.std.proofs.Math.Bool.{true, false}
use Prim.Native.Nat.{ℕ, zero, suc, ◌<◌}
use Rattle.std.proofs.lemmas.Bool.{eqb-false}
use Rattle.std.proofs.Math.IntN.{ℤ_discrete}
use Rattle.std.specs.Int.Signed.{lt_z_yes}
use Rattle.whole.specs.InTurn.{in_turn, all_of}
use Rattle.whole.specs.Bound.{w-lit, w-pos}
use Rattle.whole.specs.Flag.{eq_z}
use Rattle.whole.specs.Tests.{cond-by, eq-eq_z, ne-eq_z}
use Rattle.sheet.specs.declared.Point.{Point}
use Rattle.sheet.specs.declared.refusal.Refusal.{Refusal}
use Rattle.sheet.specs.Refused.{no_of}
use Rattle.sheet.specs.RefusedLaws.{no-zero}
use Rattle.sheet.specs.Figure.{Vec}
use Rattle.sheet.specs.Points.{given, standard}
use Rattle.sheet.specs.Lists.{count_of, list_refusal}
use Rattle.sheet.specs.Listable.{Listable}
use Rattle.sheet.specs.ListsLaws.{listable}
use Rattle.screen.specs.declared.SheetBox.{SheetBox}
use Rattle.screen.specs.Quotient.{float, Near}
use Rattle.screen.specs.Parts.{Parts}
use Rattle.screen.proofs.QuotientLaws.{quotient-near, over-one}
use Rattle.screen.specs.Values.{Values, refusal, float_answer}
use Rattle.screen.specs.ValuesLaws.{as_many}
use Rattle.screen.specs.Boxes.{ends_at, ends_of, part, extreme, is_none, box_of, box_says, boxed_says}
use Rattle.screen.specs.BoxesLaws.{box-one, four-floats, ends-small, extreme-within}
use Rattle.screen.proofs.Surrounds.{standards, givens, ends-standard, Met, surrounds}
use Rattle.screen.specs.Shown.{Among, here, later, StandardEnd, Touched, Inside, Encloses, Shows, BoxShown, box_refused, around_none, around}

-- ---- one of some

module _ {A : Type 0} {v : A} where
  among-left : {us : List A} (vs : List A) → Among v us → Among v (us ++ vs)
  among-left vs here = here
  among-left vs (later m) = later (among-left vs m)

  among-right : (us : List A) {vs : List A} → Among v vs → Among v (us ++ vs)
  among-right [] m = m
  among-right (u ∷ us) m = later (among-right us m)

  among-either : (us : List A) {vs : List A} → Among v (us ++ vs) → Among v us ⊎ Among v vs
  among-either [] m = inr m
  among-either (u ∷ us) here = inl here
  among-either (u ∷ us) (later m) = ⊎_elim (λ n. inl (later n)) inr (among-either us m)

standards-has : {p : Point} {ps : List Point} → Among p ps → standard p ≡ true → Among p (standards ps)
standards-has {p} (here {vs = ps}) s = subst (λ (t : Bool). Among p (cond t (p ∷ standards ps) (standards ps))) (sym s) here
standards-has {p} (later {u = q} m) s =
    cond-by (Among p) (standard q) (λ e. later (standards-has m s)) (λ e. standards-has m s)

-- of a point and others, those that are standard
first-standard :
    {p : Point} (q : Point) (rest ps : List Point) (t : Bool) → standard q ≡ t → (Among p rest → Among p ps × (standard p ≡ true))
    → Among p (cond t (q ∷ rest) rest) → Among p (q ∷ ps) × (standard p ≡ true)
first-standard q rest ps true e r here = (here, e)
first-standard q rest ps true e r (later m) = let s = r m in (later s.0, s.1)
first-standard q rest ps false e r m = let s = r m in (later s.0, s.1)

standards-from : {p : Point} (ps : List Point) → Among p (standards ps) → Among p ps × (standard p ≡ true)
standards-from {p = p} [] m = elim m [ ]
standards-from (q ∷ ps) m = first-standard q (standards ps) ps (standard q) refl (standards-from ps) m

givens-has : {v : Vec} {vs : List Vec} → Among v vs → Among (given v) (givens vs)
givens-has here = here
givens-has (later m) = later (givens-has m)

-- p is the point of one of the places
record PlaceOf (p : Point) (vs : List Vec) : Type 0 where
  at : Vec
  among : Among at vs
  is : p ≡ given at

givens-from : {p : Point} (vs : List Vec) → Among p (givens vs) → PlaceOf p vs
givens-from {p = p} [] m = elim m [ ]
givens-from (v ∷ vs) here = record { at = v; among = here; is = refl }
givens-from (v ∷ vs) (later m) = let r = givens-from vs m in record { at = r.at; among = later r.among; is = r.is }

some : {v : Vec} {vs : List Vec} → Among v vs → is_none vs ≡ false
some here = refl
some (later m) = refl

box-some : (vs : List Vec) → is_none vs ≡ false
    → box_of vs
    ≡ Some (record {
      low = record { x = float (extreme false 0 vs); y = float (extreme false 1 vs) };
      high = record { x = float (extreme true 0 vs); y = float (extreme true 1 vs) };
    })
box-some [] e = absurd (true≢false e)
box-some (v ∷ vs) e = refl

-- ---- the ends of a list are those of its objects

-- v is a standard end of one of the first n objects
record EndOf (l : List ℤ) (n : ℕ) (v : Vec) : Type 0 where
  index : ℕ
  below : index < n
  among : Among v (ends_at l index)

module _ (l : List ℤ) where
  abbrev before : ℕ → List Vec
  before n = all_of (λ i. ends_at l i) n

  ends-has : (n : ℕ) {v : Vec} → EndOf l n v → Among v (before n)
  unfolding in_turn
  ends-has zero e = absurd (omega (arith, e.below))
  ends-has (suc n) {v} e = go (eqb n e.index) (eqb-true n e.index) (eqb-false n e.index) (ends-has n)
    where
      go : (t : Bool) → (t ≡ true → n ≡ e.index) → (t ≡ false → n ≡ e.index → ⊥) → (EndOf l n v → Among v (before n)) → Among v (before n ++ ends_at l n)
      go true y m rest = among-right (before n) (subst (λ (k : ℕ). Among v (ends_at l k)) (sym (y refl)) e.among)
      go false y m rest =
          let d = m refl in
          among-left (ends_at l n) (rest (record { index = e.index; below = omega (arith, e.below, d); among = e.among }))

  ends-from : (n : ℕ) {v : Vec} → Among v (before n) → EndOf l n v
  unfolding in_turn
  ends-from zero {v = v} m = elim m [ ]
  ends-from (suc n) {v} m = go (ends-from n) (among-either (before n) m)
    where
      go : (Among v (before n) → EndOf l n v) → Among v (before n) ⊎ Among v (ends_at l n) → EndOf l (suc n) v
      go rest (inl m) = let r = rest m in record { index = r.index; below = omega (arith, r.below); among = r.among }
      go rest (inr m) = record { index = n; below = omega arith; among = m }

module _ {l : List ℤ} (fine : Listable l) where
  abbrev places : List Vec
  places = ends_of l

  end-place : {p : Point} → StandardEnd l p → PlaceOf p places
  end-place {p} e =
      let given-ends = ends-standard (fine.each e.index e.below) in
      let r = givens-from _ (subst (Among p) given-ends (standards-has e.is-end e.is_standard)) in
      record {
        at = r.at;
        among = ends-has l (count_of l) (record { index = e.index; below = e.below; among = r.among });
        is = r.is;
      }

  place_end : {v : Vec} → Among v places → StandardEnd l (given v)
  place_end {v} m =
      let e = ends-from l (count_of l) m in
      let r = standards-from _ (subst (Among (given v)) (sym (ends-standard (fine.each e.index e.below))) (givens-has e.among)) in
      record { index = e.index; below = e.below; is-end = r.0; is_standard = r.1 }

  touched : {axis : ℕ} {z : ℤ} (coordinate : Point → ℤ) → ((v : Vec) → coordinate (given v) ≡ part axis v) → Met axis z places
      → Touched l coordinate z
  touched coordinate same m =
      record { end = given m.place; is-end = place_end m.among; equal = same m.place ∙ m.equal }

  abbrev low : ℕ → ℤ
  low axis = extreme false axis places

  abbrev high : ℕ → ℤ
  high axis = extreme true axis places

  encloses : is_none places ≡ false → Encloses l (low 0) (low 1) (high 0) (high 1)
  encloses e =
      let s = surrounds places e in
      record {
        low_x = touched (λ p. p.nx) (λ v. refl) s.met.0;
        high_x = touched (λ p. p.nx) (λ v. refl) s.met.1;
        low_y = touched (λ p. p.ny) (λ v. refl) s.met.2;
        high_y = touched (λ p. p.ny) (λ v. refl) s.met.3;
        inside = λ p h.
            let r = end-place h in
            let in-box = s.inside r.at r.among in
            subst (Inside (low 0) (low 1) (high 0) (high 1)) (sym r.is) (refl, in-box.0, in-box.1, in-box.2, in-box.3);
      }

  shows : (up : Bool) (axis : ℕ) → Shows (extreme up axis places) (float (extreme up axis places))
  shows up axis =
      let small = w-lit (extreme-within up axis places (ends-small fine)) tt in
      let is = sym (over-one small) in
      let parts : Parts (extreme up axis places) (pos 1) = record { in_n = small; in-w = record { above = lt_z_yes tt; at_most = w-lit (w-pos 1) tt } } in
      record { is = is; near = subst (Near (extreme up axis places) (pos 1)) (sym is) (quotient-near parts) }

  shown-around : list_refusal l ≡ pos 0 → BoxShown l (Ok (box_of places))
  shown-around z = go places refl
    where
      go : (vs : List Vec) → places ≡ vs → BoxShown l (Ok (box_of places))
      go [] e =
          subst (λ (x : Option SheetBox). BoxShown l (Ok x)) (sym (ap box_of e))
          (around_none z (λ p h. true≢false (sym (ap is_none e) ∙ some (end-place h).among)) refl)
      go (v ∷ vs) e =
          subst (λ (x : Option SheetBox). BoxShown l (Ok x)) (sym (box-some places (ap is_none e)))
          (around z (encloses (ap is_none e))
          (record { in_x = shows false 0; in_y = shows false 1 }) (record { in_x = shows true 0; in_y = shows true 1 }))

pub box-shown :
    (l : List ℤ) (r : Result (Option SheetBox) Refusal) → boxed_says r ≡ float_answer (list_refusal l) (box_says (box_of (ends_of l)))
    → BoxShown l r
box-shown l r e = go (ℤ_discrete (list_refusal l) (pos 0)) r e
  where
    there : Values
    there = box_says (box_of (ends_of l))

    by : {s : Values} {b : Bool} → eq_z (list_refusal l) (pos 0) ≡ b → s ≡ float_answer (list_refusal l) there
        → s ≡ cond b there (refusal (list_refusal l))
    by t e = e ∙ ap (λ (b : Bool). cond b there (refusal (list_refusal l))) t

    go : Dec (list_refusal l ≡ pos 0) → (r : Result (Option SheetBox) Refusal) → boxed_says r ≡ float_answer (list_refusal l) there → BoxShown l r
    go (yes z) r e =
        subst (BoxShown l) (sym (box-one r (Ok (box_of (ends_of l))) (by (eq-eq_z z) e))) (shown-around (listable l z) z)
    go (no d) (Ok b) e = absurd (omega (arith, as_many (by (ne-eq_z d) e), four-floats b))
    go (no d) (Err x) e =
        let f = ap (λ (t : Values). t.wholes) (by (ne-eq_z d) e) in
        let same : no_of x ≡ list_refusal l = cc in
        box_refused same (no-zero x)

-- The laws of the box. To cite:
--   box-one                    no two answers say the same;  four-floats   what a box says has four floats
--   farthest-two               the farthest of one list and then of another
--   ends-two                   the lowest and the highest of one list and then of another
--   with_segment, with_ray, with_none   with the standard ends of one more object, by its kind
--   higher-is                  the library's higher of two numbers
--   Found, found               the lowest and the highest of some places are found, and within 2,000;  found-within, found-box   what is then to be had
--   AllSmall, ends-small       the standard ends of accepted objects are within 2,000
--   beyond_all, from-beyond     a number beyond all coordinates to begin with
--   extreme-within             the lowest and the highest are within 2,000
--   no_end, some_end           whether there is a standard end, by the lowest x
-- Assumes nothing.
use Rattle.std.specs.Prelude.{◌≡◌, refl, Bool, true, false, cond, List, [], ◌∷◌, ◌++◌, ℕ, zero, suc, ◌≤◌, ℤ, pos, negsuc, nat_abs, get_or, ◌<ℤ◌, Option, Some, None, Result, length, MatchOption, IsSomeAnd}
use Rattle.std.specs.Int.{int_max}
use Rattle.std.specs.Int.Signed.{lt_z, clash_ℤ}
use Rattle.std.proofs.Common.{sym, ◌∙◌, ap, subst, true≢false, arith}
use Rattle.whole.specs.InTurn.{in_turn, all_of}
use Rattle.whole.specs.Within.{Within}
use Rattle.whole.specs.Bound.{w-upper, w-lower, w-lit, w-pos}
use Rattle.whole.specs.Order.{≤-<-trans, <-≤-trans, <-≤, ≤-antisym}
use Rattle.whole.specs.Flag.{eq_z}
use Rattle.whole.specs.Tests.{cond-by, lt-lt_z, ne-eq_z, lt_z-true, lt_z-false}
use Rattle.sheet.specs.declared.Object.{Object}
use Rattle.sheet.specs.declared.refusal.Refusal.{Refusal}
use Rattle.sheet.specs.Figure.{Vec, vec, Figure, segment, ray, line, side, side_of, figure, figure_of}
use Rattle.sheet.specs.Refusal.{Accepted}
use Rattle.sheet.specs.Lists.{count_of}
use Rattle.sheet.specs.Listable.{Listable}
use Rattle.sheet.proofs.RefusalLaws.{WithinBoth, Taken, a_segment, a_ray, a_line, a_side, accepted-taken}
use Rattle.screen.specs.declared.SheetBox.{SheetBox}
use Rattle.screen.specs.Values.{Values}
use Rattle.screen.specs.ValuesLaws.{float-one}
use Rattle.screen.specs.Boxes.{standard_ends, ends_at, ends_of, passes, farther, part, farthest, extreme, is_none, flag, corners, box_of, box_says, boxed_says}
use Rattle.screen.specs.declared.boxes.Extremes.{Extremes}
use Rattle.screen.specs.Extremes.{extremes_at, extremes_with, with_end, with_ends, AllWithin, box_around}

-- ---- no two answers say the same

flag_one : (s t : Bool) → flag s ≡ flag t → s ≡ t
flag_one true true e = refl
flag_one true false e = let z : ◌≡◌ {A = ℕ} 0 1 = cc in absurd (omega arith)
flag_one false true e = let z : ◌≡◌ {A = ℕ} 0 1 = cc in absurd (omega arith)
flag_one false false e = refl

-- the flags of two answers that say the same
flag-of : {s t : Values} → s ≡ t → get_or s.wholes 1 (pos 0) ≡ get_or t.wholes 1 (pos 0)
flag-of e = ap (λ (t : Values). get_or t.wholes 1 (pos 0)) e

some_one : (a b : SheetBox) → corners a ≡ corners b → a ≡ b
some_one a b e =
    let e1 : a.low.x ≡ b.low.x = cc in
    let e2 : a.low.y ≡ b.low.y = cc in
    let e3 : a.high.x ≡ b.high.x = cc in
    let e4 : a.high.y ≡ b.high.y = cc in
    λ i. record { low = record { x = e1 i; y = e2 i }; high = record { x = e3 i; y = e4 i } }

sheet-box-one : (a b : Option SheetBox) → box_says a ≡ box_says b → a ≡ b
sheet-box-one None None e = refl
sheet-box-one None (Some b) e = absurd (true≢false (flag_one true false (flag-of e)))
sheet-box-one (Some a) None e = absurd (true≢false (sym (flag_one false true (flag-of e))))
sheet-box-one (Some a) (Some b) e = ap Some (some_one a b (ap (λ (t : Values). t.floats) e))

pub four-floats : (b : Option SheetBox) → length (box_says b).floats ≡ 4
four-floats None = refl
four-floats (Some b) = refl

pub box-one : (r s : Result (Option SheetBox) Refusal) → boxed_says r ≡ boxed_says s → r ≡ s
box-one = float-one box_says sheet-box-one (λ b. omega (arith, four-floats b))

-- ---- one more object

-- those of one list and then of another
pub farthest-two : (up : Bool) (axis : ℕ) (z : ℤ) (us vs : List Vec) → farthest up axis z (us ++ vs) ≡ farthest up axis (farthest up axis z us) vs
unfolding farthest
farthest-two up axis z [] vs = refl
farthest-two up axis z (u ∷ us) vs = farthest-two up axis (farther up z (part axis u)) us vs

-- those of one list and then of another
pub ends-two : (e : Option Extremes) (us vs : List Vec) → with_ends e (us ++ vs) ≡ with_ends (with_ends e us) vs
unfolding with_ends
ends-two e [] vs = refl
ends-two e (u ∷ us) vs = ends-two (with_end e u) us vs

-- the ends of a figure, by the flags of the kinds
abbrev ends_by : ℤ → Vec → Vec → Bool → Bool → Bool → List Vec
ends_by px p q s t u = standard_ends (cond s (segment p q) (cond t (ray p q) (cond u (line p q) (side (side_of px)))))

module _ (e : Option Extremes) (px py qx qy : ℤ) where
  abbrev of_kind : ℤ → Option Extremes
  of_kind k = with_ends e (standard_ends (figure_of k px py qx qy))

  abbrev by_flags : Bool → Bool → Bool → Option Extremes
  by_flags s t u = with_ends e (ends_by px (vec px py) (vec qx qy) s t u)

  pub with_segment : {kind : ℤ} → kind ≡ pos 1 → with_end (with_end e (vec px py)) (vec qx qy) ≡ of_kind kind
  unfolding with_ends figure_of
  with_segment k = sym (ap of_kind k)

  pub with_ray : {kind : ℤ} → kind ≡ pos 2 → with_end e (vec px py) ≡ of_kind kind
  unfolding with_ends figure_of
  with_ray k = sym (ap of_kind k)

  pub with_none : {kind : ℤ} → (kind ≡ pos 1 → ⊥) → (kind ≡ pos 2 → ⊥) → e ≡ of_kind kind
  unfolding with_ends figure_of
  with_none {kind} s t = go (eq_z kind (pos 3)) ∙ sym (λ i. by_flags (ne-eq_z s i) (ne-eq_z t i) (eq_z kind (pos 3)))
    where
      go : (u : Bool) → e ≡ by_flags false false u
      go true = refl
      go false = refl

-- ---- the standard ends of accepted objects are within 2,000

pub data AllSmall : List Vec → Type 0 where
  none : AllSmall []
  ◌also◌ : {v : Vec} {vs : List Vec} → WithinBoth 2000 v → AllSmall vs → AllSmall (v ∷ vs)

infixr 5 ◌also◌
small-two : {us vs : List Vec} → AllSmall us → AllSmall vs → AllSmall (us ++ vs)
small-two none n = n
small-two (s also m) n = s also small-two m n

object-small : {o : Object} → Accepted o → AllSmall (standard_ends (figure o))
object-small {o} h = go (accepted-taken h)
  where
    is : {f : Figure} → figure o ≡ f → AllSmall (standard_ends f) → AllSmall (standard_ends (figure o))
    is e = subst (λ (g : Figure). AllSmall (standard_ends g)) (sym e)

    go : Taken o → AllSmall (standard_ends (figure o))
    go (a_segment k e p) = is e (p.small_p also p.small_q also none)
    go (a_ray k e p) = is e (p.small_p also none)
    go (a_line k e p) = is e none
    go (a_side k s e) = is e none

pub ends-small : {l : List ℤ} → Listable l → AllSmall (ends_of l)
unfolding in_turn
ends-small {l} h = upto (count_of l) (omega arith)
  where
    upto : (n : ℕ) → n ≤ count_of l → AllSmall (all_of (λ i. ends_at l i) n)
    upto zero k = none
    upto (suc n) k = small-two (upto n (omega arith)) (object-small (h.each n (omega arith)))

part-within : (axis : ℕ) {v : Vec} → WithinBoth 2000 v → Within 2000 (part axis v)
part-within zero s = s.in_x
part-within (suc n) s = s.in_y

-- ---- to begin with a number beyond all coordinates

abbrev pub beyond_all : Bool → ℤ
beyond_all up = cond up (negsuc 2000) (pos 2001)

first_taken : (up : Bool) {c : ℤ} → Within 2000 c → farther up (beyond_all up) c ≡ c
first_taken true {c} h =
    let l : negsuc 2000 <ℤ negsuc 1999 = record { lt = tt } in
    ap (λ (t : Bool). cond t c (negsuc 2000)) (lt-lt_z (<-≤-trans l (w-lower h)))
first_taken false {c} h =
    let l : pos 2000 <ℤ pos 2001 = record { lt = tt } in
    ap (λ (t : Bool). cond t c (pos 2001)) (lt-lt_z (≤-<-trans (w-upper h) l))

pub from-beyond : (up : Bool) (axis : ℕ) (vs : List Vec) → AllSmall vs → is_none vs ≡ false
    → farthest up axis (beyond_all up) vs ≡ extreme up axis vs
unfolding farthest extreme
from-beyond up axis [] n e = absurd (true≢false e)
from-beyond up axis (v ∷ vs) (s also n) e = ap (λ (z : ℤ). farthest up axis z vs) (first_taken up (part-within axis s))

farthest-within : (up : Bool) (axis : ℕ) {z : ℤ} (vs : List Vec) → AllSmall vs → Within 2000 z → Within 2000 (farthest up axis z vs)
unfolding farthest
farthest-within up axis [] n h = h
farthest-within up axis {z} (v ∷ vs) (s also n) h =
    farthest-within up axis {z = farther up z (part axis v)} vs n (cond-by (Within 2000) (passes up z (part axis v)) (λ e. part-within axis s) (λ e. h))

pub extreme-within : (up : Bool) (axis : ℕ) (vs : List Vec) → AllSmall vs → Within 2000 (extreme up axis vs)
unfolding extreme
extreme-within up axis [] n = w-lit (w-pos 0) tt
extreme-within up axis (v ∷ vs) (s also n) = farthest-within up axis vs n (part-within axis s)

-- whether there is a standard end, by the lowest x
pub no_end : (vs : List Vec) → AllSmall vs → farthest false 0 (pos 2001) vs ≡ pos 2001 → vs ≡ []
no_end [] n e = refl
no_end (v ∷ vs) n e = absurd (small (extreme-within false 0 (v ∷ vs) n) (sym (from-beyond false 0 (v ∷ vs) n refl) ∙ e))
  where
    small : {z : ℤ} → Within 2000 z → z ≡ pos 2001 → ⊥
    small h f = let e = ap nat_abs f in omega (arith, h.within)

pub some_end : (vs : List Vec) → (farthest false 0 (pos 2001) vs ≡ pos 2001 → ⊥) → is_none vs ≡ false
unfolding farthest
some_end [] d = absurd (d refl)
some_end (v ∷ vs) d = refl

-- ---- the lowest and the highest so far

-- the library's higher of two numbers
pub higher-is : (a b : ℤ) → int_max a b ≡ farther true a b
higher-is a b = go (lt_z b a) (lt_z a b) refl refl
  where
    go : (s t : Bool) → lt_z b a ≡ s → lt_z a b ≡ t → cond s a b ≡ cond t b a
    go true true e f = absurd (clash_ℤ {a = b} {b = a} (lt_z-true e) (<-≤ (lt_z-true f)))
    go true false e f = refl
    go false true e f = refl
    go false false e f = ≤-antisym (lt_z-false f) (lt_z-false e)

-- the four of one place and then of others
some-extremes :
    (e : Extremes) (vs : List Vec)
    → with_ends (Some e) vs
    ≡ Some (record {
      low_x = farthest false 0 e.low_x vs;
      low_y = farthest false 1 e.low_y vs;
      high_x = farthest true 0 e.high_x vs;
      high_y = farthest true 1 e.high_y vs;
    })
unfolding with_ends farthest
some-extremes e [] = refl
some-extremes e (v ∷ vs) = some-extremes (extremes_with e v) vs

-- what is found of some places: nothing, or the four that are to be found
pub data Found (vs : List Vec) : Option Extremes → Type 0 where
  found_none : vs ≡ [] → Found vs None
  found_some : {e : Extremes} → AllWithin 2000 e → box_of vs ≡ Some (box_around e) → Found vs (Some e)

pub found : (vs : List Vec) → AllSmall vs → Found vs (with_ends None vs)
unfolding with_ends extreme
found [] n = found_none refl
found (v ∷ vs) n =
    subst (Found (v ∷ vs)) (sym (some-extremes (extremes_at v) vs))
    (found_some
    (record {
      low_x = extreme-within false 0 (v ∷ vs) n;
      low_y = extreme-within false 1 (v ∷ vs) n;
      high_x = extreme-within true 0 (v ∷ vs) n;
      high_y = extreme-within true 1 (v ∷ vs) n;
    })
    refl)

some_is : {a b : Extremes} → Some a ≡ Some b → a ≡ b
some_is e = cc

pub found-within : {vs : List Vec} {f : Option Extremes} → Found vs f → (e : Extremes) → f ≡ Some e → AllWithin 2000 e
found-within (found_none z) e h = cc
found-within (found_some w b) e h = subst (AllWithin 2000) (some_is h) w

-- r is what a function gives for what is found, if anything is
pub found-box :
    {vs : List Vec} {f : Option Extremes} {r : Option SheetBox} {Gives : Extremes → SheetBox → Type 0}
    → ((e : Extremes) (b : SheetBox) → Gives e b → b ≡ box_around e) → Found vs f → MatchOption f (r ≡ None) (λ e. IsSomeAnd r (Gives e)) → r ≡ box_of vs
found-box gives (found_none z) n = n ∙ sym (ap box_of z)
found-box {r = r} {Gives = Gives} gives (found_some {e = e} w b) g = some-gives r g ∙ sym b
  where
    some-gives : (r : Option SheetBox) → IsSomeAnd r (Gives e) → r ≡ Some (box_around e)
    some-gives None h = absurd h
    some-gives (Some b) h = ap Some (gives e b h)

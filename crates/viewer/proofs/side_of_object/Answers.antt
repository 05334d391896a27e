-- `side_of_object` meets its contract: 13, then what `side_for` answers of the object. Assumes nothing.
use mathlib.Core.Path.{◌≡◌, sym, ap, subst, ◌∙◌}
use mathlib.Core.Bool.{false}
use mathlib.Core.List.{[], ◌∷◌}
use native.Mathlib.Omega.{arith}
use lib.Dec.{T}
use lib.IntN.{ℤ, nat_abs}
use lib.Signed.{non_neg}
use mir.Syntax.{w64}
use mir.Val.{Fits, SFits}
use Rattle.whole.specs.Tests.{out, out-is}
use Rattle.sheet.specs.declared.refusal.Refusal.TheVariants as refusal
use Rattle.sheet.specs.RefusedLaws.{err-says}
use Rattle.std.specs.Prelude.{None, Some, Ok}
use Rattle.sheet.specs.Signs.{side_sign}
use Rattle.sheet.specs.Answers.{answer}
use Rattle.store.specs.Stored.{Drawing, read_drawing}
use Rattle.sheet.specs.declared.Object.{Object}
use Rattle.store.specs.Reader.{Item, One, End, item_of}
use Rattle.store.specs.Told.{item_told}
use Rattle.viewer.specs.Calls.{object, whole, place_refusal}
use Rattle.store.proofs.SoundLaws.{good, item-accepted}
use Rattle.viewer.specs.CallsLaws.{index-first, place-next, far_index, index-far, Natural, index-natural, found, missed, never-refused}
use Rattle.viewer.proofs.side_of_object.Goals as goal

module _ {i : ℤ} (fits : SFits w64 i) where
  -- the code's test of the index
  tested : far_index i ≡ far_index (out i)
  tested = ap far_index (sym (out-is fits))

  natural : far_index (out i) ≡ false → Natural i
  natural e = index-natural i (tested ∙ e)

  -- the reader's call is that of the index
  stands : (d : Drawing) {item : Item} → item ≡ item_of d (nat_abs (out i)) → item ≡ item_of d (nat_abs i)
  stands d e = e ∙ ap (λ (z : ℤ). item_of d (nat_abs z)) (out-is fits)

-- the end is no object
no-object : {item : Item} → End ≡ item → (o : Object) → item ≡ One o → ⊥
no-object e o f = let both : End ≡ One o = e ∙ f in cc

pub returns-then-i : goal.returns-then-i
returns-then-i c =
    let a = c.args in
    let d = read_drawing a.bytes.now in
    let z = c.requires in
    err-says refusal.NoObject _ (index-first d a.i a.x a.y (index-far d (good a.bytes.now z) a.i (tested c.ranges.i ∙ c.if-i.true)))

pub overflow_cast-i : goal.overflow_cast-i
overflow_cast-i c =
    let n = natural c.ranges.i c.if-i.false in
    subst (λ (z : ℤ). T (non_neg z) × Fits w64 (nat_abs z)) (sym (out-is c.ranges.i ∙ n.is))
    (tt, record { fits = omega (arith, n.small) })

pub returns-in_err-o : goal.returns-in_err-o
returns-in_err-o c =
    let a = c.args in
    let d = read_drawing a.bytes.now in
    let z = c.requires in
    let n = natural c.ranges.i c.if-i.false in
    absurd (never-refused d (good a.bytes.now z) z a.i n (ap item_told (sym c.in_err-o.was) ∙ stands c.ranges.i d c.item_at.ensures))

pub returns-in_default : goal.returns-in_default
returns-in_default c =
    let a = c.args in
    let d = read_drawing a.bytes.now in
    let z = c.requires in
    let n = natural c.ranges.i c.if-i.false in
    let end : c.item_at.result ≡ Ok None = c.in_ok-o.was ∙ ap Ok c.in_default.is in
    err-says refusal.NoObject _
    (index-first d a.i a.x a.y (missed d (good a.bytes.now z) z a.i n (no-object (ap item_told (sym end) ∙ stands c.ranges.i d c.item_at.ensures))))

pub side_for-requires : goal.side_for-requires
side_for-requires c =
    let a = c.args in
    let one : c.item_at.result ≡ Ok (Some c.in-Some.o) = c.in_ok-o.was ∙ ap Ok c.in-Some.is in
    item-accepted a.bytes.now (nat_abs a.i) c.in-Some.o (sym (stands c.ranges.i (read_drawing a.bytes.now) c.item_at.ensures) ∙ ap item_told one)

pub returns : goal.returns
returns c =
    let a = c.args in
    let d = read_drawing a.bytes.now in
    let z = c.requires in
    let n = natural c.ranges.i c.if-i.false in
    let one : c.item_at.result ≡ Ok (Some c.in-Some.o) = c.in_ok-o.was ∙ ap Ok c.in-Some.is in
    let here = found d (good a.bytes.now z) z a.i n c.in-Some.o (ap item_told (sym one) ∙ stands c.ranges.i d c.item_at.ensures) in
    let x = out-is c.ranges.x in
    let y = out-is c.ranges.y in
    c.side_for.ensures
    ∙ (λ j. answer (place_refusal (x j) (y j)) (side_sign (here.1 j) (whole (x j) (y j)) ∷ []))
    ∙ ap (λ (r : ℤ). answer r (side_sign (object d a.i) (whole a.x a.y) ∷ [])) (sym (place-next d a.i a.x a.y here.0))

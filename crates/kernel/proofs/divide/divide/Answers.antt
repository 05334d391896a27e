-- `divide` meets its contract: the divisor is above 0, and each quotient is the number's; where it is 1 that is the number itself.
use mathlib.Core.Path.{◌≡◌, sym, ◌∙◌, ap, ap₂, subst}
use Prim.Native.Nat.{ℕ, ◌<◌, ◌≤◌}
use lib.IntN.{ℤ, pos}
use lib.Signed.{quot_z}
use Rattle.whole.specs.DivisorLaws.{quot-one}
use Rattle.whole.specs.Flat.{back, within-out}
use Rattle.whole.specs.Within.{Within}
use Rattle.whole.specs.Tests.{out, gave}
use Rattle.whole.specs.Bound.{fits64}
use Rattle.sheet.specs.declared.Point.{Point}
use Rattle.sheet.specs.Points.{divisor, divided}
use Rattle.kernel.specs.Bounds.{PartBounds, Raw}
use Rattle.kernel.specs.Forms.{divisor-bounds}
use Rattle.kernel.proofs.Handed.{by-five, point_of, point_out}
use Rattle.kernel.proofs.divide.divide.Goals as goal

-- of each of the five numbers, where g is found to be the common divisor k: what `part` asks, and what it gives
part-asks : {g k : ℕ} {n : ℤ} → g ≡ k → (0 < k) × (k ≤ 64000000000) → Within 64000000000 n → PartBounds (out n) g
part-asks e d h =
    let b = subst (λ (g : ℕ). (0 < g) × (g ≤ 64000000000)) (sym e) d in
    record { bn = within-out h tt; above = b.0; small = b.1 }

part_gives : {g k : ℕ} {n : ℤ} → g ≡ k → Within 64000000000 n → quot_z (out n) (pos g) ≡ quot_z n (pos k)
part_gives e h = ap₂ (λ (z : ℤ) (g : ℕ). quot_z z (pos g)) (back h tt) e

-- the divisor of the numbers as they are handed on
found : {p : Point} {g : ℕ} → Raw p.mx p.nx p.my p.ny p.w → g ≡ divisor (point_out p) → g ≡ divisor p
found {p} r e =
    e ∙ ap divisor (by-five (fits64 r.bmx tt) (fits64 r.bnx tt) (fits64 r.bmy tt) (fits64 r.bny tt) (fits64 r.bw tt) point_of)

-- where the divisor is 1, each number as it came
kept : {g k : ℕ} {n : ℤ} → g ≡ k → g ≡ 1 → n ≡ quot_z n (pos k)
kept {n = n} e one = sym (quot-one n) ∙ ap (λ (g : ℕ). quot_z n (pos g)) (sym one ∙ e)

pub returns-then-g-eq1 : goal.returns-then-g-eq1
unfolding divided
returns-then-g-eq1 c =
    let p = c.args.p in
    let e = found {p = c.args.p} c.requires c.divisor-g.ensures in
    let one = c.if-g-eq1.true in
    λ i. record {
      mx = kept {n = p.mx} e one i;
      nx = kept {n = p.nx} e one i;
      my = kept {n = p.my} e one i;
      ny = kept {n = p.ny} e one i;
      w = kept {n = p.w} e one i;
    }

pub part-mx-requires : goal.part-mx-requires
part-mx-requires c = part-asks (found {p = c.args.p} c.requires c.divisor-g.ensures) (divisor-bounds c.requires) c.requires.bmx

pub part-nx-requires : goal.part-nx-requires
part-nx-requires c = part-asks (found {p = c.args.p} c.requires c.divisor-g.ensures) (divisor-bounds c.requires) c.requires.bnx

pub part-my-requires : goal.part-my-requires
part-my-requires c = part-asks (found {p = c.args.p} c.requires c.divisor-g.ensures) (divisor-bounds c.requires) c.requires.bmy

pub part-ny-requires : goal.part-ny-requires
part-ny-requires c = part-asks (found {p = c.args.p} c.requires c.divisor-g.ensures) (divisor-bounds c.requires) c.requires.bny

pub part-w-requires : goal.part-w-requires
part-w-requires c = part-asks (found {p = c.args.p} c.requires c.divisor-g.ensures) (divisor-bounds c.requires) c.requires.bw

pub returns : goal.returns
unfolding divided
returns c =
    let e = found {p = c.args.p} c.requires c.divisor-g.ensures in
    let mx = c.part-mx in
    let nx = c.part-nx in
    let my = c.part-my in
    let ny = c.part-ny in
    let w = c.part-w in
    let h = c.requires in
    λ i. record {
      mx = (gave mx.type_inv mx.ensures ∙ part_gives e h.bmx) i;
      nx = (gave nx.type_inv nx.ensures ∙ part_gives e h.bnx) i;
      my = (gave my.type_inv my.ensures ∙ part_gives e h.bmy) i;
      ny = (gave ny.type_inv ny.ensures ∙ part_gives e h.bny) i;
      w = (gave w.type_inv w.ensures ∙ part_gives e h.bw) i;
    }

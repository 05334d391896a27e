-- `meeting_point` meets its contract: the moments, products and quotients of eight coordinates fit, and are those of `meeting_point`.
use mathlib.Core.Path.{◌≡◌, sym, ◌∙◌, ap, subst}
use mathlib.Core.List.{List, [], ◌∷◌}
use lib.IntN.{ℤ, pos, ◌-ℤ◌, ◌*ℤ◌}
use lib.Signed.{◌<ℤ◌}
use Rattle.whole.specs.Sign.{sgn}
use Rattle.whole.specs.SignLaws.{size_above}
use Rattle.whole.specs.Ring.{Expr, var, ◌⊖◌, ◌⊗◌, ev}
use Rattle.whole.specs.Flat.{mach, need, gives, small, held}
use Rattle.whole.specs.Bound.{w-is, w-lit, w-pos, w-mul, w-sgn, w-size}
use Rattle.whole.specs.Tests.{out}
use Rattle.sheet.specs.Figure.{vec, ◌⇀◌}
use Rattle.sheet.specs.Points.{size, divided}
use Rattle.sheet.proofs.EndsLaws.{moment-is}
use Rattle.sheet.specs.Crossing.{cross}
use Rattle.kernel.proofs.Eight.{dx_e, dy_e, fx_e, fy_e, across_e, times-sign-is, times-sign-size}
use Rattle.kernel.proofs.stretches.meeting_point.Goals as goal

-- the moments, and the two numbers over w before the sign goes in
abbrev k_e : Expr
k_e = var 2 ⊗ var 1 ⊖ var 3 ⊗ var 0

abbrev m_e : Expr
m_e = var 6 ⊗ var 5 ⊖ var 7 ⊗ var 4

abbrev over_e : Expr
over_e = k_e ⊗ fx_e ⊖ m_e ⊗ dx_e

abbrev up_e : Expr
up_e = k_e ⊗ fy_e ⊖ m_e ⊗ dy_e

pub overflow_sub-dx : goal.overflow_sub-dx
overflow_sub-dx c = need c.requires.near.near dx_e tt

pub overflow_sub-dy : goal.overflow_sub-dy
overflow_sub-dy c = need c.requires.near.near dy_e tt

pub overflow_sub-fx : goal.overflow_sub-fx
overflow_sub-fx c = need c.requires.near.near fx_e tt

pub overflow_sub-fy : goal.overflow_sub-fy
overflow_sub-fy c = need c.requires.near.near fy_e tt

pub overflow_mul-across : goal.overflow_mul-across
overflow_mul-across c = need c.requires.near.near (dx_e ⊗ fy_e) tt

pub overflow_mul-across-2 : goal.overflow_mul-across-2
overflow_mul-across-2 c = need c.requires.near.near (dy_e ⊗ fx_e) tt

pub overflow_sub-across : goal.overflow_sub-across
overflow_sub-across c = need c.requires.near.near across_e tt

pub overflow_mul-k : goal.overflow_mul-k
overflow_mul-k c = need c.requires.near.near (var 2 ⊗ var 1) tt

pub overflow_mul-k-2 : goal.overflow_mul-k-2
overflow_mul-k-2 c = need c.requires.near.near (var 3 ⊗ var 0) tt

pub overflow_sub-k : goal.overflow_sub-k
overflow_sub-k c = need c.requires.near.near k_e tt

pub overflow_mul-m : goal.overflow_mul-m
overflow_mul-m c = need c.requires.near.near (var 6 ⊗ var 5) tt

pub overflow_mul-m-2 : goal.overflow_mul-m-2
overflow_mul-m-2 c = need c.requires.near.near (var 7 ⊗ var 4) tt

pub overflow_sub-m : goal.overflow_sub-m
overflow_sub-m c = need c.requires.near.near m_e tt

pub overflow_mul-over : goal.overflow_mul-over
overflow_mul-over c = need c.requires.near.near (k_e ⊗ fx_e) tt

pub overflow_mul-over-2 : goal.overflow_mul-over-2
overflow_mul-over-2 c = need c.requires.near.near (m_e ⊗ dx_e) tt

pub overflow_sub-over : goal.overflow_sub-over
overflow_sub-over c = need c.requires.near.near over_e tt

pub overflow_mul-up : goal.overflow_mul-up
overflow_mul-up c = need c.requires.near.near (k_e ⊗ fy_e) tt

pub overflow_mul-up-2 : goal.overflow_mul-up-2
overflow_mul-up-2 c = need c.requires.near.near (m_e ⊗ dy_e) tt

pub overflow_sub-up : goal.overflow_sub-up
overflow_sub-up c = need c.requires.near.near up_e tt

pub times_sign-nx-requires : goal.times_sign-nx-requires
times_sign-nx-requires c =
    let ρ : List ℤ = c.args.px ∷ c.args.py ∷ c.args.qx ∷ c.args.qy ∷ c.args.rx ∷ c.args.ry ∷ c.args.sx ∷ c.args.sy ∷ [] in
    let not_parallel : mach ρ across_e ≡ pos 0 → ⊥ = λ e. c.requires.apart (sym (gives c.requires.near.near across_e tt) ∙ e) in
    let b = c.requires.near.near in
    record { bz = held b over_e tt; not_zero = not_parallel }

pub times_sign-ny-requires : goal.times_sign-ny-requires
times_sign-ny-requires c =
    let ρ : List ℤ = c.args.px ∷ c.args.py ∷ c.args.qx ∷ c.args.qy ∷ c.args.rx ∷ c.args.ry ∷ c.args.sx ∷ c.args.sy ∷ [] in
    let not_parallel : mach ρ across_e ≡ pos 0 → ⊥ = λ e. c.requires.apart (sym (gives c.requires.near.near across_e tt) ∙ e) in
    record { bz = held c.requires.near.near up_e tt; not_zero = not_parallel }

pub times_sign-w-requires : goal.times_sign-w-requires
times_sign-w-requires c =
    let ρ : List ℤ = c.args.px ∷ c.args.py ∷ c.args.qx ∷ c.args.qy ∷ c.args.rx ∷ c.args.ry ∷ c.args.sx ∷ c.args.sy ∷ [] in
    let not_parallel : mach ρ across_e ≡ pos 0 → ⊥ = λ e. c.requires.apart (sym (gives c.requires.near.near across_e tt) ∙ e) in
    record { bz = w-lit (held c.requires.near.near across_e tt) tt; not_zero = not_parallel }

pub divide-requires : goal.divide-requires
divide-requires c =
    let ρ : List ℤ = c.args.px ∷ c.args.py ∷ c.args.qx ∷ c.args.qy ∷ c.args.rx ∷ c.args.ry ∷ c.args.sx ∷ c.args.sy ∷ [] in
    let x-is : out c.times_sign-nx.result ≡ sgn (ev ρ across_e) *ℤ ev ρ over_e =
    let b = c.requires.near.near in
    times-sign-is c.times_sign-nx.type_inv c.times_sign-nx.ensures (gives b across_e tt) (gives b over_e tt) in
    let y-is : out c.times_sign-ny.result ≡ sgn (ev ρ across_e) *ℤ ev ρ up_e =
    let b = c.requires.near.near in
    times-sign-is c.times_sign-ny.type_inv c.times_sign-ny.ensures (gives b across_e tt) (gives b up_e tt) in
    let w-is-size : out c.times_sign-w.result ≡ size (ev ρ across_e) = times-sign-size c.times_sign-w.type_inv c.times_sign-w.ensures (gives c.requires.near.near across_e tt) in
    let b = c.requires.near.near in
    record {
      bmx = w-lit (w-pos 0) tt;
      bnx = w-is x-is (w-mul (w-sgn _) (small b over_e tt));
      bmy = w-lit (w-pos 0) tt;
      bny = w-is y-is (w-mul (w-sgn _) (small b up_e tt));
      bw = w-lit (w-is w-is-size (w-size (small b across_e tt))) tt;
      above = subst (λ (z : ℤ). pos 0 <ℤ z) (sym w-is-size) (size_above c.requires.apart);
    }

pub returns : goal.returns
returns c =
    let ρ : List ℤ = c.args.px ∷ c.args.py ∷ c.args.qx ∷ c.args.qy ∷ c.args.rx ∷ c.args.ry ∷ c.args.sx ∷ c.args.sy ∷ [] in
    let x-is : out c.times_sign-nx.result ≡ sgn (ev ρ across_e) *ℤ ev ρ over_e =
    let b = c.requires.near.near in
    times-sign-is c.times_sign-nx.type_inv c.times_sign-nx.ensures (gives b across_e tt) (gives b over_e tt) in
    let y-is : out c.times_sign-ny.result ≡ sgn (ev ρ across_e) *ℤ ev ρ up_e =
    let b = c.requires.near.near in
    times-sign-is c.times_sign-ny.type_inv c.times_sign-ny.ensures (gives b across_e tt) (gives b up_e tt) in
    let w-is-size : out c.times_sign-w.result ≡ size (ev ρ across_e) = times-sign-size c.times_sign-w.type_inv c.times_sign-w.ensures (gives c.requires.near.near across_e tt) in
    let p = vec c.args.px c.args.py in
    let q = vec c.args.qx c.args.qy in
    let r = vec c.args.rx c.args.ry in
    let t = vec c.args.sx c.args.sy in
    let k = sym (moment-is p q) in
    let m = sym (moment-is r t) in
    let D = cross (p ⇀ q) (r ⇀ t) in
    let x = x-is ∙ (λ i. sgn D *ℤ (k i *ℤ (r ⇀ t).x -ℤ m i *ℤ (p ⇀ q).x)) in
    let y = y-is ∙ (λ i. sgn D *ℤ (k i *ℤ (r ⇀ t).y -ℤ m i *ℤ (p ⇀ q).y)) in
    c.divide.ensures ∙ ap divided (λ i. record { mx = pos 0; nx = x i; my = pos 0; ny = y i; w = w-is-size i })

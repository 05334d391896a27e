-- `skewed` meets its contract: h, g and w are the paper's, so its two tests are, and what they tell of ends; what both reach is the divided meeting
-- point.
use mathlib.Core.Path.{◌≡◌, sym, ◌∙◌, ap, ap₂}
use mathlib.Core.Bool.{Bool, true, cond, not, ◌&&◌}
use mathlib.Core.List.{List, [], ◌∷◌}
use lib.IntN.{ℤ, pos, ◌*ℤ◌}
use Rattle.whole.specs.Sign.{sgn}
use Rattle.whole.specs.Ring.{Expr, ◌⊖◌, ◌⊗◌, ev}
use Rattle.whole.specs.Flat.{need, gives, small, held}
use Rattle.whole.specs.Bound.{w-is, w-lit, w-pos, fits64}
use Rattle.whole.specs.Tests.{out, out-is}
use Rattle.sheet.specs.Figure.{vec}
use Rattle.sheet.specs.Points.{size, divided}
use Rattle.sheet.specs.Crossing.{Stretch, none, point, meeting_point, reaches}
use Rattle.sheet.specs.Answers.{meeting_numbers}
use Rattle.kernel.specs.Stretches.{stretch, reaches_by, reaches-is}
use Rattle.kernel.specs.Joints.{place_end, ends_meet, left_out}
use Rattle.kernel.specs.JointsLaws.{none_said}
use Rattle.kernel.proofs.Eight.{dx_e, dy_e, fx_e, fy_e, ex_e, ey_e, across_e, apart_out, stretch-out, times-sign-is, times-sign-size}
use Rattle.kernel.proofs.stretches.skewed.Goals as goal

abbrev one_e : Expr
one_e = ex_e ⊗ fy_e ⊖ ey_e ⊗ fx_e

abbrev two_e : Expr
two_e = ex_e ⊗ dy_e ⊖ ey_e ⊗ dx_e

pub overflow_sub-dx : goal.overflow_sub-dx
overflow_sub-dx c = need c.requires.apart.near.near dx_e tt

pub overflow_sub-dy : goal.overflow_sub-dy
overflow_sub-dy c = need c.requires.apart.near.near dy_e tt

pub overflow_sub-fx : goal.overflow_sub-fx
overflow_sub-fx c = need c.requires.apart.near.near fx_e tt

pub overflow_sub-fy : goal.overflow_sub-fy
overflow_sub-fy c = need c.requires.apart.near.near fy_e tt

pub overflow_sub-ex : goal.overflow_sub-ex
overflow_sub-ex c = need c.requires.apart.near.near ex_e tt

pub overflow_sub-ey : goal.overflow_sub-ey
overflow_sub-ey c = need c.requires.apart.near.near ey_e tt

pub overflow_mul-one : goal.overflow_mul-one
overflow_mul-one c = need c.requires.apart.near.near (ex_e ⊗ fy_e) tt

pub overflow_mul-one-2 : goal.overflow_mul-one-2
overflow_mul-one-2 c = need c.requires.apart.near.near (ey_e ⊗ fx_e) tt

pub overflow_sub-one : goal.overflow_sub-one
overflow_sub-one c = need c.requires.apart.near.near one_e tt

pub times_sign-h-requires : goal.times_sign-h-requires
times_sign-h-requires c =
    let ρ : List ℤ = c.args.px ∷ c.args.py ∷ c.args.qx ∷ c.args.qy ∷ c.args.rx ∷ c.args.ry ∷ c.args.sx ∷ c.args.sy ∷ [] in
    let across-is : out c.args.across ≡ ev ρ across_e = out-is c.ranges.across ∙ c.requires.across_value in
    let not_parallel : out c.args.across ≡ pos 0 → ⊥ = λ e. c.requires.apart.apart (sym across-is ∙ e) in
    record { bz = w-lit (held c.requires.apart.near.near one_e tt) tt; not_zero = not_parallel }

pub times_sign-w-requires : goal.times_sign-w-requires
times_sign-w-requires c =
    let ρ : List ℤ = c.args.px ∷ c.args.py ∷ c.args.qx ∷ c.args.qy ∷ c.args.rx ∷ c.args.ry ∷ c.args.sx ∷ c.args.sy ∷ [] in
    let across-is : out c.args.across ≡ ev ρ across_e = out-is c.ranges.across ∙ c.requires.across_value in
    let not_parallel : out c.args.across ≡ pos 0 → ⊥ = λ e. c.requires.apart.apart (sym across-is ∙ e) in
    record { bz = w-lit (w-is across-is (small c.requires.apart.near.near across_e tt)) tt; not_zero = not_parallel }

pub returns-then-not-reaches : goal.returns-then-not-reaches
returns-then-not-reaches c =
    let ρ : List ℤ = c.args.px ∷ c.args.py ∷ c.args.qx ∷ c.args.qy ∷ c.args.rx ∷ c.args.ry ∷ c.args.sx ∷ c.args.sy ∷ [] in
    let A : Stretch = stretch c.args.ka c.args.px c.args.py c.args.qx c.args.qy in
    let B : Stretch = stretch c.args.kb c.args.rx c.args.ry c.args.sx c.args.sy in
    let ends : Bool = ends_meet c.args.ka A c.args.kb B in
    let first : Bool = let D = ev ρ across_e in reaches A (sgn D *ℤ ev ρ one_e) (size D) in
    let second : Bool = let D = ev ρ across_e in reaches B (sgn D *ℤ ev ρ two_e) (size D) in
    let shown : Bool → Bool → List ℤ = λ t u. meeting_numbers (left_out c.args.joints ends (cond (t && u) (point (divided (meeting_point A B))) none)) in
    let across-is : out c.args.across ≡ ev ρ across_e = out-is c.ranges.across ∙ c.requires.across_value in
    let h-is : out c.times_sign-h.result ≡ sgn (ev ρ across_e) *ℤ ev ρ one_e = times-sign-is c.times_sign-h.type_inv c.times_sign-h.ensures across-is (gives c.requires.apart.near.near one_e tt) in
    let w-is-size : out c.times_sign-w.result ≡ size (ev ρ across_e) = times-sign-size c.times_sign-w.type_inv c.times_sign-w.ensures across-is in
    let first-is : c.reaches.result ≡ first =
    let D = ev ρ across_e in
    c.reaches.ensures ∙ (λ i. reaches_by (out-is c.ranges.ka i) (h-is i) (w-is-size i))
    ∙ reaches-is c.args.ka (vec c.args.px c.args.py) (vec c.args.qx c.args.qy) (sgn D *ℤ ev ρ one_e) (size D) in
    none_said c.args.joints ends ∙ sym (ap (λ (t : Bool). shown t second) (sym first-is ∙ c.if-not-reaches.true))

pub overflow_mul-two : goal.overflow_mul-two
overflow_mul-two c = need c.requires.apart.near.near (ex_e ⊗ dy_e) tt

pub overflow_mul-two-else-not-reaches : goal.overflow_mul-two-else-not-reaches
overflow_mul-two-else-not-reaches c = need c.requires.apart.near.near (ey_e ⊗ dx_e) tt

pub overflow_sub-two : goal.overflow_sub-two
overflow_sub-two c = need c.requires.apart.near.near two_e tt

pub times_sign-g-requires : goal.times_sign-g-requires
times_sign-g-requires c =
    let ρ : List ℤ = c.args.px ∷ c.args.py ∷ c.args.qx ∷ c.args.qy ∷ c.args.rx ∷ c.args.ry ∷ c.args.sx ∷ c.args.sy ∷ [] in
    let across-is : out c.args.across ≡ ev ρ across_e = out-is c.ranges.across ∙ c.requires.across_value in
    let not_parallel : out c.args.across ≡ pos 0 → ⊥ = λ e. c.requires.apart.apart (sym across-is ∙ e) in
    record { bz = w-lit (held c.requires.apart.near.near two_e tt) tt; not_zero = not_parallel }

pub returns-then-not-reaches-2 : goal.returns-then-not-reaches-2
returns-then-not-reaches-2 c =
    let ρ : List ℤ = c.args.px ∷ c.args.py ∷ c.args.qx ∷ c.args.qy ∷ c.args.rx ∷ c.args.ry ∷ c.args.sx ∷ c.args.sy ∷ [] in
    let A : Stretch = stretch c.args.ka c.args.px c.args.py c.args.qx c.args.qy in
    let B : Stretch = stretch c.args.kb c.args.rx c.args.ry c.args.sx c.args.sy in
    let ends : Bool = ends_meet c.args.ka A c.args.kb B in
    let first : Bool = let D = ev ρ across_e in reaches A (sgn D *ℤ ev ρ one_e) (size D) in
    let second : Bool = let D = ev ρ across_e in reaches B (sgn D *ℤ ev ρ two_e) (size D) in
    let shown : Bool → Bool → List ℤ = λ t u. meeting_numbers (left_out c.args.joints ends (cond (t && u) (point (divided (meeting_point A B))) none)) in
    let across-is : out c.args.across ≡ ev ρ across_e = out-is c.ranges.across ∙ c.requires.across_value in
    let h-is : out c.times_sign-h.result ≡ sgn (ev ρ across_e) *ℤ ev ρ one_e = times-sign-is c.times_sign-h.type_inv c.times_sign-h.ensures across-is (gives c.requires.apart.near.near one_e tt) in
    let w-is-size : out c.times_sign-w.result ≡ size (ev ρ across_e) = times-sign-size c.times_sign-w.type_inv c.times_sign-w.ensures across-is in
    let g-is : out c.times_sign-g.result ≡ sgn (ev ρ across_e) *ℤ ev ρ two_e = times-sign-is c.times_sign-g.type_inv c.times_sign-g.ensures across-is (gives c.requires.apart.near.near two_e tt) in
    let first-is : c.reaches.result ≡ first =
    let D = ev ρ across_e in
    c.reaches.ensures ∙ (λ i. reaches_by (out-is c.ranges.ka i) (h-is i) (w-is-size i))
    ∙ reaches-is c.args.ka (vec c.args.px c.args.py) (vec c.args.qx c.args.qy) (sgn D *ℤ ev ρ one_e) (size D) in
    let first-yes : first ≡ true = sym first-is ∙ c.if-not-reaches.false in
    let second_is : c.reaches-else-not-reaches.result ≡ second =
    let D = ev ρ across_e in
    c.reaches-else-not-reaches.ensures ∙ (λ i. reaches_by (out-is c.ranges.kb i) (g-is i) (w-is-size i))
    ∙ reaches-is c.args.kb (vec c.args.rx c.args.ry) (vec c.args.sx c.args.sy) (sgn D *ℤ ev ρ two_e) (size D) in
    none_said c.args.joints ends
    ∙ sym (ap₂ shown first-yes (sym second_is ∙ c.if-not-reaches-2.true))

pub returns-then-leaves_place : goal.returns-then-leaves_place
returns-then-leaves_place c =
    let ρ : List ℤ = c.args.px ∷ c.args.py ∷ c.args.qx ∷ c.args.qy ∷ c.args.rx ∷ c.args.ry ∷ c.args.sx ∷ c.args.sy ∷ [] in
    let A : Stretch = stretch c.args.ka c.args.px c.args.py c.args.qx c.args.qy in
    let B : Stretch = stretch c.args.kb c.args.rx c.args.ry c.args.sx c.args.sy in
    let ends : Bool = ends_meet c.args.ka A c.args.kb B in
    let first : Bool = let D = ev ρ across_e in reaches A (sgn D *ℤ ev ρ one_e) (size D) in
    let second : Bool = let D = ev ρ across_e in reaches B (sgn D *ℤ ev ρ two_e) (size D) in
    let across-is : out c.args.across ≡ ev ρ across_e = out-is c.ranges.across ∙ c.requires.across_value in
    let h-is : out c.times_sign-h.result ≡ sgn (ev ρ across_e) *ℤ ev ρ one_e = times-sign-is c.times_sign-h.type_inv c.times_sign-h.ensures across-is (gives c.requires.apart.near.near one_e tt) in
    let w-is-size : out c.times_sign-w.result ≡ size (ev ρ across_e) = times-sign-size c.times_sign-w.type_inv c.times_sign-w.ensures across-is in
    let g-is : out c.times_sign-g.result ≡ sgn (ev ρ across_e) *ℤ ev ρ two_e = times-sign-is c.times_sign-g.type_inv c.times_sign-g.ensures across-is (gives c.requires.apart.near.near two_e tt) in
    let left_is : (not c.args.joints && ends) ≡ c.leaves_place.result =
    sym (c.leaves_place.ensures
    ∙ (λ i. not c.args.joints
    && (place_end (out-is c.ranges.ka i) (h-is i) (w-is-size i)
    && place_end (out-is c.ranges.kb i) (g-is i) (w-is-size i)))) in
    let said : Bool → List ℤ = λ t. meeting_numbers (cond t none (cond (first && second) (point (divided (meeting_point A B))) none)) in
    sym (ap said (left_is ∙ c.if-leaves_place.true))

pub meeting_point-e-requires : goal.meeting_point-e-requires
meeting_point-e-requires c = apart_out c.requires.apart

pub returns-else-leaves_place : goal.returns-else-leaves_place
returns-else-leaves_place c =
    let ρ : List ℤ = c.args.px ∷ c.args.py ∷ c.args.qx ∷ c.args.qy ∷ c.args.rx ∷ c.args.ry ∷ c.args.sx ∷ c.args.sy ∷ [] in
    let A : Stretch = stretch c.args.ka c.args.px c.args.py c.args.qx c.args.qy in
    let B : Stretch = stretch c.args.kb c.args.rx c.args.ry c.args.sx c.args.sy in
    let ends : Bool = ends_meet c.args.ka A c.args.kb B in
    let first : Bool = let D = ev ρ across_e in reaches A (sgn D *ℤ ev ρ one_e) (size D) in
    let second : Bool = let D = ev ρ across_e in reaches B (sgn D *ℤ ev ρ two_e) (size D) in
    let across-is : out c.args.across ≡ ev ρ across_e = out-is c.ranges.across ∙ c.requires.across_value in
    let h-is : out c.times_sign-h.result ≡ sgn (ev ρ across_e) *ℤ ev ρ one_e = times-sign-is c.times_sign-h.type_inv c.times_sign-h.ensures across-is (gives c.requires.apart.near.near one_e tt) in
    let w-is-size : out c.times_sign-w.result ≡ size (ev ρ across_e) = times-sign-size c.times_sign-w.type_inv c.times_sign-w.ensures across-is in
    let g-is : out c.times_sign-g.result ≡ sgn (ev ρ across_e) *ℤ ev ρ two_e = times-sign-is c.times_sign-g.type_inv c.times_sign-g.ensures across-is (gives c.requires.apart.near.near two_e tt) in
    let first-is : c.reaches.result ≡ first =
    let D = ev ρ across_e in
    c.reaches.ensures ∙ (λ i. reaches_by (out-is c.ranges.ka i) (h-is i) (w-is-size i))
    ∙ reaches-is c.args.ka (vec c.args.px c.args.py) (vec c.args.qx c.args.qy) (sgn D *ℤ ev ρ one_e) (size D) in
    let first-yes : first ≡ true = sym first-is ∙ c.if-not-reaches.false in
    let second_is : c.reaches-else-not-reaches.result ≡ second =
    let D = ev ρ across_e in
    c.reaches-else-not-reaches.ensures ∙ (λ i. reaches_by (out-is c.ranges.kb i) (g-is i) (w-is-size i))
    ∙ reaches-is c.args.kb (vec c.args.rx c.args.ry) (vec c.args.sx c.args.sy) (sgn D *ℤ ev ρ two_e) (size D) in
    let left_is : (not c.args.joints && ends) ≡ c.leaves_place.result =
    sym (c.leaves_place.ensures
    ∙ (λ i. not c.args.joints
    && (place_end (out-is c.ranges.ka i) (h-is i) (w-is-size i)
    && place_end (out-is c.ranges.kb i) (g-is i) (w-is-size i)))) in
    let e =
    c.meeting_point-e.ensures
    ∙ (λ i. divided (meeting_point
    (stretch-out (fits64 (w-pos 3) tt) c.ranges.px c.ranges.py c.ranges.qx c.ranges.qy i)
    (stretch-out (fits64 (w-pos 3) tt) c.ranges.rx c.ranges.ry c.ranges.sx c.ranges.sy i)))
    in
    let one = first-yes in
    let two = sym second_is ∙ c.if-not-reaches-2.false in
    let out = left_is ∙ c.if-leaves_place.false in
    (λ i. meeting_numbers (point (e i))) ∙ sym (λ i. meeting_numbers (cond (out i) none (cond (one i && two i) (point (divided (meeting_point A B))) none)))

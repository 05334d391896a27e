-- `turn_of` meets its contract: the two parts of b are small enough to be added, and `lead` takes a, b and c in turn (`turn_is`).
use mathlib.Core.Path.{◌≡◌, sym, ◌∙◌, ap, ap₂}
use mathlib.Core.List.{[], ◌∷◌}
use lib.IntN.{ℤ, ◌+ℤ◌}
use Rattle.whole.specs.Sign.{sgn}
use Rattle.whole.specs.Choice.{or_else}
use Rattle.whole.specs.ChoiceLaws.{or-sgn}
use Rattle.whole.specs.Ring.{var, ◌⊕◌}
use Rattle.whole.specs.Flat.{All, none, ◌also◌, need, gives}
use Rattle.whole.specs.Bound.{w-is}
use Rattle.whole.specs.Tests.{gave}
use Rattle.sheet.specs.Coefficients.{det, turn_c}
use Rattle.sheet.specs.Expansions.{turn_is}
use Rattle.kernel.specs.Forms.{mixed-is}
use Rattle.kernel.proofs.Det.{mm, mn, nm, nn, row_out, det-out, det-within}
use Rattle.kernel.proofs.Coordinates.{lead_is}
use Rattle.kernel.proofs.signs.turn_of.Goals as goal

pub det_of-a-requires : goal.det_of-a-requires
det_of-a-requires c =
    let h = c.requires in
    (row_out (mm h.0), row_out (mm h.1), row_out (mm h.2))

pub det_of-mn-requires : goal.det_of-mn-requires
det_of-mn-requires c =
    let h = c.requires in
    (row_out (mn h.0), row_out (mn h.1), row_out (mn h.2))

pub det_of-nm-requires : goal.det_of-nm-requires
det_of-nm-requires c =
    let h = c.requires in
    (row_out (nm h.0), row_out (nm h.1), row_out (nm h.2))

pub det_of-c-requires : goal.det_of-c-requires
det_of-c-requires c =
    let h = c.requires in
    (row_out (nn h.0), row_out (nn h.1), row_out (nn h.2))

pub overflow_add-b : goal.overflow_add-b
overflow_add-b c =
    let p = c.args.p in
    let q = c.args.q in
    let s = c.args.s in
    let h = c.requires in
    let mn-is : c.det_of-mn.result ≡ det p.w p.mx p.ny q.w q.mx q.ny s.w s.mx s.ny = c.det_of-mn.ensures ∙ det-out (mn h.0) (mn h.1) (mn h.2) in
    let nm-is : c.det_of-nm.result ≡ det p.w p.nx p.my q.w q.nx q.my s.w s.nx s.my = c.det_of-nm.ensures ∙ det-out (nm h.0) (nm h.1) (nm h.2) in
    let parts : All (1536000000000000000 ∷ 1536000000000000000 ∷ []) (c.det_of-mn.result ∷ c.det_of-nm.result ∷ []) =
    w-is mn-is (det-within (mn h.0, mn h.1, mn h.2))
    also w-is nm-is (det-within (nm h.0, nm h.1, nm h.2))
    also none in
    need parts (var 0 ⊕ var 1) tt

pub returns : goal.returns
returns c =
    let p = c.args.p in
    let q = c.args.q in
    let s = c.args.s in
    let h = c.requires in
    let mn-is : c.det_of-mn.result ≡ det p.w p.mx p.ny q.w q.mx q.ny s.w s.mx s.ny = c.det_of-mn.ensures ∙ det-out (mn h.0) (mn h.1) (mn h.2) in
    let nm-is : c.det_of-nm.result ≡ det p.w p.nx p.my q.w q.nx q.my s.w s.nx s.my = c.det_of-nm.ensures ∙ det-out (nm h.0) (nm h.1) (nm h.2) in
    let parts : All (1536000000000000000 ∷ 1536000000000000000 ∷ []) (c.det_of-mn.result ∷ c.det_of-nm.result ∷ []) =
    w-is mn-is (det-within (mn h.0, mn h.1, mn h.2))
    also w-is nm-is (det-within (nm h.0, nm h.1, nm h.2))
    also none in
    let a = gave c.det_of-a.type_inv c.det_of-a.ensures ∙ det-out (mm h.0) (mm h.1) (mm h.2) in
    let b = gives parts (var 0 ⊕ var 1) tt ∙ ap₂ ◌+ℤ◌ mn-is nm-is ∙ mixed-is p q s in
    let e = gave c.det_of-c.type_inv c.det_of-c.ensures ∙ det-out (nn h.0) (nn h.1) (nn h.2) in
    lead_is c.lead-2.type_inv c.lead-2.ensures (lead_is c.lead.type_inv c.lead.ensures a b) e
    ∙ ap (λ (x : ℤ). or_else x (sgn (turn_c p q s))) (or-sgn _ _)
    ∙ sym (turn_is p q s)

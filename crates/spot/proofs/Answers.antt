-- Two answers that meet a function's contract are equal: stated of the contract itself (`Post`), at any arguments.
use mathlib.Core.Path.{◌≡◌, sym, ◌∙◌}
use contract.Lifetimes.{Lfts}
use Rattle.sheet.specs.declared.Object.{Object}
use Rattle.sheet.specs.declared.Point.{Point}
use Rattle.spot.specs.declared.TwoEnds.{TwoEnds}
use Rattle.spot.specs.declared.Answer.{Answer}
use Rattle.spot.proofs.silvanelga_spot_ends.Reads as spot-ends
use Rattle.spot.proofs.silvanelga_spot_order.Reads as spot-order
use Rattle.spot.proofs.silvanelga_spot_side.Reads as spot-side
use Rattle.spot.proofs.silvanelga_spot_cross.Reads as spot-cross
use Rattle.spot.proofs.silvanelga_spot_circle.Reads as spot-circle

pub spot-ends-answer :
    (κs : Lfts 0) (o : Object) (r s : TwoEnds) → spot-ends.Post κs (o, tt) r (o, tt) → spot-ends.Post κs (o, tt) s (o, tt) → r ≡ s
spot-ends-answer κs o r s p q = p ∙ sym q

pub spot-order-answer :
    (κs : Lfts 0) (a b : Point) (r s : Answer)
    → spot-order.Post κs (a, (b, tt)) r (a, (b, tt)) → spot-order.Post κs (a, (b, tt)) s (a, (b, tt)) → r ≡ s
spot-order-answer κs a b r s p q = p ∙ sym q

pub spot-side-answer :
    (κs : Lfts 0) (o : Object) (t : Point) (r s : Answer)
    → spot-side.Post κs (o, (t, tt)) r (o, (t, tt)) → spot-side.Post κs (o, (t, tt)) s (o, (t, tt)) → r ≡ s
spot-side-answer κs o t r s p q = p ∙ sym q

pub spot-cross-answer :
    (κs : Lfts 0) (a b : Object) (r s : Answer)
    → spot-cross.Post κs (a, (b, tt)) r (a, (b, tt)) → spot-cross.Post κs (a, (b, tt)) s (a, (b, tt)) → r ≡ s
spot-cross-answer κs a b r s p q = p ∙ sym q

pub spot-circle-answer :
    (κs : Lfts 0) (a b c d : Point) (r s : Answer)
    → spot-circle.Post κs (a, (b, (c, (d, tt)))) r (a, (b, (c, (d, tt)))) → spot-circle.Post κs (a, (b, (c, (d, tt)))) s (a, (b, (c, (d, tt)))) → r ≡ s
spot-circle-answer κs a b c d r s p q = p ∙ sym q

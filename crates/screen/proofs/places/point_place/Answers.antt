-- `point_place` meets its contract: mx and my are 0 at a standard point alone (`flat-is`); what is divided is in the limits of `ratio`.
use Rattle.std.proofs.Common.{◌≡◌, ◌∙◌, sym, true, false, ◌&&◌, pos, rules}
use Rattle.whole.specs.Flag.{eq_z}
use Rattle.screen.proofs.QuotientLaws.{parts_out}
use Rattle.screen.specs.Places.{position_of, on_screen_says}
use Rattle.screen.specs.declared.OnScreen.TheVariants.{At}
use Rattle.screen.proofs.PlacesLaws.{ratios, flat-is, place-standard, place-frame}
use Rattle.screen.proofs.places.point_place.Goals as goal

pub ratio-y-requires : goal.ratio-y-requires
ratio-y-requires c = parts_out (ratios c.requires).in_ny

pub returns-then-p : goal.returns-then-p
returns-then-p c =
    let p = c.args.p in
    let flat : eq_z p.mx (pos 0) && eq_z p.my (pos 0) ≡ true = search rules in
    let place : on_screen_says (At c.ratio-x.result c.ratio-y.result) ≡ position_of p = search rules in
    place ∙ sym (place-standard p (sym (flat-is c.requires) ∙ flat))

pub returns : goal.returns
returns c =
    let p = c.args.p in
    let flat : eq_z p.mx (pos 0) && eq_z p.my (pos 0) ≡ false = search rules in
    c.edge_place.ensures ∙ sym (place-frame c.args.p (sym (flat-is c.requires) ∙ flat))

-- The forms in which the kernel's inner functions find the side of circle, of given points p, q, s and a point u. That it is so is in Angles.
use Rattle.std.specs.Prelude.{ℤ, neg_ℤ, ◌-ℤ◌, ◌*ℤ◌}
use Rattle.whole.specs.Sign.{sgn}
use Rattle.whole.specs.Choice.{or_else}
use Rattle.sheet.specs.declared.Point.{Point}
use Rattle.sheet.specs.Figure.{Vec, ◌⇀◌}
use Rattle.sheet.specs.Points.{given}
use Rattle.sheet.specs.Signs.{turn}
use Rattle.sheet.specs.Crossing.{cross, dot}

-- q and s seen from p
abbrev pub turns : Vec → Vec → Vec → ℤ
turns p q s = cross (p ⇀ q) (p ⇀ s)

abbrev pub inner : Vec → Vec → Vec → ℤ
inner p q s = dot (p ⇀ q) (p ⇀ s)

-- of a given u
abbrev pub given_form : Vec → Vec → Vec → Vec → ℤ
given_form p q s u = turns p q s *ℤ inner u q s -ℤ inner p q s *ℤ turns u q s

-- of a frame point u
abbrev pub frame_form : Vec → Vec → Vec → Point → ℤ
frame_form p q s u = or_else (sgn (turns p q s)) (neg_ℤ (sgn (inner p q s) *ℤ turn (given q) (given s) u))

-- "Ends, signs and crossings don't depend on the tag" (document 02): of an object, and of the same with another tag. The laws are in TagLaws.
use Rattle.std.specs.Prelude.{ℤ}
use Rattle.sheet.specs.declared.Object.{Object}

-- the same object with another tag
abbrev pub tagged : ℤ → Object → Object
tagged t o = record { kind = o.kind; px = o.px; py = o.py; qx = o.qx; qy = o.qy; tag = t }

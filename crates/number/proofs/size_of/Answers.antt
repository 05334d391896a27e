-- `size_of` meets its contract: the place behind a number's bytes, in cells of their own, is how many they are.
use mathlib.Core.Path.{refl}
use native.Mathlib.Omega.{arith}
use Rattle.number.proofs.GroupsLaws.{number-most}
use Rattle.number.proofs.WritingLaws.{own-bytes}
use Rattle.number.proofs.size_of.Goals as goal

pub write_number-requires : goal.write_number-requires
write_number-requires c = (c.requires, omega (arith, number-most c.args.n))

pub returns : goal.returns
returns c = (own-bytes refl c.write_number.ensures).long

-- `extent_of` meets its contract: of an accepted object the kernel's answer is both ends.
use mathlib.Core.Path.{◌∙◌}
use Rattle.listing.specs.ExtentsLaws.{ends-taken, ends-extent, ends-sound}
use Rattle.listing.proofs.extents.extent_of.Goals as goal

pub unwrap-ends-requires : goal.unwrap-ends-requires
unwrap-ends-requires c = ends-taken c.requires c.ends_of.result c.ends_of.ensures

pub extent_by-requires : goal.extent_by-requires
extent_by-requires c = ends-sound c.requires c.ends_of.result c.ends_of.ensures c.unwrap-ends.ensures

pub returns : goal.returns
returns c = c.extent_by.ensures ∙ ends-extent c.requires c.ends_of.result c.ends_of.ensures c.unwrap-ends.ensures

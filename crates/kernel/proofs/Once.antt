-- An answer that is no point, by its key. To cite:
--   no-once      what changes nothing of such an answer leaves it as it is
use mathlib.Core.Path.{◌≡◌, sym}
use mathlib.Core.List.{[], ◌∷◌}
use types.Run.{OneOf, miss}
use denote.Enum.Declared.{tag_of}
use Rattle.sheet.specs.contracts.Crossing as declared
use Rattle.sheet.specs.declared.Crossing.{Crossing}
use Rattle.sheet.specs.declared.Crossing.TheVariants as crossing

module _ (F : Crossing → Crossing) (nothing : F crossing.Nothing ≡ crossing.Nothing) (many : F crossing.Many ≡ crossing.Many) where
  pub no-once : (r : Crossing) → OneOf (0 ∷ 2 ∷ []) (tag_of declared.the_type r) → r ≡ F r
  no-once crossing.Nothing h = sym nothing
  no-once (crossing.Once e) h = absurd (miss (0 ∷ 2 ∷ []) 1 tt h)
  no-once crossing.Many h = sym many

-- What the inner functions of store and listing ask of a list: it is not refused (`listable`, `is-listable` in ListsLaws).
use Rattle.std.specs.Prelude.{◌≡◌, List, ℕ, ◌*◌, ◌≤◌, ◌<◌, ℤ, length}
use Rattle.sheet.specs.Limits.{most}
use Rattle.sheet.specs.Refusal.{Accepted}
use Rattle.sheet.specs.Lists.{width, count_of, object_at}

pub record Listable (l : List ℤ) : Type 0 where
  pub whole : count_of l * width ≡ length l
  pub few : count_of l ≤ most
  pub each : (i : ℕ) → i < count_of l → Accepted (object_at l i)

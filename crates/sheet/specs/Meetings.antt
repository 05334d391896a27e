-- What an inner function of listing says of a crossing: the answer as what two objects share; and what they share as it is answered.
use Rattle.sheet.specs.declared.Crossing.{Crossing}
use Rattle.sheet.specs.declared.Crossing.TheVariants as crossing
use Rattle.sheet.specs.Crossing.{Meeting, none, point, many}

abbrev pub crossing_by : Meeting → Crossing
crossing_by none = crossing.Nothing
crossing_by (point p) = crossing.Once p
crossing_by many = crossing.Many

abbrev pub meeting_by : Crossing → Meeting
meeting_by crossing.Nothing = none
meeting_by (crossing.Once p) = point p
meeting_by crossing.Many = many

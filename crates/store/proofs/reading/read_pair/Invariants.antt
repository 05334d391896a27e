-- `read_pair` meets its contract: in each turn one point more is read (`read_points`), and behind the second p is compared with q.
use mathlib.Core.Path.{◌≡◌}
use Prim.Native.Nat.{◌-◌, ◌≤◌}
use lib.IntN.{nat_abs}
use Rattle.sheet.specs.Limits.{reach_size}
use Rattle.sheet.specs.Figure.{vec}
use Rattle.store.specs.declared.reading.Spot.{Spot}
use Rattle.store.specs.Stored.{read_pair}
use Rattle.store.specs.PointsLaws.{read_points}
use Rattle.store.proofs.reading.read_pair.Given as goal

-- a point within reach
abbrev pub Small : Spot → Type 0
Small s = (nat_abs s.x ≤ reach_size) × (nat_abs s.y ≤ reach_size)

abbrev pub invariant-loop : goal.invariant-loop
invariant-loop l =
    (read_pair l.form l.kind l.tag l.bytes ≡ read_points l.form l.kind l.tag (2 - l.counter) (vec l.p.x l.p.y) (vec l.q.x l.q.y) l.rest)
    × (Small l.p × Small l.q)

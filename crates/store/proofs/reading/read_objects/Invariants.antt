-- `read_objects` meets its contract: the objects that were read, in front of what is left to be read, are all of them.
use mathlib.Core.Path.{◌≡◌}
use mathlib.Core.List.{List, ◌++◌}
use Prim.Native.Nat.{ℕ, ◌-◌, ◌<◌}
use lib.IntN.{ℤ}
use lib.ListN.{length}
use lib.Seq.{sets}
use Rattle.sheet.specs.Lent.{Wrote}
use Rattle.store.specs.declared.Form.{Form}
use Rattle.store.specs.Stored.{Drawing, read_objects}
use Rattle.store.proofs.reading.read_objects.Given as goal

-- objects in front of a drawing
abbrev pub behind : List ℤ → Drawing → Drawing
behind front x = record { objects = front ++ x.objects; refusal = x.refusal }

-- what is in front was put as far as there are cells, and where there is one `to` is the place behind it
pub record Put (d out : List ℤ) (to : ℕ) (front : List ℤ) : Type 0 where
  pub cells : out ≡ sets d 0 front
  pub there : 0 < length d → Wrote d out 0 to front

-- `done` objects are read: the others are those of the rest, and are to be put at the place `to` of the list
pub record Stands (f : Form) (count : ℕ) (bs : List ℕ) (d out : List ℤ) (done : ℕ) (rest : List ℕ) (to : ℕ) : Type 0 where
  pub front : List ℤ
  pub put : Put d out to front
  pub all : behind front (read_objects f (count - done) rest) ≡ read_objects f count bs

abbrev pub invariant-loop : goal.invariant-loop
invariant-loop l = Stands l.form l.count l.bytes l.initial.out l.out l.counter l.rest l.to

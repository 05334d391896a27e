-- The invariant: the first `done` of the lent bytes are what was taken of the input, the bytes stay as many, and there is one at least behind a
-- turn.
use Rattle.std.proofs.Common.{◌≡◌, ◌<◌, ◌≤◌, length, take}
use Rattle.std.specs.Io.KnownBytes.{Consumes}
use Rattle.stream.proofs.input.read_bytes.Given as goal

abbrev pub invariant-loop : goal.invariant-loop
invariant-loop g l = record {
  cells : length l.bytes ≡ length l.initial.bytes;
  within : l.done ≤ length l.bytes;
  some : 0 < l.counter → 0 < length l.bytes;
  taken : Consumes (g.R.Read.remaining l.initial.from) (g.R.Read.remaining l.from) (take l.done l.bytes);
}

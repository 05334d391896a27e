-- The invariant: the first `done` bytes of the text went.
use Rattle.std.proofs.Common.{◌≤◌, length, take}
use Rattle.std.specs.Io.KnownBytes.{Appends}
use Rattle.stream.proofs.output.write_text.Given as goal

abbrev pub invariant-loop : goal.invariant-loop
invariant-loop g l = record {
  within : l.done ≤ length l.text;
  went : Appends (g.W.Write.contents l.initial.to) (g.W.Write.contents l.to) (take l.done l.text);
}

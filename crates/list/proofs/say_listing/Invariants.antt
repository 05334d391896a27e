-- The invariant: all went, and each object so far had at most `most` rows.
use Rattle.std.proofs.Common.{◌≡◌, ◌*◌, ◌≤◌, true}
use Rattle.sheet.specs.Limits.{most}
use Rattle.list.proofs.say_listing.Given as goal

abbrev pub invariant-loop-i : goal.invariant-loop-i
invariant-loop-i g l = record {
  whole : l.out.whole ≡ true;
  few : l.i-end ≤ most;
  total : l.total ≤ most * l.i;
}

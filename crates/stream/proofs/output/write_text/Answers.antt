-- `write_text` puts the text's bytes one after another, and stops behind those that went.
use Rattle.std.proofs.Common.{rules, sym, ap, ◌∙◌}
use Rattle.stream.specs.Stream.{gone}
use Rattle.stream.specs.StreamLaws.{went-more}
use Rattle.stream.proofs.output.write_text.Goals as goal
use Rattle.stream.proofs.output.write_text.Goals.{in-Ok, in-Err}

pub loop-preserved : goal.loop-preserved
loop-preserved g c =
    let write = c.write_rest in
    record {
      within = search rules;
      went = elim c.match-write_rest.branch [
        | in-Ok w ↦ went-more _ _ _ _ _ _ write.result (w.done-is ∙ sym (ap (gone c.loop.done) w.in-Ok.is)) c.loop.invariant.went write.ensures.bytes
        | in-Err w ↦ went-more _ _ _ _ _ _ write.result (w.done-is ∙ sym (ap (gone c.loop.done) w.in-Err.is)) c.loop.invariant.went write.ensures.bytes
      ];
    }

-- `read_bytes` takes the input's bytes one after another.
use Rattle.std.proofs.Common.{rules, arith, sym, ap, ◌∙◌}
use Rattle.stream.specs.Stream.{gone}
use Rattle.stream.specs.StreamLaws.{taken-more, read_none}
use Rattle.stream.proofs.input.read_bytes.Goals as goal
use Rattle.stream.proofs.input.read_bytes.Goals.{in-Ok, in-Err}

pub loop-preserved : goal.loop-preserved
loop-preserved g c =
    let rest = c.read_rest in
    record {
      cells = search rules;
      within = search rules;
      some = search rules;
      taken = elim c.match-read_rest.branch [
        | in-Ok w ↦
            taken-more _ _ _ _ _ c.loop.done _ rest.result (w.done-is ∙ sym (ap (gone c.loop.done) w.in-Ok.is)) rest.ensures.front
            c.loop.invariant.taken rest.ensures.bytes
        | in-Err w ↦
            taken-more _ _ _ _ _ c.loop.done _ rest.result (w.done-is ∙ sym (ap (gone c.loop.done) w.in-Err.is)) rest.ensures.front
            c.loop.invariant.taken rest.ensures.bytes
      ];
    }

pub returns-clause-read_into : goal.returns-clause-read_into
returns-clause-read_into g c = read_none _ _ _ c.loop.invariant.cells (c.loop.invariant.some (omega (arith, c.loop-test.false)))

use Rattle.std.proofs.Common.{◌≡◌, ◌∷◌, arith, rules}
use Rattle.std.proofs.lemmas.Grind.{common_steps}
use Rattle.naga_oil_conditions.specs.SourceView.{line_of}
use Rattle.naga_oil_pre.proofs.TakingLemmas.{takes_more, takes_closed, takes_none}
use Rattle.naga_oil_pre.proofs.imports.take_lines.Goals as goal

pub loop-braces-preserved : goal.loop-braces-preserved
loop-braces-preserved g c =
    let first : c.loop-braces.source.left ≡ line_of c.in-Some.line ∷ c.next.new.self.left = search rules in
    record {
      braces = grind (arith, common_steps);
      left = grind (arith, common_steps);
      sink = λ new more. c.loop-braces.invariant.sink new (takes_more g.S.TakesLine.Takes c.loop-braces.sink c.take.new.self new c.loop-braces.braces c.in_ok-braces.braces (line_of c.in-Some.line) c.loop-braces.source.left c.next.new.self.left (omega arith) first c.in_ok-braces.ensures.after c.in_ok-take.ensures more);
      import = grind (arith, common_steps);
      fits = grind (arith, common_steps);
      room = grind (arith, common_steps);
      end = grind (arith, common_steps);
      shorter = grind (arith, common_steps);
    }

pub returns-after-loop-braces-clause-sink : goal.returns-after-loop-braces-clause-sink
returns-after-loop-braces-clause-sink g c = c.loop-braces.invariant.sink c.loop-braces.sink (takes_closed g.S.TakesLine.Takes c.loop-braces.sink c.loop-braces.braces c.loop-braces.source.left (omega arith))

pub returns-in_default-clause-sink : goal.returns-in_default-clause-sink
returns-in_default-clause-sink g c = c.loop-braces.invariant.sink c.loop-braces.sink (takes_none g.S.TakesLine.Takes c.loop-braces.sink c.loop-braces.braces c.loop-braces.source.left (search rules))

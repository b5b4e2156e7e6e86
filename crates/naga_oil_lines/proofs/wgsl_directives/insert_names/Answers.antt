use Rattle.naga_oil_lines.proofs.DirectiveLemmas.{names_more}
use Rattle.naga_oil_lines.proofs.wgsl_directives.insert_names.Goals as goal

pub loop-name-preserved : goal.loop-name-preserved
loop-name-preserved c =
    names_more _ c.args.more.now c.loop-name.name-index c.name-item.result c.as_str.result c.loop-name.names.keys c.insert.new.self.keys c.loop-name-test.true c.name-item.is c.as_str.ensures.value c.loop-name.invariant c.in_ok-insert.ensures.keys

use Rattle.std.specs.String.{string_bytes}
use Rattle.naga_oil_lines.proofs.DirectiveLemmas.{diagnostics_more}
use Rattle.naga_oil_lines.proofs.wgsl_directives.push_diagnostics.Goals as goal

pub loop-diagnostic-preserved : goal.loop-diagnostic-preserved
loop-diagnostic-preserved c =
    diagnostics_more c.args.diagnostics.now c.loop-diagnostic.diagnostic-index c.diagnostic-item.result (string_bytes c.args.text.now) (string_bytes c.loop-diagnostic.text) (string_bytes c.push_line.new.text)
    c.loop-diagnostic-test.true c.diagnostic-item.is c.loop-diagnostic.invariant c.in_ok-push_line.ensures

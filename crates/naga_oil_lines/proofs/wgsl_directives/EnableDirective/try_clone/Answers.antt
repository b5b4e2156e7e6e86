use Rattle.naga_oil_lines.proofs.DirectiveLemmas.{enable_again}
use Rattle.naga_oil_lines.proofs.wgsl_directives.EnableDirective.try_clone.Goals as goal

pub returns : goal.returns
returns c = enable_again c.args.self.now c.in_ok-clone.field-0 c.in_ok-clone.ensures.cases.0

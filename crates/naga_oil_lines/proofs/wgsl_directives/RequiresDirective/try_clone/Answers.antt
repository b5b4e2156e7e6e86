use Rattle.naga_oil_lines.proofs.DirectiveLemmas.{requires_again}
use Rattle.naga_oil_lines.proofs.wgsl_directives.RequiresDirective.try_clone.Goals as goal

pub returns : goal.returns
returns c = requires_again c.args.self.now c.in_ok-clone.field-0 c.in_ok-clone.ensures.cases.0

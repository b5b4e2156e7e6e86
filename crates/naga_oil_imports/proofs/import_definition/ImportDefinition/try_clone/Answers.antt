use Rattle.naga_oil_imports.proofs.UsesLemmas.{import_again}
use Rattle.naga_oil_imports.proofs.import_definition.ImportDefinition.try_clone.Goals as goal

pub returns : goal.returns
returns c = import_again c.args.self.now c.in_ok-clone.field-0 c.in_ok-clone-2.field-0 c.in_ok-clone.ensures.cases c.in_ok-clone-2.ensures.cases.0

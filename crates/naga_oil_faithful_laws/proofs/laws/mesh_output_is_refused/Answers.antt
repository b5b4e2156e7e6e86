use Rattle.naga_oil_faithful_laws.proofs.Wrong.{mesh_refused}
use Rattle.naga_oil_faithful_laws.proofs.laws.mesh_output_is_refused.Goals as goal

pub returns : goal.returns
returns c = mesh_refused

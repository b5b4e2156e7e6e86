use Rattle.naga_oil_faithful_laws.proofs.Clauses.{glsl_law}
use Rattle.naga_oil_faithful_laws.proofs.laws.stages_of_glsl_shaders.Goals as goal

pub returns : goal.returns
returns c = glsl_law

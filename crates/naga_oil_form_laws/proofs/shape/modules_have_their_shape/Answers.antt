use Rattle.naga_oil_form_laws.proofs.ModuleShapes.{module_shape}
use Rattle.naga_oil_form_laws.proofs.shape.modules_have_their_shape.Goals as goal

pub returns : goal.returns
returns c = module_shape

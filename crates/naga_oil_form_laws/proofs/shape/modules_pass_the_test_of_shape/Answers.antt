use Rattle.naga_oil_form_laws.proofs.ModuleShapes.{module_shape}
use Rattle.naga_oil_form_laws.proofs.ShapeTests.{shape_test}
use Rattle.naga_oil_ir.specs.ModuleValue.{module_value}
use Rattle.naga_oil_form_laws.proofs.shape.modules_pass_the_test_of_shape.Goals as goal

pub returns : goal.returns
returns c = (shape_test (module_value c.args.parsed.now)).1 (module_shape c.args.parsed.now c.iter-keys.ensures.unique)

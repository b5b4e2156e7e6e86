use Rattle.naga_oil_form_laws.proofs.ShapeTests.{shape_test}
use Rattle.naga_oil_form_laws.proofs.shape.shapes_are_tested.Goals as goal

pub returns : goal.returns
returns c = shape_test

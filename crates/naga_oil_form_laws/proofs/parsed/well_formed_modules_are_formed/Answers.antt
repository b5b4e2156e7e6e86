use Rattle.naga_oil_form_laws.proofs.ParsedFunctions.{parsed_module}
use Rattle.naga_oil_form_laws.proofs.parsed.well_formed_modules_are_formed.Goals as goal

pub returns : goal.returns
returns c = λ d n l f. parsed_module c.args.parsed.now n l d f c.iter-keys.ensures.unique

use Rattle.naga_oil_link_laws.proofs.ParsedShapes.{parsed_shape}
use Rattle.naga_oil_link_laws.proofs.parsed.shaped_parses_are_formed.Goals as goal

pub returns : goal.returns
returns c = parsed_shape

use Rattle.naga_oil_faithful_laws.proofs.SpecialTypes.{special_types_come}
use Rattle.naga_oil_faithful_laws.proofs.laws.special_types_come_from_parses.Goals as goal

pub returns : goal.returns
returns c = special_types_come

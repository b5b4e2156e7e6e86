use Rattle.naga_oil_derive.proofs.AnsweredLaws.{answer_law, call_law, function_law, localized_law}
use Rattle.naga_oil_derive.proofs.AddingLaws.{adding_law}
use Rattle.naga_oil_derive.proofs.laws.derivations_with_functions.Goals as goal

pub returns : goal.returns
returns c = record { answers = answer_law; call = call_law; function = function_law; adding = adding_law; localized = localized_law }

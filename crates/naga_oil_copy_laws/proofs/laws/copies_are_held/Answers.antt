use Rattle.naga_oil_copy_laws.proofs.HeldLaws.{source_holds, items_hold, answers_hold, function_holds}
use Rattle.naga_oil_copy_laws.proofs.laws.copies_are_held.Goals as goal

pub returns : goal.returns
returns c = record { source = source_holds; items = items_hold; answers = answers_hold; function = function_holds }

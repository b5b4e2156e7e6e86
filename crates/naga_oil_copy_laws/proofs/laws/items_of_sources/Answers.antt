use Rattle.naga_oil_copy_laws.proofs.ItemLaws.{source_items, imported_items, renamed_items, answered_items, function_items, held_items}
use Rattle.naga_oil_copy_laws.proofs.laws.items_of_sources.Goals as goal

pub returns : goal.returns
returns c = record { source = source_items; item = imported_items; named = renamed_items; answers = answered_items; function = function_items; held = held_items }

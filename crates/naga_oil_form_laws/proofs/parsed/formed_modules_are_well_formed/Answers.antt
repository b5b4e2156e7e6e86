use Rattle.naga_oil_form_laws.proofs.FormedItems.{copyable_items}
use Rattle.naga_oil_form_laws.proofs.FormedModules.{copied_from, well_formed}
use Rattle.naga_oil_form_laws.proofs.parsed.formed_modules_are_well_formed.Goals as goal

pub returns : goal.returns
returns c = record { items = copyable_items; copied = copied_from; modules = well_formed }

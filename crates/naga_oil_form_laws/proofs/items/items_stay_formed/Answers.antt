use Rattle.naga_oil_form_laws.proofs.DerivedLemmas.{nothing_has, cleared_has, import_formed, rename_formed, set_formed}
use Rattle.naga_oil_form_laws.proofs.items.items_stay_formed.Goals as goal

pub returns : goal.returns
returns c = record { nothing = nothing_has; cleared = cleared_has; import = import_formed; rename = rename_formed; set = set_formed }

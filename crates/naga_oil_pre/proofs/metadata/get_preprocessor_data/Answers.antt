use Rattle.std.proofs.Common.{◌≡◌, map, true, rules}
use Rattle.naga_oil_imports.specs.Uses.{import_of, use_of}
use Rattle.naga_oil_pre.specs.Metadata.{metadata}
use Rattle.naga_oil_conditions.specs.View.{fault_of}
use Rattle.naga_oil_pre.proofs.MetadataLemmas.{data_made, data_refused}
use Rattle.naga_oil_pre.proofs.metadata.get_preprocessor_data.Goals as goal

pub returns-in_ok-definitions-in-Ok : goal.returns-in_ok-definitions-in-Ok
returns-in_ok-definitions-in-Ok c =
    let same : map import_of c.in_ok-definitions-in-Ok.definitions.items ≡ map (λ used. (use_of used).import) c.in-Ok.metadata.imports.items = search rules in
    data_made c.in-Ok.metadata (metadata true c.args.source.now) (map import_of c.in_ok-definitions-in-Ok.definitions.items) c.in-Ok.ensures.value same

pub returns-in-Err-2 : goal.returns-in-Err-2
returns-in-Err-2 c =
    data_refused (fault_of c.in-Err.error) (metadata true c.args.source.now) c.new.result.items c.new-in-Err-2.result c.in-Err.ensures.value c.if-is_memory.ensures c.new.ensures.items c.new-in-Err-2.ensures.empty

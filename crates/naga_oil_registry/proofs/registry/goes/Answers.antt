use Rattle.std.proofs.Common.{map, sym, rules}
use Rattle.std.proofs.lemmas.Bool.{or_from}
use Rattle.naga_oil_imports.specs.Uses.{use_of}
use Rattle.naga_oil_registry.proofs.RemovedLemmas.{none-imported}
use Rattle.naga_oil_registry.proofs.registry.goes.Goals as goal

pub returns-then-is_empty : goal.returns-then-is_empty
returns-then-is_empty c =
    let uses = map use_of c.args.definition.now.all_imports.items in
    sym (or_from _ _ (search rules) (none-imported c.args.gone.now uses (c.is_empty.ensures.0 c.if-is_empty.true)))

use Rattle.std.proofs.Common.{◌≡◌, ◌∙◌, sym, bytes_eq, string_bytes, rules}
use borrow.Author.Tests.{tests}
use Rattle.std.specs.List.{list_any}
use Rattle.std.proofs.lemmas.Iterator.{YieldsList-from_slice}
use Rattle.std.proofs.lemmas.Iterator.Search.{any_from_yields_List}
use Rattle.naga_oil_imports.specs.Uses.{Use, use_of}
use Rattle.naga_oil_registry.proofs.RegistryLemmas.{list_any_map}
use Rattle.naga_oil_registry.proofs.definition.ComposableModuleDefinition.may_import.Goals as goal

pub returns : goal.returns
returns c =
    let imports = c.args.self.now.all_imports.items in
    let name = c.args.name.now in
    any_from_yields_List (λ i. bytes_eq (string_bytes i.definition.import) name) _ _ c.any.result c.any.ensures.ran (YieldsList-from_slice imports (search rules)) (λ x b q k. search (rules, tests)) ∙ sym (list_any_map (λ (u : Use). bytes_eq u.import.import name) use_of imports)

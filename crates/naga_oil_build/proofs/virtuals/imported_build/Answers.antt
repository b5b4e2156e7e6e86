use Rattle.std.proofs.Common.{◌≡◌, true, false, option_map, map, sym, ap, ◌∙◌, rules}
use borrow.Author.Tests.{tests}
use Rattle.std.specs.Arc.{arc_value}
use Rattle.std.specs.List.{list_any}
use Rattle.std.specs.Str.{bytes_eq}
use Rattle.std.specs.String.{string_bytes}
use Rattle.std.proofs.lemmas.Iterator.{YieldsList-from_slice}
use Rattle.std.proofs.lemmas.Iterator.Search.{any_from_yields_List}
use Rattle.naga_oil_imports.specs.Uses.{import_of}
use Rattle.naga_oil_link.specs.BuiltModule.{built_of, builds_of}
use Rattle.naga_oil_build.proofs.OverridingLemmas.{found_build, shared_build, any_import, imported_then, imported_else}
use Rattle.naga_oil_build.proofs.virtuals.imported_build.Goals as goal

pub returns-then-any : goal.returns-then-any
returns-then-any c =
    let name = c.args.name.now in
    let found = any_from_yields_List (λ d. bytes_eq (string_bytes d.import) name) _ _ c.any.result c.any.ensures.ran (YieldsList-from_slice c.args.imports.now (search rules)) (λ x b q k. search (rules, tests)) in
    let imported : list_any (λ i. bytes_eq i.import name) (map import_of c.args.imports.now) ≡ true = sym (any_import name c.args.imports.now) ∙ sym found ∙ c.if-any.true in
    shared_build _ c.get.result c.map.result c.map.ensures.cases (λ a b q. search rules) ∙ ap (option_map (λ a. built_of (arc_value a))) c.get.ensures.value ∙ found_build c.args.builds.now.entries name ∙ imported_then (builds_of c.args.builds.now) (map import_of c.args.imports.now) name imported

pub returns-else-any : goal.returns-else-any
returns-else-any c =
    let name = c.args.name.now in
    let found = any_from_yields_List (λ d. bytes_eq (string_bytes d.import) name) _ _ c.any.result c.any.ensures.ran (YieldsList-from_slice c.args.imports.now (search rules)) (λ x b q k. search (rules, tests)) in
    let not_imported : list_any (λ i. bytes_eq i.import name) (map import_of c.args.imports.now) ≡ false = sym (any_import name c.args.imports.now) ∙ sym found ∙ c.if-any.false in
    imported_else (builds_of c.args.builds.now) (map import_of c.args.imports.now) name not_imported

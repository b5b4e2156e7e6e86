use borrow.Author.Tests.{tests}
use Rattle.std.proofs.Common.{rules, ◌≡◌, ◌∙◌, false, List, map, Option, Some, option_map, unwrap_or, ap, sym, subst, Global}
use Rattle.std.proofs.lemmas.Iterator.Consumers.{YieldsList-from_rest}
use Rattle.std.proofs.lemmas.Iterator.Search.{any_from_yields_List}
use Rattle.std.specs.Arc.{arc_value}
use Rattle.std.specs.List.{list_any}
use Rattle.std.specs.Map.{keys_of}
use Rattle.std.specs.declared.sync.Arc.{Arc}
use Rattle.naga_oil_registry.specs.Registered.{Registered, definition_of, defs_of}
use Rattle.naga_oil_registry.specs.Registry.{module_named}
use Rattle.naga_oil_registry.proofs.RegistryLemmas.{list_any_map}
use Rattle.naga_oil_link.specs.BuiltModule.{BuiltModule, built_of}
use Rattle.naga_oil_link.specs.declared.module.ComposableModule.{ComposableModule}
use Rattle.naga_oil.specs.State.{State}
use Rattle.naga_oil.specs.Store.{Key, is_kept, key_under, same_key}
use Rattle.naga_oil.specs.StoreView.{key_of}
use Rattle.naga_oil.specs.declared.compose.store.Key.{Key as CodeKey}
use Rattle.naga_oil.proofs.compose.composer.Composer.has_build.Goals as goal

-- a key is among those of the store, or no build is kept under it
is_stored : (under : Key) (entries : List (CodeKey × Arc ComposableModule Global)) → list_any (λ (k : CodeKey). same_key under (key_of k)) (keys_of entries) ≡ is_kept (map (λ e. (key_of e.0, built_of (arc_value e.1))) entries) under
is_stored under entries =
    list_any_map (λ (k : CodeKey). same_key under (key_of k)) (λ e. e.0) entries
    ∙ sym (list_any_map (λ (e : Key × BuiltModule). same_key under e.0) (λ (e : CodeKey × Arc ComposableModule Global). (key_of e.0, built_of (arc_value e.1))) entries)

pub returns-clause-value : goal.returns-clause-value
returns-clause-value g c =
    let inside = c.self.inside in
    let defs = defs_of c.args.shader_defs.now in
    let of : Registered = definition_of c.in-Some.of.now in
    let under : Key = key_under of defs in
    let found : c.any.result ≡ list_any (λ (k : CodeKey). same_key under (key_of k)) (keys_of inside.store.entries) =
    any_from_yields_List (λ (k : CodeKey). same_key under (key_of k)) _ _ c.any.result c.any.ensures.ran (YieldsList-from_rest (keys_of inside.store.entries) (search rules)) (λ x b q k. search (rules, tests)) in
    let named : Some of ≡ module_named c.args.module_name.now c.args.self.now.registry = c.in-Some.ensures.value in
    let kept = subst (λ (v : State _). c.any.result ≡ is_kept v.kept under) c.self.view_is (found ∙ is_stored under inside.store.entries) in
    kept ∙ ap (λ (o : Option Registered). unwrap_or (option_map (is_kept c.args.self.now.kept) (option_map (λ d. key_under d defs) o)) false) named

use Rattle.std.proofs.Common.{◌≡◌, ◌∷◌, [], ◌++◌, ◌∙◌, map, option_map, ap, sym, subst, refl, rules}
use Rattle.naga_oil_ir.specs.ModuleValue.{entry_value}
use Rattle.naga_oil_ir.specs.declared.names.ItemPlace.TheVariants.{GlobalItem}
use Rattle.naga_oil_derive.specs.DerivedEntries.{HasNamed}
use Rattle.naga_oil_derive.specs.DerivedValue.{localize_function, place_by}
use Rattle.naga_oil_derive.specs.CopiedEntry.{import_items, sizes_names, mesh_names, place_expression, place_mesh}
use Rattle.naga_oil_derive.proofs.EntrySteps.{Keeps-trans, kept_functions, functions_trans, if_mesh_later, named_later}
use Rattle.naga_oil_derive.proofs.EntryValues.{items_then, still_set, seen_source, entry_is, entry_made}
use Rattle.naga_oil_derive.proofs.derive.DerivedModule.copied_entry.Goals as goal

pub returns-in_err-import_sizes-clause-keeps :
    goal.returns-in_err-import_sizes-clause-keeps
returns-in_err-import_sizes-clause-keeps c =
    let a = c.localize_function.new.self in
    let b = c.import_sizes.new.self in
    functions_trans c.args.self.now a b c.localize_function.ensures.keeps (kept_functions a b c.import_sizes.ensures.keeps)

pub returns-in_err-import_mesh-clause-keeps : goal.returns-in_err-import_mesh-clause-keeps
returns-in_err-import_mesh-clause-keeps c =
    let a = c.localize_function.new.self in
    let b = c.import_sizes.new.self in
    let e = c.import_mesh.new.self in
    functions_trans c.args.self.now a e c.localize_function.ensures.keeps (kept_functions a e (Keeps-trans a b e c.import_sizes.ensures.keeps c.import_mesh.ensures.keeps))

pub returns-in_err-import_some-clause-keeps : goal.returns-in_err-import_some-clause-keeps
returns-in_err-import_some-clause-keeps c =
    let a = c.localize_function.new.self in
    let b = c.import_sizes.new.self in
    let e = c.import_mesh.new.self in
    let f = c.import_some.new.self in
    functions_trans c.args.self.now a f c.localize_function.ensures.keeps (kept_functions a f (Keeps-trans a b f c.import_sizes.ensures.keeps (Keeps-trans b e f c.import_mesh.ensures.keeps c.import_some.ensures.keeps)))

pub returns-in_err-name-clause-keeps : goal.returns-in_err-name-clause-keeps
returns-in_err-name-clause-keeps c =
    let a = c.localize_function.new.self in
    let b = c.import_sizes.new.self in
    let e = c.import_mesh.new.self in
    let f = c.import_some.new.self in
    functions_trans c.args.self.now a f c.localize_function.ensures.keeps (kept_functions a f (Keeps-trans a b f c.import_sizes.ensures.keeps (Keeps-trans b e f c.import_mesh.ensures.keeps c.import_some.ensures.keeps)))

pub returns-clause-keeps : goal.returns-clause-keeps
returns-clause-keeps c =
    let a = c.localize_function.new.self in
    let b = c.import_sizes.new.self in
    let e = c.import_mesh.new.self in
    let f = c.import_some.new.self in
    functions_trans c.args.self.now a f c.localize_function.ensures.keeps (kept_functions a f (Keeps-trans a b f c.import_sizes.ensures.keeps (Keeps-trans b e f c.import_mesh.ensures.keeps c.import_some.ensures.keeps)))

pub import_mesh-requires : goal.import_mesh-requires
import_mesh-requires c =
    let a = c.localize_function.new.self in
    let b = c.import_sizes.new.self in
    if_mesh_later c.args.self.now b c.args.entry.now.mesh_info (functions_trans c.args.self.now a b c.localize_function.ensures.keeps (kept_functions a b c.import_sizes.ensures.keeps)).source c.requires.mesh_info

pub import_some-requires : goal.import_some-requires
import_some-requires c =
    let d = c.args.self.now in
    let a = c.localize_function.new.self in
    let b = c.import_sizes.new.self in
    let e = c.import_mesh.new.self in
    let x = c.args.entry.now.task_payload in
    let is : c.map.result ≡ option_map GlobalItem x = search rules in
    let de = functions_trans d a e c.localize_function.ensures.keeps (kept_functions a e (Keeps-trans a b e c.import_sizes.ensures.keeps c.import_mesh.ensures.keeps)) in
    subst (HasNamed e) (sym is) (named_later d e (option_map GlobalItem x) de.source c.requires.task_payload)

pub returns-clause-value : goal.returns-clause-value
returns-clause-value c =
    let d = c.args.self.now in
    let a = c.localize_function.new.self in
    let b = c.import_sizes.new.self in
    let e = c.import_mesh.new.self in
    let f = c.import_some.new.self in
    let s = c.self.inside in
    let v = entry_value c.args.entry.now in
    let af = Keeps-trans a b f c.import_sizes.ensures.keeps (Keeps-trans b e f c.import_mesh.ensures.keeps c.import_some.ensures.keeps) in
    let df = functions_trans d a f c.localize_function.ensures.keeps (kept_functions a f af) in
    let set = still_set d.source f.source c.requires.function.0 df.source in
    let seen = seen_source s.shader s.copying.maps s.copying.target s.function_names.entries f c.self.view_is set in
    let is : c.map.result ≡ option_map GlobalItem v.task_payload = search rules in
    let last = c.in_ok-import_some.ensures.value ∙ ap (λ o. import_items e (o ∷ [])) is in
    let items = items_then a b f (sizes_names v.workgroup_size_overrides) (mesh_names v.mesh_info ++ option_map GlobalItem v.task_payload ∷ []) c.in_ok-import_sizes.ensures.value (items_then b e f (mesh_names v.mesh_info) (option_map GlobalItem v.task_payload ∷ []) c.in_ok-import_mesh.ensures.value last) in
    let sizes = c.placed_sizes.ensures seen.0 ∙ ap (λ o. option_map (map (place_expression o)) v.workgroup_size_overrides) (sym seen.1) in
    let mesh = c.placed_mesh.ensures seen.0 ∙ ap (λ o. option_map (place_mesh o) v.mesh_info) (sym seen.1) in
    let payload = c.placed_payload.ensures seen.0 ∙ ap (λ o. option_map (place_by (λ p. p.global_variables) o) v.task_payload) (sym seen.1) in
    entry_made d a f v _ c.in_ok-function.ensures.value items (entry_is f.source (localize_function a.source a.function_names v.function) v _ c.in_ok-name.ensures.cases refl refl refl sizes c.in_ok-function.ensures.copy mesh payload)

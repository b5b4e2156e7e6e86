use Rattle.std.proofs.Common.{◌≡◌, ℕ, List, [], map, sym, ap, ◌∙◌}
use Rattle.std.proofs.lemmas.Simd.{map-map}
use Rattle.naga_oil_imports.specs.Uses.{Import, use_of, import_of}
use Rattle.naga_oil_link.specs.BuiltModule.{BuiltModule, Overriding, builds_of, nothing_built}
use Rattle.naga_oil_registry.specs.Registered.{definition_of}
use Rattle.naga_oil_build.specs.Build.{decoration_of}
use Rattle.naga_oil_build.specs.Overriding.{overriding_of, imported_overriding}
use Rattle.naga_oil_build.proofs.builder.Builder.new_build.Goals as goal

abbrev over_nothing : List ℕ → ℕ → List Import → Overriding → BuiltModule
over_nothing decoration index imports overriding = record (nothing_built decoration index) { imports = imports; overriding = overriding }

pub returns : goal.returns
returns g c =
    let builds = builds_of c.args.self.now.builds in
    let d = definition_of c.args.of.now in
    let imports : map import_of c.in_ok-imports.imports.items ≡ map (λ u. u.import) (map use_of c.args.output.now.imports.items) =
    c.in_ok-imports.ensures ∙ ap (λ us. map (λ u. (use_of u).import) us) c.deref.ensures.value ∙ sym (map-map (λ u. u.import) use_of c.args.output.now.imports.items) in
    let overrides : overriding_of c.in_ok-overrides.overrides ≡ imported_overriding builds [] (map (λ u. u.import) (map use_of c.args.output.now.imports.items)) =
    c.in_ok-overrides.ensures ∙ ap (λ is. imported_overriding builds [] (map import_of is)) c.deref-2.ensures.value ∙ ap (imported_overriding builds []) imports in
    ap (λ (b : BuiltModule). record b { imports = map import_of c.in_ok-imports.imports.items; overriding = overriding_of c.in_ok-overrides.overrides }) c.empty_build-built.ensures
    ∙ ap (λ n. over_nothing n d.index (map import_of c.in_ok-imports.imports.items) (overriding_of c.in_ok-overrides.overrides)) c.in_ok-decoration.ensures
    ∙ ap (λ is. over_nothing (decoration_of d) d.index is (overriding_of c.in_ok-overrides.overrides)) imports
    ∙ ap (over_nothing (decoration_of d) d.index (map (λ u. u.import) (map use_of c.args.output.now.imports.items))) overrides

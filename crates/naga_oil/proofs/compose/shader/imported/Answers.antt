use Rattle.std.proofs.Common.{◌≡◌, sym, ap, ◌∙◌, option_map, Some, None, Err}
use Rattle.std.specs.String.{string_bytes}
use Rattle.naga_oil_imports.specs.Uses.{use_of}
use Rattle.naga_oil_conditions.specs.Fault.{import_not_found}
use Rattle.naga_oil_registry.specs.Registered.{definition_of}
use Rattle.naga_oil.specs.Shader.{module_for}
use Rattle.naga_oil_registry.specs.Registry.{module_named}
use Rattle.naga_oil.proofs.compose.shader.imported.Goals as goal

pub returns-in-Some : goal.returns-in-Some
returns-in-Some c =
    let u = use_of c.args.import.now in
    let asked : c.as_str.result.now ≡ u.import.import = c.as_str.ensures.value ∙ ap (λ d. d.import) c.definition.ensures in
    let is : Some (definition_of c.in-Some.definition.now) ≡ module_named c.as_str.result.now c.args.modules.now = ap (option_map (λ d. definition_of d.now)) (sym c.in-Some.is) ∙ c.get.ensures in
    ap (λ n. module_for u (module_named n c.args.modules.now)) (sym asked) ∙ ap (module_for u) (sym is)

pub returns-in_ok-clone-in-None : goal.returns-in_ok-clone-in-None
returns-in_ok-clone-in-None c =
    let u = use_of c.args.import.now in
    let name = string_bytes c.definition.result.now.import in
    let named : name ≡ u.import.import = ap (λ d. d.import) c.definition.ensures in
    let asked : c.as_str.result.now ≡ u.import.import = c.as_str.ensures.value ∙ named in
    let is : None ≡ module_named c.as_str.result.now c.args.modules.now = ap (option_map (λ d. definition_of d.now)) (sym c.in-None.is) ∙ c.get.ensures in
    ap (λ n. module_for u (module_named n c.args.modules.now)) (sym asked) ∙ ap (module_for u) (sym is) ∙ ap (λ n. Err (import_not_found n c.args.import.now.offset)) (sym named ∙ sym c.in_ok-clone-in-None.ensures.cases) ∙ ap (λ at. Err (import_not_found (string_bytes c.in_ok-clone-in-None.field-0) at)) (sym c.offset.ensures)

use Rattle.std.proofs.Common.{◌≡◌, sym, ap, ◌∙◌, option_map, Some, None}
use Rattle.naga_oil_imports.specs.Uses.{use_of}
use Rattle.naga_oil_registry.specs.Registered.{definition_of, defs_of}
use Rattle.naga_oil_registry.specs.Registry.{module_named}
use Rattle.naga_oil.specs.Shader.{module_for, among_those}
use Rattle.naga_oil.proofs.compose.shader.may_use.Goals as goal

pub returns-in-Some : goal.returns-in-Some
returns-in-Some c =
    let u = use_of c.args.import.now in
    let defs = defs_of c.args.defs.now in
    let asked : c.as_str.result.now ≡ u.import.import = c.as_str.ensures.value ∙ ap (λ d. d.import) c.definition.ensures in
    let is : Some (definition_of c.in-Some.of.now) ≡ module_named c.as_str.result.now c.args.modules.now = ap (option_map (λ d. definition_of d.now)) (sym c.in-Some.is) ∙ c.get.ensures in
    c.are_among.ensures ∙ ap (λ o. among_those defs (module_for u o)) is ∙ ap (λ n. among_those defs (module_for u (module_named n c.args.modules.now))) asked

pub returns-in-None : goal.returns-in-None
returns-in-None c =
    let u = use_of c.args.import.now in
    let defs = defs_of c.args.defs.now in
    let asked : c.as_str.result.now ≡ u.import.import = c.as_str.ensures.value ∙ ap (λ d. d.import) c.definition.ensures in
    let is : None ≡ module_named c.as_str.result.now c.args.modules.now = ap (option_map (λ d. definition_of d.now)) (sym c.in-None.is) ∙ c.get.ensures in
    ap (λ o. among_those defs (module_for u o)) is ∙ ap (λ n. among_those defs (module_for u (module_named n c.args.modules.now))) asked

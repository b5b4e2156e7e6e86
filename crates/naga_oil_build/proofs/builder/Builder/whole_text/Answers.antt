use Rattle.std.proofs.Common.{◌≡◌, ℕ, List, ◌++◌, length, map, Result, Ok, string_bytes, sym, ap, subst, ◌∙◌}
use Rattle.naga_oil_words.specs.Texts.{texts}
use Rattle.naga_oil_imports.specs.Uses.{import_of}
use Rattle.naga_oil_imports.specs.declared.import_definition.ImportDefinition.{ImportDefinition}
use Rattle.naga_oil_conditions.specs.Fault.{Fault}
use Rattle.naga_oil_conditions.specs.View.{Fails}
use Rattle.naga_oil_registry.specs.Registered.{definition_of}
use Rattle.naga_oil_registry.proofs.NewDefinitionLemmas.{gives-refused}
use Rattle.naga_oil_link.specs.BuiltModule.{overriding_of, built_of, builds_of}
use Rattle.naga_oil_build.specs.Build.{write_heading, write_whole}
use Rattle.naga_oil_build.specs.BuildView.{settings_in}
use Rattle.naga_oil_build.specs.Virtuals.{Functions, functions_in}
use Rattle.naga_oil_build.proofs.WholeLemmas.{with_functions, whole_unread, whole_unheaded, whole_is}
use Rattle.naga_oil_build.proofs.builder.Builder.whole_text.Goals as goal

pub returns-in_err-virtuals : goal.returns-in_err-virtuals
returns-in_err-virtuals g c =
    let s = settings_in g.B.Backend.front c.args.self.now in
    let d = definition_of c.args.of.now in
    let builds = builds_of c.args.self.now.builds in
    let text = c.args.text.now in
    let b = built_of c.args.built.now in
    let e = c.in_err-virtuals.field-0.0 in
    let read : functions_in s.override_any builds (map import_of c.deref.result.now) c.as_str.result.now b.overriding text ≡ functions_in s.override_any builds b.imports b.decoration b.overriding text =
    ap (λ (is : List ImportDefinition). functions_in s.override_any builds (map import_of is) c.as_str.result.now b.overriding text) c.deref.ensures.value ∙ ap (λ (d : List ℕ). functions_in s.override_any builds b.imports d b.overriding text) c.as_str.ensures.value in
    gives-refused _ c.from_residual.result e (write_whole s d builds text b) c.from_residual.ensures.1 (whole_unread s d builds text b e (subst (λ (v : Result Functions Fault). Fails e v) read c.in_err-virtuals.ensures))

pub returns-in_err-whole : goal.returns-in_err-whole
returns-in_err-whole g c =
    let s = settings_in g.B.Backend.front c.args.self.now in
    let d = definition_of c.args.of.now in
    let builds = builds_of c.args.self.now.builds in
    let text = c.args.text.now in
    let b = built_of c.args.built.now in
    let e = c.in_err-whole.field-0.0 in
    let functions : Functions = record { virtuals = texts c.in_ok-virtuals.virtuals.keys; overriding = overriding_of c.read_functions.new.overriding; text = string_bytes c.in_ok-virtuals.text } in
    let read : functions_in s.override_any builds b.imports b.decoration b.overriding text ≡ Ok functions =
    sym (ap (λ (is : List ImportDefinition). functions_in s.override_any builds (map import_of is) c.as_str.result.now b.overriding text) c.deref.ensures.value ∙ ap (λ (d : List ℕ). functions_in s.override_any builds b.imports d b.overriding text) c.as_str.ensures.value) ∙ c.in_ok-virtuals.ensures in
    gives-refused _ c.from_residual-in_err-whole.result e (write_whole s d builds text b) c.from_residual-in_err-whole.ensures.1
    (whole_unheaded s d builds text b functions read e (subst (λ (is : List ImportDefinition). Fails e (write_heading s d builds (map import_of is))) c.deref-2.ensures.value c.in_err-whole.ensures))

pub returns : goal.returns
returns g c =
    let s = settings_in g.B.Backend.front c.args.self.now in
    let d = definition_of c.args.of.now in
    let builds = builds_of c.args.self.now.builds in
    let text = c.args.text.now in
    let b = built_of c.args.built.now in
    let functions : Functions = record { virtuals = texts c.in_ok-virtuals.virtuals.keys; overriding = overriding_of c.read_functions.new.overriding; text = string_bytes c.in_ok-virtuals.text } in
    let read : functions_in s.override_any builds b.imports b.decoration b.overriding text ≡ Ok functions =
    sym (ap (λ (is : List ImportDefinition). functions_in s.override_any builds (map import_of is) c.as_str.result.now b.overriding text) c.deref.ensures.value ∙ ap (λ (d : List ℕ). functions_in s.override_any builds b.imports d b.overriding text) c.as_str.ensures.value) ∙ c.in_ok-virtuals.ensures in
    let heading = string_bytes c.in_ok-whole.whole in
    let headed : write_heading s d builds b.imports ≡ Ok heading = ap (λ (is : List ImportDefinition). write_heading s d builds (map import_of is)) (sym c.deref-2.ensures.value) ∙ c.in_ok-whole.ensures in
    let whole : string_bytes c.push_str.new.self ≡ heading ++ functions.text = c.in_ok-push_str.ensures.bytes ∙ ap (λ (t : List ℕ). heading ++ t) c.deref-3.ensures in
    let built : built_of c.set_offset.new.build ≡ with_functions functions (length heading) b = c.set_offset.ensures ∙ ap (λ (t : List ℕ). with_functions functions (length t) b) c.as_str-2.ensures.value in
    whole_is s d builds text b functions read heading (string_bytes c.push_str.new.self) (built_of c.set_offset.new.build) headed whole built

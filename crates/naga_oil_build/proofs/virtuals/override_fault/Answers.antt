use Rattle.std.proofs.Common.{◌≡◌, ◌||◌, true, false, Some, None, option_map, map, sym, ap, ◌∙◌}
use Rattle.std.specs.String.{string_bytes}
use Rattle.naga_oil_imports.specs.Uses.{import_of}
use Rattle.naga_oil_conditions.specs.Fault.{not_virtual}
use Rattle.naga_oil_words.specs.Texts.{is_among}
use Rattle.naga_oil_link.specs.BuiltModule.{built_of, builds_of}
use Rattle.naga_oil_build.specs.Virtuals.{imported_build, unless_virtual}
use Rattle.naga_oil_build.proofs.OverridingLemmas.{virtual_there, not_virtual_there}
use Rattle.naga_oil_build.proofs.virtuals.override_fault.Goals as goal

pub returns-in-None : goal.returns-in-None
returns-in-None c =
    let any = c.args.over.override_any in
    let builds = builds_of c.args.over.builds.now in
    let imports = map import_of c.args.over.imports.now in
    let name = string_bytes c.args.module_name in
    let item = c.args.item.now in
    let none : imported_build builds imports name ≡ None = ap (imported_build builds imports) (sym c.as_str.ensures.value) ∙ sym c.imported_build.ensures ∙ ap (option_map (λ b. built_of b.now)) c.in-None.is in
    ap (λ o. option_map (λ x. Some x) (unless_virtual any name item c.args.place o)) (sym none)

pub returns-in-Some : goal.returns-in-Some
returns-in-Some c =
    let any = c.args.over.override_any in
    let builds = builds_of c.args.over.builds.now in
    let imports = map import_of c.args.over.imports.now in
    let name = string_bytes c.args.module_name in
    let item = c.args.item.now in
    let found : imported_build builds imports name ≡ Some (built_of c.in-Some.base.now) = ap (imported_build builds imports) (sym c.as_str.ensures.value) ∙ sym c.imported_build.ensures ∙ ap (option_map (λ b. built_of b.now)) c.in-Some.is in
    let there : (any || is_among (built_of c.in-Some.base.now).virtuals item) ≡ true = sym c.may_override.ensures ∙ c.if-may_override.true in
    sym (ap (λ o. option_map (λ x. Some x) (unless_virtual any name item c.args.place o)) found ∙ ap (option_map (λ x. Some x)) (virtual_there any name item c.args.place (built_of c.in-Some.base.now) there))

pub returns : goal.returns
returns c =
    let any = c.args.over.override_any in
    let builds = builds_of c.args.over.builds.now in
    let imports = map import_of c.args.over.imports.now in
    let name = string_bytes c.args.module_name in
    let item = c.args.item.now in
    let found : imported_build builds imports name ≡ Some (built_of c.in-Some.base.now) = ap (imported_build builds imports) (sym c.as_str.ensures.value) ∙ sym c.imported_build.ensures ∙ ap (option_map (λ b. built_of b.now)) c.in-Some.is in
    let absent : (any || is_among (built_of c.in-Some.base.now).virtuals item) ≡ false = sym c.may_override.ensures ∙ c.if-may_override.false in
    ap (λ n. Some (Some (not_virtual n c.args.place))) c.in_ok-name-in-Some-2.ensures.ok
    ∙ sym (ap (λ o. option_map (λ x. Some x) (unless_virtual any name item c.args.place o)) found ∙ ap (option_map (λ x. Some x)) (not_virtual_there any name item c.args.place (built_of c.in-Some.base.now) absent))

use Rattle.std.proofs.Common.{◌≡◌, Option, Some, option_map, map, sym, ap, ◌∙◌}
use Rattle.std.specs.BTreeMap.{get}
use Rattle.std.specs.Option.{option_or}
use Rattle.std.specs.Ordering.{nat_cmp}
use Rattle.std.specs.String.{string_bytes}
use Rattle.naga_oil_imports.specs.Uses.{import_of}
use Rattle.naga_oil_conditions.specs.Fault.{Fault}
use Rattle.naga_oil_link.specs.BuiltModule.{builds_of}
use Rattle.naga_oil_registry.specs.KeywordsView.{marked_of}
use Rattle.naga_oil_build.specs.Overriding.{overriding_of}
use Rattle.naga_oil_build.specs.Virtuals.{Overrides, item_and_module, with_override, override_fault}
use Rattle.naga_oil_build.proofs.SplitLemmas.{parts_known, read_so, one_noted}
use Rattle.naga_oil_build.proofs.virtuals.read_override.Goals as goal

pub returns : goal.returns
returns c =
    let any = c.args.over.override_any in
    let builds = builds_of c.args.over.builds.now in
    let imports = map import_of c.args.over.imports.now in
    let decoration = c.args.over.decoration.now in
    let edits = get nat_cmp c.args.edits.now in
    let next = get nat_cmp c.note_override.new.edits in
    let known = overriding_of c.args.overriding.now in
    let more = overriding_of c.note_override.new.overriding in
    let f = marked_of c.args.of.now in
    let item = c.in-Some.item.now in
    let module_name = string_bytes c.in-Some-2.module_name in
    let parts : item_and_module f.name ≡ Some (item, c.in-Some.code.now, module_name) = parts_known f.name item c.in-Some.code.now module_name c.in-Some.ensures.value (ap (option_map string_bytes) (sym c.in-Some-2.is) ∙ c.in_ok-module_name.ensures) in
    let told : Option Fault = override_fault any builds imports module_name item f.place in
    let P : Option Fault → Type 0 = λ told. (before : Option Fault)
    → ◌≡◌ {A = Overrides} (record { edits = next; overriding = more; fault = option_or told before }) (with_override any builds imports decoration (record { edits = edits; overriding = known; fault = before }) f) in
    read_so c.override_fault.result told P (one_noted any builds imports decoration edits next known more f item c.in-Some.code.now module_name parts c.in_ok-note_override.ensures.edits c.in_ok-note_override.ensures.overriding) c.override_fault.ensures

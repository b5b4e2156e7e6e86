use Rattle.std.proofs.Common.{◌≡◌, false, length, List, map, subst, sym, ap, ◌∙◌, arith}
use Rattle.std.proofs.lemmas.List.{length-map}
use Rattle.naga_oil_derive.specs.World.{value_of}
use Rattle.naga_oil_imports.specs.Uses.{import_of}
use Rattle.naga_oil_imports.specs.declared.import_definition.ImportDefinition.{ImportDefinition}
use Rattle.naga_oil_form_laws.proofs.FormedModules.{copied_from}
use Rattle.naga_oil_link.specs.BuiltModule.{built_of, builds_of}
use Rattle.naga_oil_link.specs.LinkView.{IsLinkFormed, LinksImports}
use Rattle.naga_oil_link.proofs.GoodFormLemmas.{nothing_formed_yet, whole_form}
use Rattle.naga_oil_link.proofs.LinkedLemmas.{entry_of, set_copies, linked_all, whole_made}
use Rattle.naga_oil_link.proofs.SourceLemmas.{is_set, can_copy_entries}
use Rattle.naga_oil_link.proofs.link.link_whole.Goals as goal

pub set_shader_source-requires : goal.set_shader_source-requires
unfolding value_of
set_shader_source-requires c = (copied_from _ c.get.ensures.form).items

pub into_module_with_entrypoints-requires-clause-set : goal.into_module_with_entrypoints-requires-clause-set
into_module_with_entrypoints-requires-clause-set c = is_set c.get.result.now c.set_shader_source.new.self (set_copies c.get.result.now 0 c.link_items.new.self.derived c.set_shader_source.new.self c.get.ensures.form c.in_ok-set_shader_source.ensures.value)

pub into_module_with_entrypoints-requires-clause-entries : goal.into_module_with_entrypoints-requires-clause-entries
into_module_with_entrypoints-requires-clause-entries c = can_copy_entries c.get.result.now c.set_shader_source.new.self (set_copies c.get.result.now 0 c.link_items.new.self.derived c.set_shader_source.new.self c.get.ensures.form c.in_ok-set_shader_source.ensures.value)

pub link_imports-requires : goal.link_imports-requires
link_imports-requires c = subst IsLinkFormed (sym c.in_ok-linker.ensures.linked.0) nothing_formed_yet

pub returns-clause-form : goal.returns-clause-form
unfolding value_of
returns-clause-form c = whole_form c.into_module_with_entrypoints.result c.get.result.now c.link_items.new.self.derived c.set_shader_source.new.self c.get.ensures.form c.in_ok-link_items.ensures.formed c.in_ok-set_shader_source.ensures.value c.into_module_with_entrypoints.ensures.value

pub returns-clause-value : goal.returns-clause-value
returns-clause-value c =
    let bs = builds_of c.args.builds.now in
    let b = built_of c.args.of.now in
    let start = c.in_ok-linker.linker in
    let given = c.in_ok-linker.ensures.given in
    let none = c.in_ok-linker.ensures.linked in
    let s = c.link_imports.new.self in
    let long : length bs ≡ c.len.result = length-map c.args.builds.now.entries entry_of ∙ sym c.len.ensures.len in
    let linked : LinksImports start.of_headers (builds_of start.builds.now) c.len.result b.imports start.derived start.descended.keys s.derived s.descended.keys = subst (λ (is : List ImportDefinition). LinksImports start.of_headers (builds_of start.builds.now) c.len.result (map import_of is) start.derived start.descended.keys s.derived s.descended.keys) c.deref.ensures.value c.in_ok-link_imports.ensures.value in
    let imported = linked_all start false bs c.len.result b.imports s.derived s.descended.keys given.1 (ap (λ (x : _). builds_of x.now) given.0) none.0 none.1 (omega arith) linked in
    whole_made bs b c.into_module_with_entrypoints.result c.get.result.now s.of_headers s.derived c.link_items.new.self.derived c.set_shader_source.new.self imported (c.link_imports.ensures.rest.1 ∙ given.1) c.in_ok-link_items.ensures.value c.get.ensures.value c.in_ok-set_shader_source.ensures.value c.into_module_with_entrypoints.ensures.value

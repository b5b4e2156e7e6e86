use Rattle.std.proofs.Common.{ap, subst, sym, ◌∙◌}
use Rattle.naga_oil_derive.specs.Derived.{cleared}
use Rattle.naga_oil_derive.specs.World.{value_of}
use Rattle.naga_oil_ir.specs.ModuleValue.{module_value}
use Rattle.naga_oil_form_laws.proofs.FormedModules.{copied_from}
use Rattle.naga_oil_link.specs.BuiltModule.{built_of}
use Rattle.naga_oil_link.specs.Linked.{asked_names, link_places, link_functions}
use Rattle.naga_oil_link.specs.LinkView.{IsLinkFormed}
use Rattle.naga_oil_link.specs.OwnPlaces.{own_of}
use Rattle.naga_oil_link.proofs.GoodFormLemmas.{source_formed}
use Rattle.naga_oil_link.proofs.LinkedLemmas.{set_copies}
use Rattle.naga_oil_link.proofs.link.Linker.link_source.Goals as goal

pub set_shader_source-requires : goal.set_shader_source-requires
unfolding value_of
set_shader_source-requires c = (copied_from _ c.requires.form).items

pub link_places-requires-clause-source : goal.link_places-requires-clause-source
link_places-requires-clause-source c = set_copies c.args.of.from.now _ c.args.self.now.derived c.set_shader_source.new.self c.requires.form c.in_ok-set_shader_source.ensures.value

pub returns-clause-value : goal.returns-clause-value
unfolding value_of
returns-clause-value c =
    let m = module_value c.args.of.from.now in
    let asked = asked_names c.args.asked in
    c.clear_shader_source.ensures ∙ ap cleared (c.in_ok-link_functions.ensures.value ∙ ap (link_functions (built_of c.args.of.of.now) m asked) (c.in_ok-link_places.ensures.value ∙ ap (link_places (own_of c.args.of.own.now) m asked) c.in_ok-set_shader_source.ensures.value))

pub returns-clause-formed : goal.returns-clause-formed
unfolding value_of
returns-clause-formed c =
    let b = built_of c.args.of.of.now in
    let own = own_of c.args.of.own.now in
    let m = module_value c.args.of.from.now in
    let asked = asked_names c.args.asked in
    let linked = c.clear_shader_source.ensures ∙ ap cleared (c.in_ok-link_functions.ensures.value ∙ ap (link_functions b m asked) (c.in_ok-link_places.ensures.value ∙ ap (link_places own m asked) c.in_ok-set_shader_source.ensures.value)) in
    subst IsLinkFormed (sym linked) (source_formed b own m asked c.args.self.now.derived c.requires.form c.requires.formed)

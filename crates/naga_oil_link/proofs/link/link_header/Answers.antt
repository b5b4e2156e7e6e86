use Rattle.std.proofs.Common.{◌≡◌, true, length, map, subst, sym, ap, ◌∙◌, arith}
use Rattle.std.proofs.lemmas.List.{length-map}
use Rattle.naga_oil_derive.specs.Derived.{Derived}
use Rattle.naga_oil_derive.specs.World.{value_of}
use Rattle.naga_oil_imports.specs.Uses.{import_of}
use Rattle.naga_oil_form_laws.specs.EntryForm.{IsModuleFormed}
use Rattle.naga_oil_link.specs.BuiltModule.{builds_of}
use Rattle.naga_oil_link.specs.Linked.{link_header}
use Rattle.naga_oil_link.specs.LinkView.{IsLinkFormed}
use Rattle.naga_oil_link.proofs.GoodFormLemmas.{nothing_formed_yet, linked_target}
use Rattle.naga_oil_link.proofs.LinkedLemmas.{entry_of, linked_all}
use Rattle.naga_oil_link.proofs.link.link_header.Goals as goal

pub link_imports-requires : goal.link_imports-requires
link_imports-requires c = subst IsLinkFormed (sym c.in_ok-linker.ensures.linked.0) nothing_formed_yet

pub returns-clause-form : goal.returns-clause-form
unfolding value_of
returns-clause-form c = subst IsModuleFormed (sym c.from.ensures) (linked_target _ c.in_ok-link_imports.ensures.formed)

pub returns-clause-value : goal.returns-clause-value
unfolding value_of link_header
returns-clause-value c =
    let bs = builds_of c.args.builds.now in
    let start = c.in_ok-linker.linker in
    let given = c.in_ok-linker.ensures.given in
    let none = c.in_ok-linker.ensures.linked in
    let long : length bs ≡ c.len.result = length-map c.args.builds.now.entries entry_of ∙ sym c.len.ensures.len in
    c.from.ensures ∙ ap (λ (d : Derived). d.target) (linked_all start true bs c.len.result (map import_of c.args.imports.now) c.link_imports.new.self.derived c.link_imports.new.self.descended.keys given.1 (ap (λ (b : _). builds_of b.now) given.0) none.0 none.1 (omega arith) c.in_ok-link_imports.ensures.value)

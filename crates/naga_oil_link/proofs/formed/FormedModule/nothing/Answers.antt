use Rattle.std.proofs.Common.{◌≡◌, sym, subst, rules}
use Rattle.naga_oil_ir.specs.ModuleValue.{module_value, no_items}
use Rattle.naga_oil_derive.specs.Derived.{nothing}
use Rattle.naga_oil_form_laws.specs.EntryForm.{IsModuleFormed}
use Rattle.naga_oil_link.proofs.GoodFormLemmas.{nothing_formed_yet, linked_target}
use Rattle.naga_oil_link.proofs.formed.FormedModule.nothing.Goals as goal

pub invariant_of-result : goal.invariant_of-result
invariant_of-result c =
    let none : module_value c.new-module_.result ≡ no_items = search rules in
    subst IsModuleFormed (sym none) (linked_target nothing nothing_formed_yet)

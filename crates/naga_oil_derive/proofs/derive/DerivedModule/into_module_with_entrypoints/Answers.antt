use Rattle.naga_oil_derive.proofs.EntryValues.{module_is}
use Rattle.naga_oil_derive.proofs.EntrySteps.{entries_in}
use Rattle.naga_oil_derive.proofs.derive.DerivedModule.into_module_with_entrypoints.Goals as goal

pub copied_entries-requires : goal.copied_entries-requires
copied_entries-requires c =
    let s = c.self.inside in
    entries_in s.shader c.unwrap-source.result s.copying.maps s.copying.target s.function_names.entries c.args.self c.deref.result.now c.unwrap-source.ensures c.self.view_is c.deref.ensures.value c.requires.entries

pub returns : goal.returns
returns c =
    let s = c.self.inside in
    record { value = module_is s.shader c.unwrap-source.result s.copying.maps s.copying.target s.function_names.entries c.args.self c.copied_entries.new.self c.deref.result.now c.from-module.result c.in_ok-entries.entries c.unwrap-source.ensures c.self.view_is c.deref.ensures.value c.in_ok-entries.ensures.value c.from-module.ensures }

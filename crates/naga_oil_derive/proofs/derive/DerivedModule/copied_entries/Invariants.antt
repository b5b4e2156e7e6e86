use Rattle.std.proofs.Common.{◌≡◌, [], map, take}
use Rattle.naga_oil_ir.specs.ModuleValue.{entry_value}
use Rattle.naga_oil_derive.specs.DerivedFunctions.{KeepsFunctions}
use Rattle.naga_oil_derive.specs.CopiedEntry.{entries_state, copy_entries}
use Rattle.naga_oil_derive.proofs.derive.DerivedModule.copied_entries.Given as goal

abbrev pub invariant-loop-entry : goal.invariant-loop-entry
invariant-loop-entry l = record {
  value : entries_state l.self (map entry_value l.copies.items) ≡ copy_entries (entries_state l.fn.self []) (map entry_value (take l.entry-index l.entries));
  keeps : KeepsFunctions l.fn.self l.self;
}

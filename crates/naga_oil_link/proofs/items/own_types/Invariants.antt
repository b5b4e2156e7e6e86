use Rattle.std.proofs.Common.{◌≡◌, drop, fold}
use Rattle.naga_oil_ir.specs.ModuleValue.{module_value}
use Rattle.naga_oil_words.specs.Texts.{texts}
use Rattle.naga_oil_link.specs.Owned.{is_own_type, item_names, with_own_type}
use Rattle.naga_oil_link.proofs.ByNameLemmas.{places_before}
use Rattle.naga_oil_link.proofs.items.own_types.Given as goal

abbrev pub invariant-loop-at : goal.invariant-loop-at
invariant-loop-at l = record {
  owned : fold (with_own_type (module_value l.of) l.suffix) (texts l.owned.keys) (drop l.at (item_names (module_value l.of).types)) ≡ fold (with_own_type (module_value l.of) l.suffix) (texts l.fn.owned.keys) (item_names (module_value l.of).types);
  places : l.places.keys ≡ places_before (is_own_type (module_value l.of)) (item_names (module_value l.of).types) l.at;
}

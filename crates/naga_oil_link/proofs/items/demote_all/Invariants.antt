use Rattle.std.proofs.Common.{◌≡◌, ◌++◌, map, fold, length}
use Rattle.std.specs.List.{flat_map}
use Rattle.std.specs.Vec.Iter.{into_iter_items, into_iter_len}
use Rattle.naga_oil_ir.specs.ModuleValue.{entry_value}
use Rattle.naga_oil_words.specs.Texts.{with_name, texts}
use Rattle.naga_oil_link.specs.Owned.{demoted, function_names, function_values}
use Rattle.naga_oil_link.proofs.items.demote_all.Given as goal

abbrev pub invariant-loop-entry_point : goal.invariant-loop-entry_point
invariant-loop-entry_point l = record {
  same : into_iter_len l.entry_point-iterator ≡ length (into_iter_items l.entry_point-iterator);
  functions : function_values l.functions ++ flat_map (demoted l.decoration (texts l.names.keys)) (map entry_value (into_iter_items l.entry_point-iterator)) ≡ function_values l.fn.functions ++ flat_map (demoted l.decoration (texts l.names.keys)) (map entry_value l.fn.entry_points.items);
  owned : fold with_name (texts l.owned.keys) (function_names (flat_map (demoted l.decoration (texts l.names.keys)) (map entry_value (into_iter_items l.entry_point-iterator)))) ≡ fold with_name (texts l.fn.owned.keys) (function_names (flat_map (demoted l.decoration (texts l.names.keys)) (map entry_value l.fn.entry_points.items)));
}

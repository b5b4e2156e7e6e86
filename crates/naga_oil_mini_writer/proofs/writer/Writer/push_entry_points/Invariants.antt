use Rattle.std.proofs.Common.{◌≡◌, [], drop, map, option_map, string_bytes}
use Rattle.naga_oil_ir.specs.ModuleValue.{entry_value}
use Rattle.naga_oil_mini_writer.specs.Writer.{entries_text, following}
use Rattle.naga_oil_mini_writer.proofs.writer.Writer.push_entry_points.Given as goal

abbrev pub invariant-loop-entry_point : goal.invariant-loop-entry_point
invariant-loop-entry_point l = record {
  text : option_map (following (string_bytes l.self.text, l.rooms.items)) (entries_text l.self.items (map entry_value (drop l.entry_point-index l.of.entry_points.items)))
      ≡ option_map (following (string_bytes l.fn.self.text, [])) (entries_text l.fn.self.items (map entry_value l.of.entry_points.items));
  items : l.self.items ≡ l.fn.self.items;
}

use Rattle.std.proofs.Common.{◌≡◌, drop, option_map, string_bytes, IsSome, replicate}
use Rattle.naga_oil_mini_writer.specs.Order.{anywhere}
use Rattle.naga_oil_mini_writer.specs.Writer.{functions_text, function_words, function_values, following}
use Rattle.naga_oil_mini_writer.proofs.writer.Writer.push_functions.Given as goal

abbrev pub invariant-loop-function : goal.invariant-loop-function
invariant-loop-function l = record {
  text : option_map (following (string_bytes l.self.text, l.rooms.items)) (functions_text l.self.items (function_values (drop l.function-index l.functions)))
      ≡ option_map (following (string_bytes l.fn.self.text, replicate l.stubs anywhere)) (functions_text l.fn.self.items (function_values l.functions));
  items : l.self.items ≡ l.fn.self.items;
  named : IsSome (function_words (function_values (drop l.function-index l.functions)));
}

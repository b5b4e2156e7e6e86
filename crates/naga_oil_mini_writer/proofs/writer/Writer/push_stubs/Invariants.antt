use Rattle.std.proofs.Common.{◌≡◌, drop, option_map, string_bytes}
use Rattle.naga_oil_mini_writer.specs.Writer.{stubs_text, function_values, counted}
use Rattle.naga_oil_mini_writer.proofs.writer.Writer.push_stubs.Given as goal

abbrev pub invariant-loop-function : goal.invariant-loop-function
invariant-loop-function l = record {
  text : option_map (counted (string_bytes l.self.text, l.count)) (stubs_text (function_values (drop l.function-index l.function-items)))
      ≡ option_map (counted (string_bytes l.fn.self.text, 0)) (stubs_text (function_values l.of.functions));
  items : l.self.items ≡ l.fn.self.items;
  count : l.count ≡ l.function-index;
}

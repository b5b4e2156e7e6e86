use Rattle.std.proofs.Common.{◌≡◌, [], drop, option_map, string_bytes}
use Rattle.naga_oil_ir.specs.ModuleValue.{expression_values}
use Rattle.naga_oil_mini_writer.specs.Writer.{constants_text, constant_rows, following}
use Rattle.naga_oil_mini_writer.proofs.writer.push_constants.Given as goal

abbrev pub invariant-loop-constant : goal.invariant-loop-constant
invariant-loop-constant l =
    option_map (following (string_bytes l.out, l.names)) (constants_text (expression_values l.of.global_expressions) (constant_rows (drop l.constant-index l.constant-items)))
    ≡ option_map (following (string_bytes l.fn.out, [])) (constants_text (expression_values l.of.global_expressions) (constant_rows l.of.constants))

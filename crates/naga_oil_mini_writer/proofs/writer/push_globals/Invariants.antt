use Rattle.std.proofs.Common.{◌≡◌, [], drop, option_map, string_bytes}
use Rattle.naga_oil_ir.specs.ModuleValue.{expression_values}
use Rattle.naga_oil_mini_writer.specs.Writer.{globals_text, global_rows, following}
use Rattle.naga_oil_mini_writer.proofs.writer.push_globals.Given as goal

abbrev pub invariant-loop-global : goal.invariant-loop-global
invariant-loop-global l =
    option_map (following (string_bytes l.out, l.names)) (globals_text (expression_values l.of.global_expressions) (global_rows (drop l.global-index l.global-items)))
    ≡ option_map (following (string_bytes l.fn.out, [])) (globals_text (expression_values l.of.global_expressions) (global_rows l.of.global_variables))

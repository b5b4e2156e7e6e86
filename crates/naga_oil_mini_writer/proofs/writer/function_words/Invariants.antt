use Rattle.std.proofs.Common.{◌≡◌, ◌++◌, drop, option_map}
use Rattle.naga_oil_mini_writer.specs.Writer.{function_words, function_values}
use Rattle.naga_oil_mini_writer.proofs.writer.function_words.Given as goal

abbrev pub invariant-loop-function : goal.invariant-loop-function
invariant-loop-function l = option_map (λ ns. l.names ++ ns) (function_words (function_values (drop l.function-index l.functions))) ≡ function_words (function_values l.functions)

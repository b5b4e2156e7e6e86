use Rattle.std.proofs.Common.{◌≡◌, ◌++◌, drop, map, option_map}
use Rattle.naga_oil_ir.specs.ModuleValue.{argument_value}
use Rattle.naga_oil_mini_writer.specs.Writer.{parameter_words}
use Rattle.naga_oil_mini_writer.proofs.writer.parameter_words.Given as goal

abbrev pub invariant-loop-argument : goal.invariant-loop-argument
invariant-loop-argument l = option_map (λ ns. l.names ++ ns) (parameter_words (map argument_value (drop l.argument-index l.arguments))) ≡ parameter_words (map argument_value l.arguments)

use Rattle.std.proofs.Common.{◌≡◌, drop, map, string_bytes}
use Rattle.naga_oil_ir.specs.ModuleValue.{argument_value}
use Rattle.naga_oil_mini_writer.specs.Writer.{parameter_words, with_parameters}
use Rattle.naga_oil_mini_writer.proofs.WriterLemmas.{past_first}
use Rattle.naga_oil_mini_writer.proofs.writer.push_parameters.Given as goal

abbrev pub invariant-loop-argument : goal.invariant-loop-argument
invariant-loop-argument l = past_first (string_bytes l.out) (parameter_words (map argument_value (drop l.argument-index l.rest))) ≡ with_parameters (string_bytes l.fn.out) (map argument_value l.arguments)

use Rattle.std.proofs.Common.{◌≡◌, ◌++◌, drop, option_map}
use Rattle.naga_oil_ir.specs.ModuleValue.{local_values}
use Rattle.naga_oil_mini_writer.specs.BodyReader.{locals_of}
use Rattle.naga_oil_mini_writer.specs.Writer.{local_words}
use Rattle.naga_oil_mini_writer.proofs.writer.local_words.Given as goal

abbrev pub invariant-loop-local : goal.invariant-loop-local
invariant-loop-local l = option_map (λ ws. locals_of l.words.items ++ ws) (local_words (local_values (drop l.local-index l.locals))) ≡ local_words (local_values l.locals)

use Rattle.std.proofs.Common.{arith}
use Rattle.std.proofs.lemmas.Grind.{common_steps}
use Rattle.naga_oil_mini_writer.proofs.WriterLemmas.{named_after}
use Rattle.naga_oil_mini_writer.proofs.writer.Writer.finished.Goals as goal

pub push_functions-requires : goal.push_functions-requires
push_functions-requires c = grind (arith, common_steps, named_after)

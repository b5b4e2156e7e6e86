use Rattle.std.proofs.Common.{arith}
use Rattle.std.proofs.lemmas.Grind.{common_steps}
use Rattle.naga_oil_mini_writer.proofs.BodyReaderLemmas.{parts_next}
use Rattle.naga_oil_mini_writer.proofs.body_reader.BodyReader.read_parts.Goals as goal

pub loop-preserved : goal.loop-preserved
loop-preserved c = grind (arith, common_steps, parts_next)

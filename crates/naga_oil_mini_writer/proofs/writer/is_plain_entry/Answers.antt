use Rattle.std.proofs.Common.{arith}
use Rattle.std.proofs.lemmas.Grind.{common_steps}
use Rattle.naga_oil_mini_writer.proofs.WriterLemmas.{block_is_empty}
use Rattle.naga_oil_mini_writer.proofs.writer.is_plain_entry.Goals as goal

pub returns-then-is_none-3 : goal.returns-then-is_none-3
returns-then-is_none-3 c = let e = block_is_empty c.args.entry_point.now.function.body in grind (arith, common_steps)

pub returns-else-is_none-3 : goal.returns-else-is_none-3
returns-else-is_none-3 c = let e = block_is_empty c.args.entry_point.now.function.body in grind (arith, common_steps)

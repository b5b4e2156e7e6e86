use Rattle.naga_oil_ir.proofs.BodyLemmas.{block_tokens-roll}
use Rattle.yettuvam_wgsl_values.proofs.blocks.block_of.Goals as goal

pub returns : goal.returns
returns c = block_tokens-roll (record { body = c.args.body })

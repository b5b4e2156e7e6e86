use Rattle.std.proofs.Common.{refl, arith}
use Rattle.naga_oil_lines.specs.Words.{is_gap_byte}
use Rattle.naga_oil_lines.proofs.ClassLemmas.{from_table}
use Rattle.naga_oil_lines.proofs.tokenizer.is_gap_byte.Goals as goal

pub returns : goal.returns
returns c = from_table 1 is_gap_byte c.args.byte (omega arith) refl

use Rattle.std.proofs.Common.{refl, arith}
use Rattle.naga_oil_lines.specs.Words.{is_word_byte}
use Rattle.naga_oil_lines.proofs.ClassLemmas.{from_table}
use Rattle.naga_oil_lines.proofs.tokenizer.is_word_byte.Goals as goal

pub returns : goal.returns
returns c = from_table 2 is_word_byte c.args.byte (omega arith) refl

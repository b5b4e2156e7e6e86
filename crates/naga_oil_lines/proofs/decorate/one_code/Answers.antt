use Rattle.naga_oil_lines.proofs.DecorateLemmas.{decoded-base32, coded_text}
use Rattle.naga_oil_lines.proofs.decorate.one_code.Goals as goal

pub returns-clause-coded : goal.returns-clause-coded
returns-clause-coded c = decoded-base32

pub returns-clause-decoded : goal.returns-clause-decoded
returns-clause-decoded c = coded_text

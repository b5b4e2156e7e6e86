use Rattle.std.proofs.Common.{subst, sym}
use Rattle.naga_oil_pre.specs.Reading.{IsReading}
use Rattle.naga_oil_pre.proofs.ReadingLemmas.{IsReading-reading}
use Rattle.naga_oil_pre.proofs.OneReading.{only_reading}
use Rattle.naga_oil_pre.proofs.laws.one_reading.Goals as goal

pub returns : goal.returns
returns c = λ defs lines block. (only_reading defs lines block, λ e. subst (IsReading defs lines) (sym e) (IsReading-reading defs lines))

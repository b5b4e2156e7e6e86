use Rattle.std.proofs.Common.{append_assoc}
use Rattle.naga_oil_registry.proofs.report.push_notes.Goals as goal

pub returns-in-ImportParseError : goal.returns-in-ImportParseError
returns-in-ImportParseError c = rw c.in-ImportParseError.is (simp append_assoc c.write.ensures.bytes)

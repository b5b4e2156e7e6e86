use Rattle.naga_oil_pre.proofs.RecordedLemmas.{bare_recorded, name_recorded}
use Rattle.naga_oil_pre.proofs.recorded.record_after_hash.Goals as goal

pub returns-in_default-clause-names : goal.returns-in_default-clause-names
returns-in_default-clause-names c = bare_recorded _ _ c.in_default.ensures

pub returns-clause-names : goal.returns-clause-names
returns-clause-names c = name_recorded _ _ _ _ _ c.in-Some.ensures c.in_ok-record_name.ensures

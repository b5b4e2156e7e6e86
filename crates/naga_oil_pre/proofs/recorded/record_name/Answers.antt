use Rattle.naga_oil_pre.proofs.RecordedLemmas.{gains_new}
use Rattle.naga_oil_pre.proofs.recorded.record_name.Goals as goal

pub returns-in_ok-insert : goal.returns-in_ok-insert
returns-in_ok-insert c = gains_new _ _ c.in_ok-from_str.field-0 _ c.in_ok-from_str.ensures.ok c.in_ok-insert.ensures.updates

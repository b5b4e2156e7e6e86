use Rattle.naga_oil_lines.proofs.MarkLemmas.{override_read, override_is_read}
use Rattle.naga_oil_lines.proofs.decorate.one_override.Goals as goal

pub returns : goal.returns
returns c = λ text module_name rest. (override_read text module_name rest, override_is_read text module_name rest)

use Rattle.std.proofs.Common.{rules}
use Rattle.std.specs.Str.{chars}
use Rattle.naga_oil_conditions.specs.LineKinds.{import_path}
use Rattle.naga_oil_conditions.proofs.line_kind.import_path.Goals as goal

pub returns-in_err-past_directive : goal.returns-in_err-past_directive
unfolding import_path chars
returns-in_err-past_directive c = search rules

pub returns : goal.returns
unfolding import_path chars
returns c = search rules

use Rattle.std.proofs.Common.{rules}
use Rattle.std.specs.Str.{chars}
use Rattle.naga_oil_conditions.specs.Kind.{unversioned_kind_of}
use Rattle.naga_oil_conditions.proofs.line_kind.unversioned_line_kind.Goals as goal

pub returns-in-Some : goal.returns-in-Some
unfolding unversioned_kind_of chars
returns-in-Some c = search rules

pub returns-in-None : goal.returns-in-None
unfolding unversioned_kind_of chars
returns-in-None c = search rules

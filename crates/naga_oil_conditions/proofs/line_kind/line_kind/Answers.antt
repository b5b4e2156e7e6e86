use Rattle.std.proofs.Common.{rules}
use Rattle.std.specs.Str.{chars}
use Rattle.naga_oil_conditions.specs.Kind.{kind_of, unversioned_kind_of}
use Rattle.naga_oil_conditions.proofs.line_kind.line_kind.Goals as goal

pub returns-in_default : goal.returns-in_default
unfolding kind_of unversioned_kind_of chars
returns-in_default c = search rules

pub returns-in-Some-version : goal.returns-in-Some-version
unfolding kind_of unversioned_kind_of chars
returns-in-Some-version c = search rules

pub returns-in-None : goal.returns-in-None
unfolding kind_of unversioned_kind_of chars
returns-in-None c = search rules

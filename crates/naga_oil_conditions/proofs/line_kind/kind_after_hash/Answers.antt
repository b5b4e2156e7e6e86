use Rattle.std.proofs.Common.{rules}
use Rattle.std.specs.Str.{chars}
use Rattle.naga_oil_conditions.specs.Kind.{kind_after_hash}
use Rattle.naga_oil_conditions.proofs.line_kind.kind_after_hash.Goals as goal

pub returns-in-Some : goal.returns-in-Some
unfolding kind_after_hash chars
returns-in-Some c = search rules

pub returns-in-Some-named_arm : goal.returns-in-Some-named_arm
unfolding kind_after_hash chars
returns-in-Some-named_arm c = search rules

pub returns-in-Some-if_condition : goal.returns-in-Some-if_condition
unfolding kind_after_hash chars
returns-in-Some-if_condition c = search rules

pub returns-then-has_keyword : goal.returns-then-has_keyword
unfolding kind_after_hash chars
returns-then-has_keyword c = search rules

pub returns-then-has_keyword-2 : goal.returns-then-has_keyword-2
unfolding kind_after_hash chars
returns-then-has_keyword-2 c = search rules

pub returns-then-is_some : goal.returns-then-is_some
unfolding kind_after_hash chars
returns-then-is_some c = search rules

pub returns-in-Some-import_path : goal.returns-in-Some-import_path
unfolding kind_after_hash chars
returns-in-Some-import_path c = search rules

pub returns-in-Some-define : goal.returns-in-Some-define
unfolding kind_after_hash chars
returns-in-Some-define c = search rules

pub returns-in_default-define : goal.returns-in_default-define
unfolding kind_after_hash chars
returns-in_default-define c = search rules

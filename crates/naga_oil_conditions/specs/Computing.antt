-- Definitions that rows unfold.
use lib.Utf8.{encode}
use Rattle.std.specs.Str.{chars}
use Rattle.ucd_perl.proofs.Computing.{ucd_perl}
use Rattle.naga_oil_lines.specs.Text.{past_word}
use Rattle.naga_oil_conditions.specs.LineKinds as grammar
use Rattle.naga_oil_conditions.specs.Kind.{kind_of, unversioned_kind_of, kind_after_hash}

-- `unfolding line_kinds` lets `refl` compute the kind of a line
unfoldable pub line_kinds : Unit {0}
unfolding kind_of unversioned_kind_of kind_after_hash grammar.past_hash past_word grammar.past_white grammar.past_else grammar.past_directive grammar.has_keyword grammar.text_at grammar.version grammar.arm grammar.named_arm grammar.operation_at grammar.cut grammar.comparison_at grammar.if_condition grammar.import_path grammar.define chars encode ucd_perl
line_kinds = tt

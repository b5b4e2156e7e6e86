use Rattle.std.proofs.Common.{◌≡◌, ◌++◌, length}
use denote.Text.{Utf8}
use denote.Shadow.{shadow}
use Rattle.std.specs.String.{string_bytes}
use Rattle.std.specs.BTreeMap.{get_by_text}
use Rattle.std.specs.Str.{chars}
use Rattle.naga_oil_conditions.specs.Replaced.{replaced_from}
use Rattle.naga_oil_conditions.proofs.replace.push_replaced.Given as goal

abbrev pub invariant-loop-front : goal.invariant-loop-front
invariant-loop-front l = record {
  text : shadow (Utf8 l.rest);
  same : string_bytes l.out ++ replaced_from (get_by_text l.definitions) (chars l.rest) ≡ string_bytes l.initial.out ++ replaced_from (get_by_text l.definitions) (chars l.line);
}

abbrev pub decreases-loop-front : goal.decreases-loop-front
decreases-loop-front l = length l.rest

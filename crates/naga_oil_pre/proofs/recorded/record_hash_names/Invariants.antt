use Rattle.std.proofs.Common.{◌≡◌, ℕ, List, length}
use denote.Text.{Utf8}
use denote.Shadow.{shadow}
use Rattle.std.specs.Str.{chars}
use Rattle.naga_oil_pre.specs.MetadataView.{has_with}
use Rattle.naga_oil_pre.specs.Recorded.{names_from}
use Rattle.naga_oil_pre.proofs.recorded.record_hash_names.Given as goal

abbrev pub invariant-loop-following : goal.invariant-loop-following
invariant-loop-following l = record {
  text : shadow (Utf8 l.rest);
  names : (name : List ℕ) → has_with l.names (names_from (chars l.rest)) name ≡ has_with l.initial.names (names_from (chars l.text)) name;
}

abbrev pub decreases-loop-following : goal.decreases-loop-following
decreases-loop-following l = length l.rest

use Rattle.std.proofs.Common.{◌≡◌, ◌++◌, ◌-◌, ◌≤◌, length}
use denote.Text.{Utf8}
use denote.Shadow.{shadow}
use Rattle.std.specs.BTreeMap.{get}
use Rattle.std.specs.Char.{encode_utf8}
use Rattle.std.specs.List.{flat_map}
use Rattle.std.specs.Ordering.{nat_cmp}
use Rattle.std.specs.Str.{chars}
use Rattle.std.specs.String.{string_bytes}
use Rattle.naga_oil_registry.specs.Keywords.{edited}
use Rattle.naga_oil_registry.proofs.keywords.with_edits.Given as goal

abbrev pub invariant-loop-first : goal.invariant-loop-first
invariant-loop-first l = record {
  text : shadow (Utf8 l.rest);
  within : length l.rest ≤ length l.text;
  shown : string_bytes l.shown ++ flat_map encode_utf8 (edited (get nat_cmp l.edits) (length l.text - length l.rest) (chars l.rest)) ≡ flat_map encode_utf8 (edited (get nat_cmp l.edits) 0 (chars l.text));
}

abbrev pub decreases-loop-first : goal.decreases-loop-first
decreases-loop-first l = length l.rest

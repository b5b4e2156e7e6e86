use Rattle.std.proofs.Common.{◌≡◌, ◌++◌, ◌-◌, ◌≤◌, map, length}
use denote.Text.{Utf8}
use denote.Shadow.{shadow}
use Rattle.naga_oil_registry.specs.Keywords.{marked_after}
use Rattle.naga_oil_registry.specs.KeywordsView.{marked_of}
use Rattle.naga_oil_registry.proofs.keywords.marked_in.Given as goal

abbrev pub invariant-loop-before : goal.invariant-loop-before
invariant-loop-before l = record {
  text : shadow (Utf8 l.rest);
  within : length l.rest ≤ length l.text;
  found : map marked_of l.found.items ++ marked_after 0 l.keyword (length l.text - length l.rest) l.rest ≡ marked_after 0 l.keyword 0 l.text;
}

abbrev pub decreases-loop-before : goal.decreases-loop-before
decreases-loop-before l = length l.rest

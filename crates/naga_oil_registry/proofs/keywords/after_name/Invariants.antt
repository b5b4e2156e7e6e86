use Rattle.std.proofs.Common.{◌≡◌, ℕ, List, ◌++◌, length}
use denote.Text.{Utf8}
use denote.Shadow.{shadow}
use Rattle.std.specs.Str.{chars}
use Rattle.naga_oil_lines.proofs.TextLemmas.{after_run}
use Rattle.naga_oil_registry.specs.Keywords.{is_name_char}
use Rattle.naga_oil_registry.proofs.keywords.after_name.Given as goal

abbrev pub invariant-loop-first : goal.invariant-loop-first
invariant-loop-first l = record {
  text : shadow (Utf8 l.rest);
  same : after_run is_name_char (chars l.rest) ≡ after_run is_name_char (chars l.text);
  left : (front : List ℕ) × (l.text ≡ front ++ l.rest);
}

abbrev pub decreases-loop-first : goal.decreases-loop-first
decreases-loop-first l = length l.rest

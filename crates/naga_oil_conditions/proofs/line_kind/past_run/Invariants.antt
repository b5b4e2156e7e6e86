use Rattle.std.proofs.Common.{◌≡◌, ℕ, List, ◌++◌, length}
use denote.Text.{Utf8}
use denote.Shadow.{shadow}
use Rattle.std.specs.Str.{chars}
use Rattle.naga_oil_conditions.specs.KindView.{class_of}
use Rattle.naga_oil_lines.proofs.TextLemmas.{after_run}
use Rattle.naga_oil_conditions.proofs.line_kind.past_run.Given as goal

abbrev pub invariant-loop-first : goal.invariant-loop-first
invariant-loop-first l = record {
  text : shadow (Utf8 l.rest);
  same : after_run (class_of l.class) (chars l.rest) ≡ after_run (class_of l.class) (chars l.text);
  suffix : (front : List ℕ) × (l.text ≡ front ++ l.rest);
}

abbrev pub decreases-loop-first : goal.decreases-loop-first
decreases-loop-first l = length l.rest

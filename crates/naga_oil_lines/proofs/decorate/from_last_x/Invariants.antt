use Rattle.std.proofs.Common.{◌≡◌, ℕ, List, ◌++◌, length}
use denote.Text.{Utf8}
use denote.Shadow.{shadow}
use Rattle.std.specs.Option.{option_map, option_or, IfSome}
use Rattle.std.specs.Str.{IsUtf8, chars}
use Rattle.naga_oil_lines.specs.Undecorate.{from_last_x}
use Rattle.naga_oil_lines.proofs.decorate.from_last_x.Given as goal

abbrev pub invariant-loop-first : goal.invariant-loop-first
invariant-loop-first l = record {
  text : shadow (Utf8 l.rest);
  plain : IsUtf8 l.rest;
  same : option_or (from_last_x (chars l.rest)) (option_map (λ r. chars r.now) l.found) ≡ from_last_x (chars l.text);
  left : (front : List ℕ) × (l.text ≡ front ++ l.rest);
  suffix : IfSome l.found (λ r. (front : List ℕ) × (l.text ≡ front ++ r.now));
  utf8 : IfSome l.found (λ r. IsUtf8 r.now);
}

abbrev pub decreases-loop-first : goal.decreases-loop-first
decreases-loop-first l = length l.rest
